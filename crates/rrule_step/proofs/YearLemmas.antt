-- Years that are alike: they begin on one weekday, and they and the years beside them are leap years or not. What a rule asks of a day it asks of the day at the same place of the other year. The years from 2000 to 2027 stand for all.
use Rattle.std.proofs.Common.{◌≡◌, ℕ, zero, suc, ◌+◌, ◌-◌, ◌*◌, ◌/◌, ◌%◌, ◌<◌, ◌≤◌, refl, sym, ap, ◌∙◌, arith, Bool, true, false, ◌||◌, ◌==◌, nat_lt, inl, inr}
use Rattle.std.specs.Prelude.{if◌then◌else◌, List, count_by}
use Rattle.std.specs.List.{list_any}
use Rattle.std.proofs.lemmas.Bool.{cases_Bool, eqb-true, ltb-true, ltb-false}
use Rattle.cal_moment.specs.Calendar.{is_leap, first_of_year, year_of, day_of_year, year_length, month_of, day_of_month, days_before_month, month_length, the_months, weekday_of}
use Rattle.cal_moment.proofs.CalendarLaws.{first_of_year-le, first_of_year-suc, year_of-only}
use Rattle.cal_model.specs.declared.rule.Rule.{Rule}
use Rattle.cal_model.specs.declared.rule.Freq.{Freq}
use Rattle.cal_model.specs.declared.rule.Freq.TheVariants.{Secondly, Minutely, Hourly, Daily, Weekly, Monthly, Yearly}
use Rattle.cal_model.specs.Words.Lists.{is_empty, has_number}
use Rattle.cal_model.specs.Words.Integers.{some_names_place}
use Rattle.cal_model.specs.Recurrence.Passing.{fourth_day, first_fourth_day, week_of_year, weeks_of_year, counts_in_month, weekday_passes, month_passes, month_day_passes, by_day_passes, year_day_passes, week_passes, has_day_part, same_weekday, day_default, day_passes}

pub record AreAlike (y z : ℕ) : Type 0 where
  pub first : first_of_year y % 7 ≡ first_of_year z % 7
  pub before : is_leap (y - 1) ≡ is_leap (z - 1)
  pub leap : is_leap y ≡ is_leap z
  pub after : is_leap (y + 1) ≡ is_leap (z + 1)

-- Lengths.

pub same_length : (a b : ℕ) → is_leap a ≡ is_leap b → year_length a ≡ year_length b
same_length a b e = ap (λ leap. if leap then 366 else 365) e

pub same_month : (a b m : ℕ) → is_leap a ≡ is_leap b → month_length a m ≡ month_length b m
same_month a b m e = ap (λ leap. if m == 2 then (if leap then 29 else 28) else (if (m == 4) || (m == 6) || (m == 9) || (m == 11) then 30 else 31)) e

pub same_before : (a b : ℕ) → is_leap a ≡ is_leap b → (m : ℕ) → days_before_month a m ≡ days_before_month b m
same_before a b e zero = refl
same_before a b e (suc zero) = refl
same_before a b e (suc (suc m)) =
    ap (λ n. n + month_length a (suc m)) (same_before a b e (suc m)) ∙ ap (λ n. days_before_month b (suc m) + n) (same_month a b (suc m) e)

year_size : (y : ℕ) → (365 ≤ year_length y) × (year_length y ≤ 366)
year_size y = grind arith

-- Weeks, by plain numbers.

same_place : (ws d f g : ℕ) → f % 7 ≡ g % 7 → (f + d - (f + (ws + 3 + 7 - (f + 5) % 7) % 7)) / 7 + 1 ≡ (g + d - (g + (ws + 3 + 7 - (g + 5) % 7) % 7)) / 7 + 1
same_place ws d f g e =
    let w : (f + 5) % 7 ≡ (g + 5) % 7 = omega (arith, e) in
    let a : f + d - (f + (ws + 3 + 7 - (f + 5) % 7) % 7) ≡ d - (ws + 3 + 7 - (f + 5) % 7) % 7 = omega arith in
    let b : g + d - (g + (ws + 3 + 7 - (g + 5) % 7) % 7) ≡ d - (ws + 3 + 7 - (g + 5) % 7) % 7 = omega arith in
    ap (λ n. n / 7 + 1) (a ∙ (ap (λ k. d - (ws + 3 + 7 - k) % 7) w ∙ sym b))

same_count : (ws l f g next_f next_g : ℕ) → f % 7 ≡ g % 7 → next_f ≡ f + l → next_g ≡ g + l → (next_f - 1 - (f + (ws + 3 + 7 - (f + 5) % 7) % 7)) / 7 + 1 ≡ (next_g - 1 - (g + (ws + 3 + 7 - (g + 5) % 7) % 7)) / 7 + 1
same_count ws l f g next_f next_g e is_f is_g =
    let w : (f + 5) % 7 ≡ (g + 5) % 7 = omega (arith, e) in
    let a : next_f - 1 - (f + (ws + 3 + 7 - (f + 5) % 7) % 7) ≡ l - 1 - (ws + 3 + 7 - (f + 5) % 7) % 7 = omega (arith, is_f) in
    let b : next_g - 1 - (g + (ws + 3 + 7 - (g + 5) % 7) % 7) ≡ l - 1 - (ws + 3 + 7 - (g + 5) % 7) % 7 = omega (arith, is_g) in
    ap (λ n. n / 7 + 1) (a ∙ (ap (λ k. l - 1 - (ws + 3 + 7 - k) % 7) w ∙ sym b))

mod_less : (f g h k l : ℕ) → f ≡ h + l → g ≡ k + l → f % 7 ≡ g % 7 → h % 7 ≡ k % 7
mod_less f g h k l is_f is_g e = omega (arith, is_f, is_g, e)

mod_more : (f g h k l : ℕ) → h ≡ f + l → k ≡ g + l → f % 7 ≡ g % 7 → h % 7 ≡ k % 7
mod_more f g h k l is_h is_k e = omega (arith, is_h, is_k, e)

fourth_within : (f p off : ℕ) → 6 ≤ f → off < 7 → off ≤ p + 3 → f + p - off + 3 ≡ f + (p + 3 - off)
fourth_within f p off low small late = omega (arith, low, small, late)

fourth_before : (f h l p off : ℕ) → f ≡ h + l → 365 ≤ l → off < 7 → p + 3 < off → f + p - off + 3 ≡ h + (l + p + 3 - off)
fourth_before f h l p off is long small early = omega (arith, is, long, small, early)

fourth_behind : (f n l p off : ℕ) → n ≡ f + l → 6 ≤ f → off < 7 → off ≤ p + 3 → l ≤ p + 3 - off → f + p - off + 3 ≡ n + (p + 3 - off - l)
fourth_behind f n l p off is low small late past = omega (arith, is, low, small, late, past)

-- The weeks of a day whose week's fourth day lies at a place of a year.

next_first : (y : ℕ) → first_of_year (y + 1) ≡ first_of_year y + year_length y
next_first y = let next = first_of_year-suc y in omega (arith, next)

this_first : (y : ℕ) → 1 ≤ y → first_of_year y ≡ first_of_year (y - 1) + year_length (y - 1)
this_first y some = let at : y - 1 + 1 ≡ y = omega (arith, some) in ap first_of_year (sym at) ∙ next_first (y - 1)

week_of : (ws y d day : ℕ) → fourth_day ws day ≡ first_of_year y + d → d < year_length y →
    (week_of_year ws day ≡ (first_of_year y + d - first_fourth_day ws y) / 7 + 1) × (weeks_of_year ws day ≡ (first_of_year (y + 1) - 1 - first_fourth_day ws y) / 7 + 1)
week_of ws y d day is lt =
    let next = next_first y in
    let year : year_of (first_of_year y + d) ≡ y = year_of-only (first_of_year y + d) y (omega arith) (omega (arith, next, lt)) in
    let at : year_of (fourth_day ws day) ≡ y = ap year_of is ∙ year in (
      ap (λ f. (f - first_fourth_day ws (year_of f)) / 7 + 1) is ∙ ap (λ n. (first_of_year y + d - first_fourth_day ws n) / 7 + 1) year,
      ap (λ n. (first_of_year (n + 1) - 1 - first_fourth_day ws n) / 7 + 1) at,
    )

same_week : (ws y z d a b : ℕ) → first_of_year y % 7 ≡ first_of_year z % 7 → is_leap y ≡ is_leap z → d < year_length y → fourth_day ws a ≡ first_of_year y + d → fourth_day ws b ≡ first_of_year z + d →
    (week_of_year ws a ≡ week_of_year ws b) × (weeks_of_year ws a ≡ weeks_of_year ws b)
same_week ws y z d a b first leap lt is_a is_b =
    let size = same_length y z leap in
    let of_a = week_of ws y d a is_a lt in
    let of_b = week_of ws z d b is_b (omega (arith, lt, size)) in
    let next_z : first_of_year (z + 1) ≡ first_of_year z + year_length y = next_first z ∙ ap (λ n. first_of_year z + n) (sym size) in (
      of_a.0 ∙ (same_place ws d (first_of_year y) (first_of_year z) first ∙ sym of_b.0),
      of_a.1 ∙ (same_count ws (year_length y) (first_of_year y) (first_of_year z) (first_of_year (y + 1)) (first_of_year (z + 1)) first (next_first y) next_z ∙ sym of_b.1),
    )

module _ (y z : ℕ) (some_y : 1 ≤ y) (some_z : 1 ≤ z) (are : AreAlike y z) where
  low_y : 366 ≤ first_of_year y
  low_y = let le = first_of_year-le 1 y some_y in omega (arith, le)

  low_z : 366 ≤ first_of_year z
  low_z = let le = first_of_year-le 1 z some_z in omega (arith, le)

  size : year_length y ≡ year_length z
  size = same_length y z are.leap

  before_size : year_length (y - 1) ≡ year_length (z - 1)
  before_size = same_length (y - 1) (z - 1) are.before

  -- three cases: the week belongs to the year before, to this one, or to the next
  weeks_by : (ws a b p off : ℕ) → a ≡ first_of_year y + p → b ≡ first_of_year z + p → (weekday_of a + 7 - ws) % 7 ≡ off → (weekday_of b + 7 - ws) % 7 ≡ off → p < year_length y →
      (week_of_year ws a ≡ week_of_year ws b) × (weeks_of_year ws a ≡ weeks_of_year ws b)
  weeks_by ws a b p off is_a is_b off_a off_b within =
      let small : off < 7 = omega (arith, off_a) in
      let four_a : fourth_day ws a ≡ first_of_year y + p - off + 3 = ap (λ o. a - o + 3) off_a ∙ ap (λ n. n - off + 3) is_a in
      let four_b : fourth_day ws b ≡ first_of_year z + p - off + 3 = ap (λ o. b - o + 3) off_b ∙ ap (λ n. n - off + 3) is_b in
      let low_f = low_y in let low_g = low_z in
      elim (cases_Bool (nat_lt (p + 3) off)) [
        | inl w ↦
            (let early : p + 3 < off = ltb-true _ _ w in
            let bounds = year_size (y - 1) in
            let end_y = this_first y some_y in
            let end_z : first_of_year z ≡ first_of_year (z - 1) + year_length (y - 1) = this_first z some_z ∙ ap (λ n. first_of_year (z - 1) + n) (sym before_size) in
            same_week ws (y - 1) (z - 1) (year_length (y - 1) + p + 3 - off) a b
            (mod_less (first_of_year y) (first_of_year z) (first_of_year (y - 1)) (first_of_year (z - 1)) (year_length (y - 1)) end_y end_z are.first) are.before (omega (arith, early, bounds, small))
            (four_a ∙ fourth_before (first_of_year y) (first_of_year (y - 1)) (year_length (y - 1)) p off end_y bounds.0 small early)
            (four_b ∙ fourth_before (first_of_year z) (first_of_year (z - 1)) (year_length (y - 1)) p off end_z bounds.0 small early))
        | inr w ↦
            (let late : off ≤ p + 3 = ltb-false _ _ w in
            elim (cases_Bool (nat_lt (p + 3 - off) (year_length y))) [
              | inl v ↦ same_week ws y z (p + 3 - off) a b are.first are.leap (ltb-true _ _ v)
                  (four_a ∙ fourth_within (first_of_year y) p off (omega (arith, low_f)) small late)
                  (four_b ∙ fourth_within (first_of_year z) p off (omega (arith, low_g)) small late)
              | inr v ↦
                  (let past : year_length y ≤ p + 3 - off = ltb-false _ _ v in
                  let bounds = year_size (y + 1) in
                  let end_z : first_of_year (z + 1) ≡ first_of_year z + year_length y = next_first z ∙ ap (λ n. first_of_year z + n) (sym size) in
                  same_week ws (y + 1) (z + 1) (p + 3 - off - year_length y) a b
                  (mod_more (first_of_year y) (first_of_year z) (first_of_year (y + 1)) (first_of_year (z + 1)) (year_length y) (next_first y) end_z are.first) are.after (omega (arith, within, bounds))
                  (four_a ∙ fourth_behind (first_of_year y) (first_of_year (y + 1)) (year_length y) p off (next_first y) (omega (arith, low_f)) small late past)
                  (four_b ∙ fourth_behind (first_of_year z) (first_of_year (z + 1)) (year_length y) p off end_z (omega (arith, low_g)) small late past))
            ])
      ]

-- What a rule asks of a day, by the day's places.

abbrev default_form : Freq → Rule → ℕ → ℕ → ℕ → ℕ → Bool
default_form Weekly rule start month of_month weekday = weekday == weekday_of start
default_form Monthly rule start month of_month weekday = of_month == day_of_month start
default_form Yearly rule start month of_month weekday =
    if of_month == day_of_month start
    then (if is_empty rule.by_month then month == month_of start else true)
    else false
default_form other rule start month of_month weekday = true

default_is : (freq : Freq) (rule : Rule) (start day : ℕ) → day_default freq rule start day ≡ default_form freq rule start (month_of day) (day_of_month day) (weekday_of day)
default_is Secondly rule start day = refl
default_is Minutely rule start day = refl
default_is Hourly rule start day = refl
default_is Daily rule start day = refl
default_is Weekly rule start day = refl
default_is Monthly rule start day = refl
default_is Yearly rule start day = refl

abbrev day_form : Rule → ℕ → ℕ → ℕ → ℕ → ℕ → ℕ → ℕ → ℕ → ℕ → Bool
day_form rule start month of_month month_size weekday of_year year_size week weeks =
    if (if is_empty rule.by_month then true else has_number rule.by_month month)
    then (if (if is_empty rule.by_month_day then true else some_names_place rule.by_month_day of_month month_size)
    then (if (if is_empty rule.by_day then true else (if counts_in_month rule.freq rule.by_month then list_any (weekday_passes weekday of_month month_size) rule.by_day else list_any (weekday_passes weekday of_year year_size) rule.by_day))
    then (if (if is_empty rule.by_year_day then true else some_names_place rule.by_year_day of_year year_size)
    then (if (if is_empty rule.by_week then true else some_names_place rule.by_week week weeks)
    then (if has_day_part rule then true else (if is_empty rule.by_week then default_form rule.freq rule start month of_month weekday else weekday == weekday_of start))
    else false)
    else false)
    else false)
    else false)
    else false

day_is : (rule : Rule) (start day : ℕ) → day_passes rule start day ≡ day_form rule start (month_of day) (day_of_month day) (month_length (year_of day) (month_of day)) (weekday_of day) (day_of_year day) (year_length (year_of day)) (week_of_year rule.week_start day) (weeks_of_year rule.week_start day)
unfolding day_passes
day_is rule start day =
    ap (λ rest. if month_passes rule day
    then (if month_day_passes rule day
    then (if by_day_passes rule day
    then (if year_day_passes rule day
    then (if week_passes rule day then (if has_day_part rule then true else (if is_empty rule.by_week then rest else same_weekday start day)) else false)
    else false)
    else false)
    else false)
    else false) (default_is rule.freq rule start day)

same_form : (rule : Rule) (start m n o p s t w x y z l k a b c d : ℕ) → m ≡ n → o ≡ p → s ≡ t → w ≡ x → y ≡ z → l ≡ k → a ≡ b → c ≡ d → day_form rule start m o s w y l a c ≡ day_form rule start n p t x z k b d
same_form rule start m n o p s t w x y z l k a b c d month of_month month_size weekday of_year year_size week weeks =
    ap (λ i. day_form rule start i o s w y l a c) month
    ∙ (ap (λ i. day_form rule start n i s w y l a c) of_month
    ∙ (ap (λ i. day_form rule start n p i w y l a c) month_size
    ∙ (ap (λ i. day_form rule start n p t i y l a c) weekday
    ∙ (ap (λ i. day_form rule start n p t x i l a c) of_year
    ∙ (ap (λ i. day_form rule start n p t x z i a c) year_size
    ∙ (ap (λ i. day_form rule start n p t x z k i c) week
    ∙ ap (λ i. day_form rule start n p t x z k b i) weeks))))))

place_of : (f j : ℕ) → f + j - f + 1 ≡ j + 1
place_of f j = omega arith

same_weekday_at : (f g j : ℕ) → f % 7 ≡ g % 7 → (f + j + 5) % 7 ≡ (g + j + 5) % 7
same_weekday_at f g j e = omega (arith, e)

same_count_by : (p q : ℕ → Bool) → ((k : ℕ) → p k ≡ q k) → (xs : List ℕ) → count_by p xs ≡ count_by q xs
same_count_by p q same xs = ap (λ (r : ℕ → Bool). count_by r xs) (λ i k. same k i)

-- The day at a place of each of two such years.
module _ (y z : ℕ) (some_y : 1 ≤ y) (some_z : 1 ≤ z) (are : AreAlike y z) (j : ℕ) (lt : j < year_length y) where
  lt_z : j < year_length z
  lt_z = let long = size y z some_y some_z are in omega (arith, lt, long)

  year_y : year_of (first_of_year y + j) ≡ y
  year_y = let next = next_first y in year_of-only (first_of_year y + j) y (omega arith) (omega (arith, next, lt))

  year_z : year_of (first_of_year z + j) ≡ z
  year_z = let next = next_first z in let below = lt_z in year_of-only (first_of_year z + j) z (omega arith) (omega (arith, next, below))

  of_year : day_of_year (first_of_year y + j) ≡ day_of_year (first_of_year z + j)
  of_year =
      ap (λ n. first_of_year y + j - first_of_year n + 1) year_y
      ∙ (place_of (first_of_year y) j
      ∙ (sym (place_of (first_of_year z) j) ∙ sym (ap (λ n. first_of_year z + j - first_of_year n + 1) year_z)))

  year_long : year_length (year_of (first_of_year y + j)) ≡ year_length (year_of (first_of_year z + j))
  year_long = ap year_length year_y ∙ (size y z some_y some_z are ∙ sym (ap year_length year_z))

  weekday : weekday_of (first_of_year y + j) ≡ weekday_of (first_of_year z + j)
  weekday = same_weekday_at (first_of_year y) (first_of_year z) j are.first

  before_month : (m : ℕ) → days_before_month (year_of (first_of_year y + j)) m ≡ days_before_month (year_of (first_of_year z + j)) m
  before_month m = ap (λ n. days_before_month n m) year_y ∙ (same_before y z are.leap m ∙ sym (ap (λ n. days_before_month n m) year_z))

  begun : (m : ℕ) → nat_lt (days_before_month (year_of (first_of_year y + j)) m) (day_of_year (first_of_year y + j)) ≡ nat_lt (days_before_month (year_of (first_of_year z + j)) m) (day_of_year (first_of_year z + j))
  begun m =
      ap (λ n. nat_lt n (day_of_year (first_of_year y + j))) (before_month m)
      ∙ ap (λ n. nat_lt (days_before_month (year_of (first_of_year z + j)) m) n) of_year

  month : month_of (first_of_year y + j) ≡ month_of (first_of_year z + j)
  unfolding month_of
  month =
      same_count_by (λ m. nat_lt (days_before_month (year_of (first_of_year y + j)) m) (day_of_year (first_of_year y + j))) (λ m. nat_lt (days_before_month (year_of (first_of_year z + j)) m) (day_of_year (first_of_year z + j))) begun the_months

  of_month : day_of_month (first_of_year y + j) ≡ day_of_month (first_of_year z + j)
  unfolding day_of_month
  of_month =
      ap (λ n. n - days_before_month (year_of (first_of_year y + j)) (month_of (first_of_year y + j))) of_year
      ∙ (ap (λ n. day_of_year (first_of_year z + j) - n) (before_month (month_of (first_of_year y + j)))
      ∙ ap (λ m. day_of_year (first_of_year z + j) - days_before_month (year_of (first_of_year z + j)) m) month)

  month_long : month_length (year_of (first_of_year y + j)) (month_of (first_of_year y + j)) ≡ month_length (year_of (first_of_year z + j)) (month_of (first_of_year z + j))
  month_long =
      ap (λ n. month_length n (month_of (first_of_year y + j))) year_y
      ∙ (same_month y z (month_of (first_of_year y + j)) are.leap
      ∙ (ap (month_length z) month
      ∙ sym (ap (λ n. month_length n (month_of (first_of_year z + j))) year_z)))

  weeks : (ws : ℕ) → (week_of_year ws (first_of_year y + j) ≡ week_of_year ws (first_of_year z + j)) × (weeks_of_year ws (first_of_year y + j) ≡ weeks_of_year ws (first_of_year z + j))
  weeks ws = weeks_by y z some_y some_z are ws (first_of_year y + j) (first_of_year z + j) j ((weekday_of (first_of_year y + j) + 7 - ws) % 7) refl refl refl (ap (λ w. (w + 7 - ws) % 7) (sym weekday)) lt

  pub passes_alike : (rule : Rule) (start : ℕ) → day_passes rule start (first_of_year y + j) ≡ day_passes rule start (first_of_year z + j)
  passes_alike rule start =
      let of_weeks = weeks rule.week_start in
      day_is rule start (first_of_year y + j)
      ∙ (same_form rule start _ _ _ _ _ _ _ _ _ _ _ _ _ _ _ _ month of_month month_long weekday of_year year_long of_weeks.0 of_weeks.1
      ∙ sym (day_is rule start (first_of_year z + j)))

-- Each year has one that is alike among 28 in a row.

below_seven : (P : ℕ → Type 0) → P 0 → P 1 → P 2 → P 3 → P 4 → P 5 → P 6 → (n : ℕ) → n < 7 → P n
below_seven P a b c d e f g zero lt = a
below_seven P a b c d e f g (suc zero) lt = b
below_seven P a b c d e f g (suc (suc zero)) lt = c
below_seven P a b c d e f g (suc (suc (suc zero))) lt = d
below_seven P a b c d e f g (suc (suc (suc (suc zero)))) lt = e
below_seven P a b c d e f g (suc (suc (suc (suc (suc zero))))) lt = f
below_seven P a b c d e f g (suc (suc (suc (suc (suc (suc zero)))))) lt = g
below_seven P a b c d e f g (suc (suc (suc (suc (suc (suc (suc n))))))) lt = absurd (omega (arith, lt))

of_four : (y : ℕ) → is_leap y ≡ true → y % 4 ≡ 0
of_four y leap = elim (cases_Bool (y % 4 == 0)) [ inl w ↦ eqb-true _ _ w | inr w ↦ absurd (let bad = rw w at leap in cc) ]

common : (y : ℕ) → (y % 4 ≡ 0 → ⊥) → is_leap y ≡ false
common y other = elim (cases_Bool (y % 4 == 0)) [ inl w ↦ absurd (other (eqb-true _ _ w)) | inr w ↦ rw w refl ]

-- the leap years from 2000 to 2028
leap_year : (k : ℕ) → k < 7 → is_leap (2000 + 4 * k) ≡ true
leap_year = below_seven (λ k. is_leap (2000 + 4 * k) ≡ true) refl refl refl refl refl refl refl

next_leap_year : (k : ℕ) → k < 7 → is_leap (2004 + 4 * k) ≡ true
next_leap_year = below_seven (λ k. is_leap (2004 + 4 * k) ≡ true) refl refl refl refl refl refl refl

-- of each kind there is one that begins on a weekday
first_of_leap : (w : ℕ) → w < 7 → first_of_year (2000 + 4 * ((3 * w) % 7)) % 7 ≡ w
first_of_leap = below_seven (λ w. first_of_year (2000 + 4 * ((3 * w) % 7)) % 7 ≡ w) refl refl refl refl refl refl refl

first_behind_leap : (w : ℕ) → w < 7 → first_of_year (2001 + 4 * ((3 * (w + 5)) % 7)) % 7 ≡ w
first_behind_leap = below_seven (λ w. first_of_year (2001 + 4 * ((3 * (w + 5)) % 7)) % 7 ≡ w) refl refl refl refl refl refl refl

first_between : (w : ℕ) → w < 7 → first_of_year (2002 + 4 * ((3 * (w + 4)) % 7)) % 7 ≡ w
first_between = below_seven (λ w. first_of_year (2002 + 4 * ((3 * (w + 4)) % 7)) % 7 ≡ w) refl refl refl refl refl refl refl

first_before_leap : (w : ℕ) → w < 7 → first_of_year (2003 + 4 * ((3 * (w + 3)) % 7)) % 7 ≡ w
first_before_leap = below_seven (λ w. first_of_year (2003 + 4 * ((3 * (w + 3)) % 7)) % 7 ≡ w) refl refl refl refl refl refl refl

module _ (y w : ℕ) (some : 1 ≤ y) (on : first_of_year y % 7 ≡ w) (small : w < 7) where
  of_leap : is_leap y ≡ true → (z : ℕ) × (2000 ≤ z) × (z < 2028) × AreAlike y z
  of_leap leap =
      let four = of_four y leap in (
        2000 + 4 * ((3 * w) % 7),
        omega arith,
        omega arith,
        record {
          first = on ∙ sym (first_of_leap w small);
          before = common (y - 1) (λ e. absurd (omega (arith, e, four, some))) ∙ sym (common (2000 + 4 * ((3 * w) % 7) - 1) (λ e. absurd (omega (arith, e))));
          leap = leap ∙ sym (leap_year ((3 * w) % 7) (omega arith));
          after = common (y + 1) (λ e. absurd (omega (arith, e, four))) ∙ sym (common (2000 + 4 * ((3 * w) % 7) + 1) (λ e. absurd (omega (arith, e))));
        },
      )

  of_behind_leap : is_leap y ≡ false → is_leap (y - 1) ≡ true → (z : ℕ) × (2000 ≤ z) × (z < 2028) × AreAlike y z
  of_behind_leap none leap =
      let four = of_four (y - 1) leap in
      let at : 2001 + 4 * ((3 * (w + 5)) % 7) - 1 ≡ 2000 + 4 * ((3 * (w + 5)) % 7) = omega arith in (
        2001 + 4 * ((3 * (w + 5)) % 7),
        omega arith,
        omega arith,
        record {
          first = on ∙ sym (first_behind_leap w small);
          before = leap ∙ sym (ap is_leap at ∙ leap_year ((3 * (w + 5)) % 7) (omega arith));
          leap = none ∙ sym (common (2001 + 4 * ((3 * (w + 5)) % 7)) (λ e. absurd (omega (arith, e))));
          after = common (y + 1) (λ e. absurd (omega (arith, e, four, some))) ∙ sym (common (2001 + 4 * ((3 * (w + 5)) % 7) + 1) (λ e. absurd (omega (arith, e))));
        },
      )

  of_before_leap : is_leap y ≡ false → is_leap (y - 1) ≡ false → is_leap (y + 1) ≡ true → (z : ℕ) × (2000 ≤ z) × (z < 2028) × AreAlike y z
  of_before_leap none early leap =
      let at : 2003 + 4 * ((3 * (w + 3)) % 7) + 1 ≡ 2004 + 4 * ((3 * (w + 3)) % 7) = omega arith in (
        2003 + 4 * ((3 * (w + 3)) % 7),
        omega arith,
        omega arith,
        record {
          first = on ∙ sym (first_before_leap w small);
          before = early ∙ sym (common (2003 + 4 * ((3 * (w + 3)) % 7) - 1) (λ e. absurd (omega (arith, e))));
          leap = none ∙ sym (common (2003 + 4 * ((3 * (w + 3)) % 7)) (λ e. absurd (omega (arith, e))));
          after = leap ∙ sym (ap is_leap at ∙ next_leap_year ((3 * (w + 3)) % 7) (omega arith));
        },
      )

  of_between : is_leap y ≡ false → is_leap (y - 1) ≡ false → is_leap (y + 1) ≡ false → (z : ℕ) × (2000 ≤ z) × (z < 2028) × AreAlike y z
  of_between none early late = (
    2002 + 4 * ((3 * (w + 4)) % 7),
    omega arith,
    omega arith,
    record {
      first = on ∙ sym (first_between w small);
      before = early ∙ sym (common (2002 + 4 * ((3 * (w + 4)) % 7) - 1) (λ e. absurd (omega (arith, e))));
      leap = none ∙ sym (common (2002 + 4 * ((3 * (w + 4)) % 7)) (λ e. absurd (omega (arith, e))));
      after = late ∙ sym (common (2002 + 4 * ((3 * (w + 4)) % 7) + 1) (λ e. absurd (omega (arith, e))));
    },
  )

pub sample_of : (y : ℕ) → 1 ≤ y → (z : ℕ) × (2000 ≤ z) × (z < 2028) × AreAlike y z
sample_of y some =
    let small : first_of_year y % 7 < 7 = omega arith in
    elim (cases_Bool (is_leap y)) [
      | inl leap ↦ of_leap y (first_of_year y % 7) some refl small leap
      | inr none ↦ elim (cases_Bool (is_leap (y - 1))) [
        | inl before ↦ of_behind_leap y (first_of_year y % 7) some refl small none before
        | inr early ↦ elim (cases_Bool (is_leap (y + 1))) [
          | inl after ↦ of_before_leap y (first_of_year y % 7) some refl small none early after
          | inr late ↦ of_between y (first_of_year y % 7) some refl small none early late
        ]
      ]
    ]
