-- The values of a rule that was read lie in their bounds.
use Rattle.std.proofs.Common.{◌≡◌, ℕ, suc, ◌<◌, ◌⊎◌, List, [], ◌∷◌, map, length, refl, ap, sym, arith, Bool, true, false, inl, inr, ℤ, pos, neg_ℤ, negsuc, subst, min}
use Rattle.std.specs.Prelude.{Option, Some, None, All, IfSome, option_map, option_and_then, unwrap_or, find, if◌then◌else◌, ◌&&◌, ◌==◌, nat_le, nat_eq, codes, bytes_eq, take, drop, ◌-◌}
use Rattle.std.specs.Int.{IsInRange}
use Rattle.std.specs.List.{AllByRecursion as Each, starts_with}
use Rattle.std.proofs.lemmas.Bool.{leb-true}
use Rattle.std.proofs.lemmas.List.Elements.{All-from_recursion}
use Rattle.std.proofs.lemmas.Option.{none-some, cond_some}
use Rattle.cal_base.specs.Lines.ContentLines.{every, pieces}
use Rattle.cal_base.specs.Texts.Octets.{comma}
use Rattle.cal_base.specs.Texts.Text.{raised_all}
use Rattle.cal_base.specs.Lines.ComponentTrees.{or_else}
use Rattle.cal_moment.specs.Calendar.{IsBetween}
use Rattle.cal_moment.specs.declared.stamp.Day.{Day}
use Rattle.cal_moment.specs.declared.stamp.Local.{Local}
use Rattle.cal_model.specs.declared.rule.DayPart.{DayPart}
use Rattle.cal_model.specs.declared.rule.Freq.{Freq}
use Rattle.cal_model.specs.declared.rule.Rule.{Rule}
use Rattle.cal_model.specs.declared.rule.Until.{Until}
use Rattle.cal_model.specs.declared.rule.Until.TheVariants.{Day as UntilDay}
use Rattle.cal_model.specs.Recurrence.RuleBounds.{IsPlace, IsDayPart, IsWritten, IsWrittenUntil, IsUsable}
use Rattle.cal_model.specs.Values.ValueTexts.{integer_of, date_of, date_time_of}
use Rattle.cal_model.specs.Values.RuleTexts.{Part, weekdays, weekday_named, if_between, number_of, if_place, place_number, second_number, ordinal_of, day_part, day_of, until_of, until_time, freq_of, list_of, is_part_named, meanings, with_part, with_parts, every_time, if_allowed, is_allowed, rule_of_freq, rule_of_parts, rule_parts, freq_in, is_each_once, rule_in_grammar, if_within_bound, is_within_bound, rule_of}
use Rattle.cal_model.proofs.Words.EachLemmas.{both_hold}
use Rattle.cal_model.proofs.Objects.WrittenDates.{date_read, date_time_read, moment_of_digits}

-- Values that may be absent

pub and_then_value : {X Y : Type 0} (f : X → Option Y) (o : Option X) (y : Y) → option_and_then f o ≡ Some y → (x : X) × (o ≡ Some x) × (f x ≡ Some y)
and_then_value f None y is = absurd (none-some y is)
and_then_value f (Some x) y is = (x, refl, is)

pub map_value : {X Y : Type 0} (f : X → Y) (o : Option X) (y : Y) → option_map f o ≡ Some y → (x : X) × (o ≡ Some x) × (y ≡ f x)
map_value f None y is = absurd (none-some y is)
map_value f (Some x) y is = (x, refl, sym (ap (λ found. unwrap_or found y) is))

-- a row that is found is one of the table
find_value : {X : Type 0} (P : X → Type 0) (p : X → Bool) (x : X) (xs : List X) (row : X) (b : Bool) → (if b then Some x else find p xs) ≡ Some row → P x → ((r : X) → find p xs ≡ Some r → P r) → P row
find_value P p x xs row true is fact later = subst P (ap (λ found. unwrap_or found row) is) fact
find_value P p x xs row false is fact later = later row is

pub each_found : {X : Type 0} (P : X → Type 0) (p : X → Bool) (xs : List X) → Each P xs → (row : X) → find p xs ≡ Some row → P row
each_found P p [] facts row is = absurd (none-some row is)
each_found P p (x ∷ xs) facts row is = find_value P p x xs row (p x) is facts.0 (each_found P p xs facts.1)

-- each value of a list is one that was read
every_step : {X : Type 0} (o : Option X) (rest : List (Option X)) (xs : List X) → every (o ∷ rest) ≡ Some xs →
    (x : X) × (ys : List X) × (o ≡ Some x) × (every rest ≡ Some ys) × (xs ≡ x ∷ ys)
every_step None rest xs is = absurd (none-some xs is)
every_step (Some x) rest xs is = let found = map_value (λ ys. x ∷ ys) (every rest) xs is in (x, found.0, refl, found.1, found.2)

pub each_read : {X : Type 0} (P : X → Type 0) (item : List ℕ → Option X) → ((text : List ℕ) (x : X) → item text ≡ Some x → P x) →
    (texts : List (List ℕ)) (xs : List X) → every (map item texts) ≡ Some xs → Each P xs
each_read P item reads [] xs is = subst (Each P) (ap (λ found. unwrap_or found xs) is) tt
each_read P item reads (text ∷ texts) xs is =
    let step = every_step (item text) (map item texts) xs is in
    subst (Each P) (sym step.4) (reads text step.0 step.2, each_read P item reads texts step.1 step.3)

list_read : {X : Type 0} (P : X → Type 0) (item : List ℕ → Option X) → ((text : List ℕ) (x : X) → item text ≡ Some x → P x) →
    (text : List ℕ) (xs : List X) → list_of item text ≡ Some xs → All P xs
list_read P item reads text xs is = All-from_recursion P xs (each_read P item reads (pieces comma text) xs is)

-- Numbers in their bounds

between : (low high : ℕ) (z : ℤ) (n : ℕ) → if_between low high z ≡ Some n → IsInRange low high n
between low high (pos m) n is =
    let found = cond_some (nat_le low m && nat_le m high) m n is in
    let tests = both_hold (nat_le low m) (nat_le m high) found.0 in
    subst (IsInRange low high) found.1 (leb-true low m tests.0, leb-true m high tests.1)
between low high (negsuc m) n is = absurd (none-some n is)

number_read : (low high : ℕ) (text : List ℕ) (n : ℕ) → number_of low high text ≡ Some n → IsInRange low high n
number_read low high text n is = let found = and_then_value (if_between low high) (integer_of text) n is in between low high found.0 n found.2

place : (most : ℕ) (z y : ℤ) → if_place most z ≡ Some y → IsPlace most y
place most (pos m) y is =
    let found = cond_some (nat_le 1 m && nat_le m most) (pos m) y is in
    let tests = both_hold (nat_le 1 m) (nat_le m most) found.0 in
    subst (IsPlace most) found.1 (leb-true 1 m tests.0, leb-true m most tests.1)
place most (negsuc m) y is =
    let found = cond_some (nat_le 1 (suc m) && nat_le (suc m) most) (negsuc m) y is in
    let tests = both_hold (nat_le 1 (suc m)) (nat_le (suc m) most) found.0 in
    subst (IsPlace most) found.1 (leb-true (suc m) most tests.1)

place_read : (most : ℕ) (text : List ℕ) (y : ℤ) → place_number most text ≡ Some y → IsPlace most y
place_read most text y is = let found = and_then_value (if_place most) (integer_of text) y is in place most found.0 y found.2

second_read : (text : List ℕ) (n : ℕ) → second_number text ≡ Some n → n < 60
second_read text n is = let found = map_value (λ m. min m 59) (number_of 0 60 text) n is in rw found.2 (omega arith)

below_read : (high : ℕ) (text : List ℕ) (n : ℕ) → number_of 0 high text ≡ Some n → n < suc high
below_read high text n is = omega (arith, (number_read 0 high text n is).1)

weekdays_below : Each (λ (row : List ℕ × ℕ). row.1 < 7) weekdays
weekdays_below = (omega arith, (omega arith, (omega arith, (omega arith, (omega arith, (omega arith, (omega arith, tt)))))))

weekday_read : (text : List ℕ) (n : ℕ) → weekday_named text ≡ Some n → n < 7
weekday_read text n is =
    let found = map_value (λ (row : List ℕ × ℕ). row.1) (find (λ (row : List ℕ × ℕ). bytes_eq row.0 (raised_all text)) weekdays) n is in
    rw found.2 (each_found (λ (row : List ℕ × ℕ). row.1 < 7) (λ (row : List ℕ × ℕ). bytes_eq row.0 (raised_all text)) weekdays weekdays_below found.0 found.1)

ordinal_case : (b : Bool) (text : List ℕ) (y : ℤ) → (if b then Some (pos 0) else place_number 53 text) ≡ Some y → (y ≡ pos 0) ⊎ IsPlace 53 y
ordinal_case true text y is = inl (sym (ap (λ found. unwrap_or found y) is))
ordinal_case false text y is = inr (place_read 53 text y is)

day_case : (ordinal : Option ℤ) (weekday : Option ℕ) (part : DayPart) → day_part ordinal weekday ≡ Some part →
    ((y : ℤ) → ordinal ≡ Some y → (y ≡ pos 0) ⊎ IsPlace 53 y) → ((n : ℕ) → weekday ≡ Some n → n < 7) → IsDayPart part
day_case None weekday part is ordinals days = absurd (none-some part is)
day_case (Some ordinal) None part is ordinals days = absurd (none-some part is)
day_case (Some ordinal) (Some weekday) part is ordinals days =
    subst IsDayPart (ap (λ found. unwrap_or found part) is) (record { ordinal = ordinals ordinal refl; weekday = days weekday refl })

day_read : (text : List ℕ) (part : DayPart) → day_of text ≡ Some part → IsDayPart part
day_read text part is =
    let front = take (length text - 2) text in
    let back = drop (length text - 2) text in
    day_case (ordinal_of front) (weekday_named back) part is (ordinal_case (length front == 0) front) (weekday_read back)

-- UNTIL
until_case : (time : Local × Bool) → IsWritten time.0 → IsWrittenUntil (Some (until_time time))
until_case (local, true) written = moment_of_digits local.day local.second written.from_first written.to_last written.second_below
until_case (local, false) written = written

until_from : (date : Option Day) (time : Option (Local × Bool)) (until : Until) → or_else (option_map UntilDay date) (option_map until_time time) ≡ Some until →
    ((day : Day) → date ≡ Some day → IsBetween (neg_ℤ (pos 719_162)) (pos 2_932_896) day.0) → ((value : Local × Bool) → time ≡ Some value → IsWritten value.0) → IsWrittenUntil (Some until)
until_from (Some day) time until is dates times = subst (λ u. IsWrittenUntil (Some u)) (ap (λ o. unwrap_or o until) is) (dates day refl)
until_from None time until is dates times =
    let found = map_value until_time time until is in
    subst (λ u. IsWrittenUntil (Some u)) (sym found.2) (until_case found.0 (times found.0 found.1))

until_read : (text : List ℕ) (until : Until) → until_of text ≡ Some until → IsWrittenUntil (Some until)
until_read text until is = until_from (date_of text) (date_time_of text) until is (date_read text) (date_time_read text)

-- Each part leaves the others as they are

abbrev Keeps : (List ℕ → Rule → Option Rule) → Type 0
Keeps put = (text : List ℕ) (rule new : Rule) → IsUsable rule → put text rule ≡ Some new → IsUsable new

with_interval : (rule : Rule) (n : ℕ) → IsUsable rule → 0 < n → IsUsable (record rule { interval = n })
with_interval rule n usable fact = assumption fact

with_count : (rule : Rule) (n : ℕ) → IsUsable rule → IfSome (Some n) (λ count. 0 < count) → IsUsable (record rule { count = Some n })
with_count rule n usable fact = assumption fact

with_until : (rule : Rule) (until : Until) → IsUsable rule → IsWrittenUntil (Some until) → IsUsable (record rule { until = Some until })
with_until rule until usable fact = assumption fact

with_week_start : (rule : Rule) (n : ℕ) → IsUsable rule → n < 7 → IsUsable (record rule { week_start = n })
with_week_start rule n usable fact = assumption fact

with_months : (rule : Rule) (ns : List ℕ) → IsUsable rule → All (IsInRange 1 12) ns → IsUsable (record rule { by_month = ns })
with_months rule ns usable fact = assumption fact

with_weeks : (rule : Rule) (ns : List ℤ) → IsUsable rule → All (IsPlace 53) ns → IsUsable (record rule { by_week = ns })
with_weeks rule ns usable fact = assumption fact

with_year_days : (rule : Rule) (ns : List ℤ) → IsUsable rule → All (IsPlace 366) ns → IsUsable (record rule { by_year_day = ns })
with_year_days rule ns usable fact = assumption fact

with_month_days : (rule : Rule) (ns : List ℤ) → IsUsable rule → All (IsPlace 31) ns → IsUsable (record rule { by_month_day = ns })
with_month_days rule ns usable fact = assumption fact

with_days : (rule : Rule) (days : List DayPart) → IsUsable rule → All IsDayPart days → IsUsable (record rule { by_day = days })
with_days rule days usable fact = assumption fact

with_hours : (rule : Rule) (ns : List ℕ) → IsUsable rule → All (λ n. n < 24) ns → IsUsable (record rule { by_hour = ns })
with_hours rule ns usable fact = assumption fact

with_minutes : (rule : Rule) (ns : List ℕ) → IsUsable rule → All (λ n. n < 60) ns → IsUsable (record rule { by_minute = ns })
with_minutes rule ns usable fact = assumption fact

with_seconds : (rule : Rule) (ns : List ℕ) → IsUsable rule → All (λ n. n < 60) ns → IsUsable (record rule { by_second = ns })
with_seconds rule ns usable fact = assumption fact

with_places : (rule : Rule) (ns : List ℤ) → IsUsable rule → All (IsPlace 366) ns → IsUsable (record rule { by_set_pos = ns })
with_places rule ns usable fact = assumption fact

keeps_all : {X : Type 0} (P : X → Type 0) (read : List ℕ → Option X) (put : X → Rule → Rule) →
    ((text : List ℕ) (x : X) → read text ≡ Some x → P x) → ((rule : Rule) (x : X) → IsUsable rule → P x → IsUsable (put x rule)) →
    Keeps (λ text rule. option_map (λ x. put x rule) (read text))
keeps_all P read put reads keeps text rule new usable is =
    let found = map_value (λ x. put x rule) (read text) new is in
    subst IsUsable (sym found.2) (keeps rule found.0 usable (reads text found.0 found.1))

each_keeps : Each (λ (row : List ℕ × (List ℕ → Rule → Option Rule)). Keeps row.1) meanings
each_keeps = (
  keeps_all (λ freq. Unit {0}) freq_of (λ freq rule. rule) (λ text x is. tt) (λ rule x usable fact. usable),
  (
    keeps_all (λ n. 0 < n) (number_of 1 999999999) (λ n rule. record rule { interval = n }) (λ text n is. (number_read 1 999999999 text n is).0) with_interval,
    (
      keeps_all (λ n. 0 < n) (number_of 1 999999999) (λ n rule. record rule { count = Some n }) (λ text n is. (number_read 1 999999999 text n is).0) with_count,
      (
        keeps_all (λ until. IsWrittenUntil (Some until)) until_of (λ until rule. record rule { until = Some until }) until_read with_until,
        (
          keeps_all (λ n. n < 7) weekday_named (λ n rule. record rule { week_start = n }) weekday_read with_week_start,
          (
            keeps_all (All (IsInRange 1 12)) (list_of (number_of 1 12)) (λ ns rule. record rule { by_month = ns }) (list_read (IsInRange 1 12) (number_of 1 12) (number_read 1 12)) with_months,
            (
              keeps_all (All (IsPlace 53)) (list_of (place_number 53)) (λ ns rule. record rule { by_week = ns }) (list_read (IsPlace 53) (place_number 53) (place_read 53)) with_weeks,
              (
                keeps_all (All (IsPlace 366)) (list_of (place_number 366)) (λ ns rule. record rule { by_year_day = ns }) (list_read (IsPlace 366) (place_number 366) (place_read 366)) with_year_days,
                (
                  keeps_all (All (IsPlace 31)) (list_of (place_number 31)) (λ ns rule. record rule { by_month_day = ns }) (list_read (IsPlace 31) (place_number 31) (place_read 31)) with_month_days,
                  (
                    keeps_all (All IsDayPart) (list_of day_of) (λ days rule. record rule { by_day = days }) (list_read IsDayPart day_of day_read) with_days,
                    (
                      keeps_all (All (λ n. n < 24)) (list_of (number_of 0 23)) (λ ns rule. record rule { by_hour = ns }) (list_read (λ n. n < 24) (number_of 0 23) (below_read 23)) with_hours,
                      (
                        keeps_all (All (λ n. n < 60)) (list_of (number_of 0 59)) (λ ns rule. record rule { by_minute = ns }) (list_read (λ n. n < 60) (number_of 0 59) (below_read 59)) with_minutes,
                        (
                          keeps_all (All (λ n. n < 60)) (list_of second_number) (λ ns rule. record rule { by_second = ns }) (list_read (λ n. n < 60) second_number second_read) with_seconds,
                          (
                            keeps_all (All (IsPlace 366)) (list_of (place_number 366)) (λ ns rule. record rule { by_set_pos = ns }) (list_read (IsPlace 366) (place_number 366) (place_read 366)) with_places,
                            tt,
                          ),
                        ),
                      ),
                    ),
                  ),
                ),
              ),
            ),
          ),
        ),
      ),
    ),
  ),
)

-- Whole rules

abbrev put_part : Part → Rule → Option (List ℕ × (List ℕ → Rule → Option Rule)) → Option Rule
put_part part rule row = elim row [
  | None ↦ if starts_with nat_eq part.0 (codes "X-") then Some rule else None
  | Some r ↦ r.1 part.1 rule
]

own_part : (b : Bool) (rule new : Rule) → IsUsable rule → (if b then Some rule else None) ≡ Some new → IsUsable new
own_part b rule new usable is = subst IsUsable (cond_some b rule new is).1 usable

part_usable : (part : Part) (rule new : Rule) (row : Option (List ℕ × (List ℕ → Rule → Option Rule))) → IsUsable rule → put_part part rule row ≡ Some new →
    ((r : List ℕ × (List ℕ → Rule → Option Rule)) → row ≡ Some r → Keeps r.1) → IsUsable new
part_usable part rule new None usable is keeps = own_part (starts_with nat_eq part.0 (codes "X-")) rule new usable is
part_usable part rule new (Some r) usable is keeps = keeps r refl part.1 rule new usable is

with_part_usable : (part : Part) (rule new : Rule) → IsUsable rule → with_part part rule ≡ Some new → IsUsable new
with_part_usable part rule new usable is =
    part_usable part rule new (find (λ (row : List ℕ × (List ℕ → Rule → Option Rule)). is_part_named row.0 part) meanings) usable is
    (each_found (λ (row : List ℕ × (List ℕ → Rule → Option Rule)). Keeps row.1) (λ (row : List ℕ × (List ℕ → Rule → Option Rule)). is_part_named row.0 part) meanings each_keeps)

with_parts_usable : (parts : List Part) (rule new : Rule) → IsUsable rule → with_parts parts rule ≡ Some new → IsUsable new
with_parts_usable [] rule new usable is = subst IsUsable (ap (λ found. unwrap_or found new) is) usable
with_parts_usable (part ∷ parts) rule new usable is =
    let found = and_then_value (with_parts parts) (with_part part rule) new is in
    with_parts_usable parts found.0 new (with_part_usable part rule found.0 usable found.1) found.2

every_time_usable : (freq : Freq) → IsUsable (every_time freq)
every_time_usable freq = record {
  interval_positive = omega arith;
  count_positive = tt;
  until = tt;
  week_start_below = omega arith;
  months = All-from_recursion (IsInRange 1 12) [] tt;
  weeks = All-from_recursion (IsPlace 53) [] tt;
  year_days = All-from_recursion (IsPlace 366) [] tt;
  month_days = All-from_recursion (IsPlace 31) [] tt;
  days = All-from_recursion IsDayPart [] tt;
  hours = All-from_recursion (λ n. n < 24) [] tt;
  minutes = All-from_recursion (λ n. n < 60) [] tt;
  seconds = All-from_recursion (λ n. n < 60) [] tt;
  places = All-from_recursion (IsPlace 366) [] tt;
}

if_usable : (b : Bool) (rule new : Rule) → IsUsable rule → (if b then Some rule else None) ≡ Some new → IsUsable new
if_usable b rule new usable is = subst IsUsable (cond_some b rule new is).1 usable

parts_usable : (parts : List Part) (rule : Rule) → rule_of_parts parts ≡ Some rule → IsUsable rule
parts_usable parts rule is =
    let freq = and_then_value (rule_of_freq parts) (freq_in parts) rule (once (is_each_once parts) (option_and_then (rule_of_freq parts) (freq_in parts)) rule is) in
    let made = and_then_value if_allowed (with_parts parts (every_time freq.0)) rule freq.2 in
    if_usable (is_allowed made.0) made.0 rule (with_parts_usable parts (every_time freq.0) made.0 (every_time_usable freq.0) made.1) made.2
  where
    once : (b : Bool) (found : Option Rule) (made : Rule) → (if b then found else None) ≡ Some made → found ≡ Some made
    once true found made good = good
    once false found made good = absurd (none-some made good)

-- a rule that is read has its values in their bounds
pub IsUsable-rule_of : (text : List ℕ) (rule : Rule) → rule_of text ≡ Some rule → IsUsable rule
unfolding rule_in_grammar
IsUsable-rule_of text rule is =
    let bound = and_then_value if_within_bound (rule_in_grammar text) rule is in
    let parts = and_then_value rule_of_parts (rule_parts text) bound.0 bound.1 in
    if_usable (is_within_bound bound.0) bound.0 rule (parts_usable parts.0 bound.0 parts.2) bound.2
