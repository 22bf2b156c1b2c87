-- Fronts of UNTIL: where a text begins a date or a time, it becomes one with the end of one of two times.
use Rattle.std.proofs.Common.{◌≡◌, ℕ, zero, suc, ◌+◌, ◌-◌, ◌*◌, ◌/◌, ◌%◌, ◌^◌, ◌<◌, ◌≤◌, Bool, true, false, List, [], ◌∷◌, ◌++◌, length, take, drop, codes, Some, option_map, refl, sym, ap, ap₂, subst, ◌∙◌, arith, ◌⊎◌, inl, inr, append_assoc}
use Rattle.std.specs.Prelude.{min}
use Rattle.std.proofs.Math.Seq.{take-append_seam, take-append-add, drop-append-add}
use Rattle.std.proofs.lemmas.Bool.{cases_lt}
use Rattle.std.proofs.lemmas.List.{length-append, append-nil, take-append-le, drop-append-le, drop_all}
use Rattle.std.proofs.lemmas.Nat.{div-mul-add, mod-mul-add}
use Rattle.cal_base.specs.Lines.ComponentTrees.{or_else}
use Rattle.cal_moment.specs.declared.stamp.Local.{Local}
use Rattle.cal_moment.specs.Calendar.{IsDate, month_length, day_of_date, day_since_1970}
use Rattle.cal_moment.specs.Texts.{digits, date_text, time_text, utc_text, SpellsDateTime}
use Rattle.cal_model.specs.declared.rule.Until.{Until}
use Rattle.cal_model.specs.declared.rule.Until.TheVariants.{Day as UntilDay}
use Rattle.cal_model.specs.Values.ValueTexts.{date_of, date_time_of}
use Rattle.cal_model.specs.Values.RuleTexts.{until_of, until_time}
use Rattle.cal_model.proofs.Values.CutLemmas.{cases_Option, option_map_some}
use Rattle.cal_model.proofs.Values.ValueLaws.{SpellsDate-date_of, SpellsDateTime-date_time_of, date_time_of-SpellsDateTime}

-- one digit before others
digits_cons : (count d n : ℕ) → n < 10 ^ count → digits (suc count) (d * 10 ^ count + n) ≡ (48 + d) ∷ digits count n
digits_cons count d n h = ap₂ (λ a b. (48 + a) ∷ digits count b) (div-mul-add d (10 ^ count) n h) (mod-mul-add d (10 ^ count) n h)

-- a month has 28 days at least
month_is_long : (y m : ℕ) → 28 ≤ month_length y m
month_is_long y m = grind arith

-- Dates

-- a front of a date and a rest that make a date
record DateFill (text : List ℕ) : Type 0 where
  year : ℕ
  month : ℕ
  day : ℕ
  date : IsDate year month day
  filled : text ≡ date_text year month day

year_fill : (y' : ℕ) (text : List ℕ) → 1 ≤ y' → y' ≤ 9999 → text ≡ digits 4 y' → DateFill (text ++ codes "0101")
year_fill y' text some most e = record { year = y'; month = 1; day = 1; date = ((some, most), (omega arith, omega arith), (omega arith, omega (arith, month_is_long y' 1))); filled = ap (λ t. t ++ codes "0101") e }

-- the first digits of a date go on with those of one of two days
date_fill : (k y m d : ℕ) → IsDate y m d → k ≤ 8 → DateFill (take k (date_text y m d) ++ drop k (codes "00040101")) ⊎ DateFill (take k (date_text y m d) ++ drop k (codes "00040100"))
date_fill zero y m d date le = inl (year_fill 4 (codes "0004") (omega arith) (omega arith) refl)
date_fill (suc zero) y m d date le =
    let a = y / 1000 in
    inl (year_fill (a * 1000 + 4) ((48 + a) ∷ codes "004") (omega arith) (omega (arith, date.0.1)) (sym (digits_cons 3 a 4 (omega arith))))
date_fill (suc (suc zero)) y m d date le =
    let a = y / 1000 in
    let b = y % 1000 / 100 in
    inl (year_fill (a * 1000 + (b * 100 + 4)) ((48 + a) ∷ (48 + b) ∷ codes "04") (omega arith) (omega (arith, date.0.1))
    (sym (digits_cons 3 a (b * 100 + 4) (omega arith) ∙ ap (λ t. (48 + a) ∷ t) (digits_cons 2 b 4 (omega arith)))))
date_fill (suc (suc (suc zero))) y m d date le =
    let a = y / 1000 in
    let b = y % 1000 / 100 in
    let c = y % 1000 % 100 / 10 in
    inl (year_fill (a * 1000 + (b * 100 + (c * 10 + 4))) ((48 + a) ∷ (48 + b) ∷ (48 + c) ∷ codes "4") (omega arith) (omega (arith, date.0.1))
    (sym (digits_cons 3 a (b * 100 + (c * 10 + 4)) (omega arith) ∙ ap (λ t. (48 + a) ∷ t) (digits_cons 2 b (c * 10 + 4) (omega arith) ∙ ap (λ t. (48 + b) ∷ t) (digits_cons 1 c 4 (omega arith))))))
date_fill (suc (suc (suc (suc zero)))) y m d date le = inl (year_fill y (digits 4 y) date.0.0 date.0.1 refl)
date_fill (suc (suc (suc (suc (suc zero))))) y m d date le =
    let a = m / 10 in
    let m' = a * 10 + 1 in
    inl (record { year = y; month = m'; day = 1; date = (date.0, (omega arith, omega (arith, date.1.1)), (omega arith, omega (arith, month_is_long y m'))); filled = ap (λ t. digits 4 y ++ (t ++ codes "01")) (sym (digits_cons 1 a 1 (omega arith))) })
date_fill (suc (suc (suc (suc (suc (suc zero)))))) y m d date le =
    inl (record { year = y; month = m; day = 1; date = (date.0, date.1, (omega arith, omega (arith, month_is_long y m))); filled = refl })
date_fill (suc (suc (suc (suc (suc (suc (suc zero))))))) y m d date le =
    let a = d / 10 in
    elim (cases_lt a 3) [
      | inl early ↦ inl (record { year = y; month = m; day = a * 10 + 1; date = (date.0, date.1, (omega arith, omega (arith, month_is_long y m, early))); filled = ap (λ t. digits 4 y ++ (digits 2 m ++ t)) (sym (digits_cons 1 a 1 (omega arith))) })
      | inr late ↦ inr (record { year = y; month = m; day = a * 10 + 0; date = (date.0, date.1, (omega (arith, late), omega (arith, date.2.1))); filled = ap (λ t. digits 4 y ++ (digits 2 m ++ t)) (sym (digits_cons 1 a 0 (omega arith))) })
    ]
date_fill (suc (suc (suc (suc (suc (suc (suc (suc zero)))))))) y m d date le =
    inl (record { year = y; month = m; day = d; date = date; filled = refl })
date_fill (suc (suc (suc (suc (suc (suc (suc (suc (suc k))))))))) y m d date le = absurd (omega (arith, le))

-- Times

record TimeFill (text : List ℕ) : Type 0 where
  hour : ℕ
  minute : ℕ
  second : ℕ
  hour_in : hour ≤ 23
  minute_in : minute ≤ 59
  second_in : second ≤ 60
  filled : text ≡ time_text hour minute second

time_fill : (k h n s : ℕ) → h ≤ 23 → n ≤ 59 → s ≤ 60 → k ≤ 6 → TimeFill (take k (time_text h n s) ++ drop k (codes "000000"))
time_fill zero h n s hh nn ss le = record { hour = 0; minute = 0; second = 0; hour_in = omega arith; minute_in = omega arith; second_in = omega arith; filled = refl }
time_fill (suc zero) h n s hh nn ss le = record { hour = h / 10 * 10 + 0; minute = 0; second = 0; hour_in = omega (arith, hh); minute_in = omega arith; second_in = omega arith; filled = ap (λ t. t ++ codes "0000") (sym (digits_cons 1 (h / 10) 0 (omega arith))) }
time_fill (suc (suc zero)) h n s hh nn ss le = record { hour = h; minute = 0; second = 0; hour_in = hh; minute_in = omega arith; second_in = omega arith; filled = refl }
time_fill (suc (suc (suc zero))) h n s hh nn ss le = record { hour = h; minute = n / 10 * 10 + 0; second = 0; hour_in = hh; minute_in = omega (arith, nn); second_in = omega arith; filled = ap (λ t. digits 2 h ++ (t ++ codes "00")) (sym (digits_cons 1 (n / 10) 0 (omega arith))) }
time_fill (suc (suc (suc (suc zero)))) h n s hh nn ss le = record { hour = h; minute = n; second = 0; hour_in = hh; minute_in = nn; second_in = omega arith; filled = refl }
time_fill (suc (suc (suc (suc (suc zero))))) h n s hh nn ss le = record { hour = h; minute = n; second = s / 10 * 10 + 0; hour_in = hh; minute_in = nn; second_in = omega (arith, ss); filled = ap (λ t. digits 2 h ++ (digits 2 n ++ t)) (sym (digits_cons 1 (s / 10) 0 (omega arith))) }
time_fill (suc (suc (suc (suc (suc (suc zero)))))) h n s hh nn ss le = record { hour = h; minute = n; second = s; hour_in = hh; minute_in = nn; second_in = ss; filled = refl }
time_fill (suc (suc (suc (suc (suc (suc (suc k))))))) h n s hh nn ss le = absurd (omega (arith, le))

-- What UNTIL begins

-- a time behind its T
record TimeTail (tail : List ℕ) : Type 0 where
  hour : ℕ
  minute : ℕ
  second : ℕ
  utc : Bool
  hour_in : hour ≤ 23
  minute_in : minute ≤ 59
  second_in : second ≤ 60
  is : tail ≡ 84 ∷ (time_text hour minute second ++ utc_text utc)

-- a date, and perhaps a time behind it
record WholeUntil (text : List ℕ) : Type 0 where
  year : ℕ
  month : ℕ
  day : ℕ
  tail : List ℕ
  date : IsDate year month day
  split : text ≡ date_text year month day ++ tail
  behind : (tail ≡ []) ⊎ TimeTail tail

whole_until : (text : List ℕ) (u : Until) → until_of text ≡ Some u → WholeUntil text
whole_until text u e =
    elim (cases_Option (date_of text)) [
      | inl none ↦ (let time = option_map_some until_time (date_time_of text) u (sym (ap (λ o. or_else (option_map UntilDay o) (option_map until_time (date_time_of text))) none) ∙ e) in
          let s = SpellsDateTime-date_time_of text time.0 time.1 in
          let d = s.spells_date in
          let t = s.spells_time in
          record {
            year = d.year;
            month = d.month;
            day = d.day;
            tail = 84 ∷ (time_text t.hour t.minute t.second ++ utc_text time.0.1);
            date = d.date;
            split = s.spelled ∙ ap₂ (λ a b. a ++ (84 ∷ (b ++ utc_text time.0.1))) d.spelled t.spelled;
            behind = inr (record { hour = t.hour; minute = t.minute; second = t.second; utc = time.0.1; hour_in = t.hour_in; minute_in = t.minute_in; second_in = t.second_in; is = refl });
          })
      | inr day ↦ (let d = SpellsDate-date_of text day.0 day.1 in
          record { year = d.year; month = d.month; day = d.day; tail = []; date = d.date; split = d.spelled ∙ sym (append-nil (date_text d.year d.month d.day)); behind = inl refl })
    ]

-- a date and a time are an UNTIL
time_is_until : (text : List ℕ) (value : Local × Bool) → date_time_of text ≡ Some value → (u : Until) × (until_of text ≡ Some u)
time_is_until text value e =
    elim (cases_Option (date_of text)) [
      | inl none ↦ (until_time value, ap₂ (λ d t. or_else (option_map UntilDay d) (option_map until_time t)) none e)
      | inr day ↦ (UntilDay day.0, ap (λ d. or_else (option_map UntilDay d) (option_map until_time (date_time_of text))) day.1)
    ]

made_until : (text : List ℕ) (y m d h n s : ℕ) → IsDate y m d → h ≤ 23 → n ≤ 59 → s ≤ 60 → text ≡ date_text y m d ++ (84 ∷ time_text h n s) → (u : Until) × (until_of text ≡ Some u)
made_until text y m d h n s date hh nn ss e =
    let local : Local = record { day = day_since_1970 (day_of_date y m d); second = 3600 * h + 60 * n + min s 59 } in
    let spells : SpellsDateTime text (local, false) = record {
      date = date_text y m d;
      time = time_text h n s;
      spells_date = record { year = y; month = m; day = d; date = date; spelled = refl; number = refl };
      spells_time = record { hour = h; minute = n; second = s; hour_in = hh; minute_in = nn; second_in = ss; spelled = refl; number = refl };
      spelled = e ∙ ap (λ t. date_text y m d ++ (84 ∷ t)) (sym (append-nil (time_text h n s)));
    } in
    time_is_until text (local, false) (date_time_of-SpellsDateTime text (local, false) spells)

-- the two times whose ends are tried
abbrev pub first_pattern : List ℕ
first_pattern = codes "00040101T000000"

abbrev pub second_pattern : List ℕ
second_pattern = codes "00040100T000000"

pub record UntilFront (text : List ℕ) : Type 0 where
  pub end : List ℕ
  pub is_end : (end ≡ drop (length text) first_pattern) ⊎ (end ≡ drop (length text) second_pattern)
  pub value : Until
  pub reads : until_of (text ++ end) ≡ Some value

-- a front within the date
within_date : (text : List ℕ) (k : ℕ) (day_end : List ℕ) → length day_end ≡ 8 → k ≤ 8 → DateFill (text ++ drop k day_end) → (u : Until) × (until_of (text ++ drop k (day_end ++ codes "T000000")) ≡ Some u)
within_date text k day_end eight le fill =
    made_until (text ++ drop k (day_end ++ codes "T000000")) fill.year fill.month fill.day 0 0 0 fill.date (omega arith) (omega arith) (omega arith)
    (ap (λ t. text ++ t) (drop-append-le k day_end (codes "T000000") (omega (arith, eight, le))) ∙ (sym (append_assoc text (drop k day_end) (codes "T000000")) ∙ ap (λ t. t ++ codes "T000000") fill.filled))

-- the front of a text of which the whole is known
front_is : (text h whole : List ℕ) → text ++ h ≡ whole → text ≡ take (length text) whole
front_is text h whole e = sym (take-append_seam text h) ∙ ap (take (length text)) e

date_front : (text h : List ℕ) (y m d : ℕ) (tail : List ℕ) → IsDate y m d → text ++ h ≡ date_text y m d ++ tail → length text ≤ 8 → UntilFront text
date_front text h y m d tail date e le =
    let k = length text in
    let front : text ≡ take k (date_text y m d) = front_is text h (date_text y m d ++ tail) e ∙ take-append-le k (date_text y m d) tail le in
    elim (date_fill k y m d date le) [
      | inl fill ↦ (let made = within_date text k (codes "00040101") refl le (subst (λ (t : List ℕ). DateFill (t ++ drop k (codes "00040101"))) (sym front) fill) in
          record { end = drop k first_pattern; is_end = inl refl; value = made.0; reads = made.1 })
      | inr fill ↦ (let made = within_date text k (codes "00040100") refl le (subst (λ (t : List ℕ). DateFill (t ++ drop k (codes "00040100"))) (sym front) fill) in
          record { end = drop k second_pattern; is_end = inr refl; value = made.0; reads = made.1 })
    ]

-- a front within the time, so many octets behind the T
time_front : (text h : List ℕ) (j y m d : ℕ) (tail : List ℕ) (u : Until) → IsDate y m d → (t : TimeTail tail) → text ++ h ≡ date_text y m d ++ tail → length text ≡ 9 + j → until_of (text ++ h) ≡ Some u → UntilFront text
time_front text h j y m d tail u date t e size whole =
    let time = time_text t.hour t.minute t.second in
    let date_t = date_text y m d ++ (84 ∷ []) in
    let all : text ++ h ≡ date_t ++ (time ++ utc_text t.utc) = e ∙ ap (λ s. date_text y m d ++ s) t.is in
    let front : text ≡ date_t ++ take j (time ++ utc_text t.utc) = front_is text h (date_t ++ (time ++ utc_text t.utc)) all ∙ (ap (λ k. take k (date_t ++ (time ++ utc_text t.utc))) size ∙ take-append-add date_t (time ++ utc_text t.utc) j) in
    elim (cases_lt j 7) [
      | inl within ↦ (let fill = time_fill j t.hour t.minute t.second t.hour_in t.minute_in t.second_in (omega (arith, within)) in
          let begun : text ≡ date_t ++ take j time = front ∙ ap (λ s. date_t ++ s) (take-append-le j time (utc_text t.utc) (omega (arith, within))) in
          let end : drop (length text) first_pattern ≡ drop j (codes "000000") = ap (λ k. drop k first_pattern) size ∙ drop-append-add (codes "00040101T") (codes "000000") j in
          let made = made_until (text ++ drop (length text) first_pattern) y m d fill.hour fill.minute fill.second date fill.hour_in fill.minute_in fill.second_in
          (ap₂ (λ a b. a ++ b) begun end ∙ (append_assoc date_t (take j time) (drop j (codes "000000")) ∙ ap (λ s. date_t ++ s) fill.filled)) in
          record { end = drop (length text) first_pattern; is_end = inl refl; value = made.0; reads = made.1 })
      | inr past ↦ (let short : length (time ++ utc_text t.utc) ≤ 7 = utc_is_short time t.utc refl in
          let sizes = ap length all ∙ length-append date_t (time ++ utc_text t.utc) in
          let nothing : length h ≤ 0 = omega (arith, length-append text h, sizes, short, size, past) in
          let gone : drop (length text) first_pattern ≡ [] = drop_all (length text) first_pattern (omega (arith, size, past)) in
          record { end = drop (length text) first_pattern; is_end = inl refl; value = u; reads = ap (λ s. until_of (text ++ s)) (gone ∙ sym (is_nothing h nothing)) ∙ whole })
    ]
  where
    utc_is_short : (time : List ℕ) (utc : Bool) → length time ≡ 6 → length (time ++ utc_text utc) ≤ 7
    utc_is_short time true six = omega (arith, length-append time (codes "Z"), six)
    utc_is_short time false six = omega (arith, length-append time [], six)

    is_nothing : (h : List ℕ) → length h ≤ 0 → h ≡ []
    is_nothing [] le = refl
    is_nothing (c ∷ h) le = absurd (omega (arith, le))

-- The front of an UNTIL goes on with one of these ends.
pub until_front : (text h : List ℕ) (u : Until) → until_of (text ++ h) ≡ Some u → UntilFront text
until_front text h u e =
    let w = whole_until (text ++ h) u e in
    elim (cases_lt (length text) 9) [
      | inl within ↦ date_front text h w.year w.month w.day w.tail w.date w.split (omega (arith, within))
      | inr past ↦ elim w.behind [
        | inl none ↦ (let sizes = ap length w.split ∙ length-append (date_text w.year w.month w.day) w.tail in absurd (omega (arith, past, length-append text h, sizes, ap length none)))
        | inr t ↦ time_front text h (length text - 9) w.year w.month w.day w.tail u w.date t w.split (omega (arith, past)) e
      ]
    ]
