-- What a step over periods and days leaves out, and the times of a day.
use Rattle.std.proofs.Common.{◌≡◌, ℕ, ◌+◌, ◌-◌, ◌*◌, ◌/◌, ◌%◌, ◌<◌, ◌≤◌, refl, sym, ap, ◌∙◌, arith, Bool, true, false, inl, inr, ◌==◌, Option, Some, None, nat_lt}
use Rattle.std.specs.Prelude.{if◌then◌else◌, nat_le}
use Rattle.std.proofs.lemmas.Bool.{cases_Bool, eqb-true, ltb-true, ltb-false}
use Rattle.cal_moment.specs.Calendar.{day_of_moment, second_of_day, month_of}
use Rattle.cal_model.specs.declared.rule.Rule.{Rule}
use Rattle.cal_model.specs.Recurrence.Passing.{passes, period_number, period_passes, day_passes, time_passes}
use Rattle.cal_model.specs.Recurrence.NextPassing.{NonePasses, IsNextPassing, end_day, is_fine}
use Rattle.cal_model.proofs.Recurrence.Days.{passes-on_day, NonePasses-days, NonePasses-period, NoneOnDay-failing}
use Rattle.cal_model.proofs.Recurrence.DayTimes.{period_number-hour, day_of_start, second_of_start}
use Rattle.rrule_step.specs.declared.set.Set.{Set}
use Rattle.rrule_step.specs.declared.step.Plan.{Plan}
use Rattle.rrule_step.specs.Sets.{has}
use Rattle.rrule_step.specs.Clock.{in_hour, in_day}
use Rattle.rrule_step.specs.Firsts.{NoneHolds, IsFirst, FindsFirst}
use Rattle.rrule_step.specs.Periods.{is_counted}
use Rattle.rrule_step.specs.Plans.{IsPlan, passes_on}
use Rattle.rrule_step.specs.StartMoment.{moment_of}

module _ (rule : Rule) (plan : Plan) (is : IsPlan rule plan) where
  pub uncounted : (a b : ℕ) → ((m : ℕ) → a ≤ m → m < b → is_counted plan.first rule.interval (period_number rule.freq rule.week_start m) ≡ false) → NonePasses rule (moment_of plan.start) plan.dated a b
  uncounted a b none = NonePasses-period rule (moment_of plan.start) plan.dated a b (λ m low high. let fails = none m low high in rw is.first at fails)

  pub day_is : day_of_moment (moment_of plan.start) ≡ plan.start.day
  day_is = day_of_start plan.start.day plan.start.second plan.start.second_below

  second_is : second_of_day (moment_of plan.start) ≡ plan.start.second
  second_is = second_of_start plan.start.day plan.start.second plan.start.second_below

  pub days_missed : (a b : ℕ) → ((day : ℕ) → a ≤ day → day < b → day_passes rule plan.start.day day ≡ false) → NonePasses rule (moment_of plan.start) plan.dated (86400 * a) (86400 * b)
  days_missed a b fails = NonePasses-days rule (moment_of plan.start) plan.dated (86400 * a) b
      (λ k low high. NoneOnDay-failing rule (moment_of plan.start) plan.dated (86400 * a) k (ap (λ d. day_passes rule d k) day_is ∙ fails k (omega (arith, low)) high))

  -- the second of a day passes where the hour counts and the times of the day have it
  nest : (a b c : Bool) → (if b then (if a then c else false) else false) ≡ (if (if a then b else false) then c else false)
  nest true true c = refl
  nest true false c = refl
  nest false true c = refl
  nest false false c = refl

  pub passes_in_day : (hours : Set) (day k : ℕ) → is_fine rule.freq ≡ false → k < 86400 → day_passes rule plan.start.day day ≡ true →
      ((h : ℕ) → h < 24 → has hours h ≡ (if has plan.times.hours h then is_counted plan.first rule.interval (period_number rule.freq rule.week_start (86400 * day + 3600 * h)) else false)) →
      in_day hours plan.times.minutes plan.times.seconds k ≡ passes_on rule plan day k
  passes_in_day hours day k coarse small passing made =
      let whole = passes-on_day rule (moment_of plan.start) plan.dated day k small (ap (λ d. day_passes rule d day) day_is ∙ passing) in
      let time = ap (λ s. time_passes rule s plan.dated k) second_is ∙ is.times k small in
      let hour = made (k / 3600) (omega arith) in
      let number = period_number-hour rule.freq rule.week_start (86400 * day + k) (86400 * day + 3600 * (k / 3600)) coarse (omega arith) in
      let counted : period_passes rule (moment_of plan.start) (86400 * day + k) ≡ is_counted plan.first rule.interval (period_number rule.freq rule.week_start (86400 * day + 3600 * (k / 3600))) =
      ap (λ n. is_counted n rule.interval (period_number rule.freq rule.week_start (86400 * day + k))) (sym is.first) ∙ ap (λ n. is_counted plan.first rule.interval n) number in
      ap (λ b. if b then in_hour plan.times.minutes plan.times.seconds (k % 3600) else false) hour
      ∙ (sym (nest (has plan.times.hours (k / 3600)) (is_counted plan.first rule.interval (period_number rule.freq rule.week_start (86400 * day + 3600 * (k / 3600)))) (in_hour plan.times.minutes plan.times.seconds (k % 3600)))
      ∙ (ap (λ b. if b then in_day plan.times.hours plan.times.minutes plan.times.seconds k else false) (sym counted)
      ∙ (ap (λ b. if period_passes rule (moment_of plan.start) (86400 * day + k) then b else false) (sym time) ∙ sym whole)))

-- what is found of one test is found of another that holds at the same numbers
pub FindsFirst-same : (p q : ℕ → Bool) (from end : ℕ) (found : Option ℕ) → ((k : ℕ) → k < end → p k ≡ q k) → FindsFirst p from end found → FindsFirst q from end found
FindsFirst-same p q from end None same none = record { each = λ k low high. sym (same k high) ∙ none.each k low high }
FindsFirst-same p q from end (Some n) same first =
    let below = first.below in
    record {
      at_or_after = first.at_or_after;
      below = below;
      holds = sym (same n below) ∙ first.holds;
      none_before = record { each = λ k low high. sym (same k (omega (arith, below, high))) ∙ first.none_before.each k low high };
    }

-- the first second of a day alone
pub midnight_alone : (k : ℕ) → (k == 0) ≡ (if k / 3600 == 0 then (if k % 3600 / 60 == 0 then k % 3600 % 60 == 0 else false) else false)
midnight_alone k = elim (cases_Bool (k == 0)) [
  | inl w ↦ (let zero = eqb-true k 0 w in rw zero refl)
  | inr w ↦ w ∙ sym (later k w)
]
  where
    at_zero : (n : ℕ) → n ≡ 0 → (n == 0) ≡ true
    at_zero n e = rw e refl

    later : (k : ℕ) → (k == 0) ≡ false → (if k / 3600 == 0 then (if k % 3600 / 60 == 0 then k % 3600 % 60 == 0 else false) else false) ≡ false
    later k some = elim (cases_Bool (k / 3600 == 0)) [
      | inr a ↦ rw a refl
      | inl a ↦ elim (cases_Bool (k % 3600 / 60 == 0)) [
        | inr b ↦ rw (a, b) refl
        | inl b ↦ elim (cases_Bool (k % 3600 % 60 == 0)) [
          | inr c ↦ rw (a, b, c) refl
          | inl c ↦ (let x = eqb-true _ 0 a in let y = eqb-true _ 0 b in let z = eqb-true _ 0 c in let zero : k ≡ 0 = omega (arith, x, y, z) in let bad = at_zero k zero in absurd cc)
        ]
      ]
    ]

-- what is found on a day is found from a moment on, and where nothing is the next day is reached
module _ (rule : Rule) (plan : Plan) (from_day from_second day s0 : ℕ) (at : from_day ≤ day) (same : day ≡ from_day → s0 ≡ from_second) (later : from_day < day → s0 ≡ 0)
    (before : NonePasses rule (moment_of plan.start) plan.dated (86400 * from_day + from_second) (86400 * day)) where
  missed_to : (s : ℕ) → NoneHolds (passes_on rule plan day) s0 s → NonePasses rule (moment_of plan.start) plan.dated (86400 * from_day + from_second) (86400 * day + s)
  missed_to s none = record {
    each = λ m low high. elim (cases_Bool (nat_lt m (86400 * day))) [
      | inl w ↦ before.each m low (ltb-true _ _ w)
      | inr w ↦
          (let on = ltb-false _ _ w in
          let shape : 86400 * day + (m - 86400 * day) ≡ m = omega (arith, on) in
          let late : s0 ≤ m - 86400 * day = elim (cases_Bool (nat_lt from_day day)) [
            | inl v ↦ (let zero = later (ltb-true _ _ v) in omega (arith, zero))
            | inr v ↦ (let le = ltb-false _ _ v in let equal : day ≡ from_day = omega (arith, le, at) in let is = same equal in omega (arith, is, equal, low, on))
          ] in
          let fails = none.each (m - 86400 * day) late (omega (arith, on, high)) in
          rw shape at fails)
    ];
  }

  pub found_on_day : (second : ℕ) → from_second < 86400 → day < end_day → IsFirst (passes_on rule plan day) s0 86400 second → IsNextPassing rule (moment_of plan.start) plan.dated (86400 * from_day + from_second) (86400 * day + second)
  found_on_day second small early first =
      let below = first.below in
      let after = first.at_or_after in
      record {
        from = elim (cases_Bool (nat_lt from_day day)) [
          | inl v ↦ (let lt = ltb-true _ _ v in omega (arith, lt, small))
          | inr v ↦ (let le = ltb-false _ _ v in let equal : day ≡ from_day = omega (arith, le, at) in let is = same equal in omega (arith, is, equal, after))
        ];
        before_end = omega (arith, below, early);
        passing = first.holds;
        none_before = missed_to second first.none_before;
      }

  pub missed_on_day : NoneHolds (passes_on rule plan day) s0 86400 → NonePasses rule (moment_of plan.start) plan.dated (86400 * from_day + from_second) (86400 * (day + 1))
  missed_on_day none = let shape : 86400 * (day + 1) ≡ 86400 * day + 86400 = omega arith in rw shape (missed_to 86400 none)
