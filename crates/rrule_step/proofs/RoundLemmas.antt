-- Counted hours come round in the week.
use Rattle.std.proofs.Common.{◌≡◌, ℕ, ◌+◌, ◌-◌, ◌*◌, ◌/◌, ◌%◌, ◌<◌, ◌≤◌, refl, sym, ap, ◌∙◌, arith, Bool, true, false, inl, inr, List, [], ◌∷◌}
use Rattle.std.specs.Prelude.{if◌then◌else◌, nat_le, ◌==◌}
use Rattle.std.specs.List.{list_any}
use Rattle.std.proofs.lemmas.Bool.{cases_Bool, eqb-true, leb-true}
use Rattle.std.proofs.Math.Nat.{div-add-mod, add-mul-mod_self_left}
use Rattle.cal_moment.specs.Calendar.{weekday_of, day_of_moment, second_of_day, day_of_month, month_length, year_of, month_of, day_of_year, year_length}
use Rattle.cal_model.specs.declared.rule.Rule.{Rule}
use Rattle.cal_model.specs.declared.rule.DayPart.{DayPart}
use Rattle.cal_model.specs.declared.rule.Freq.TheVariants.{Hourly, Daily}
use Rattle.cal_model.specs.Recurrence.Passing.{passes, period_number, period_passes, day_passes, time_passes, by_day_passes, month_passes, month_day_passes, weekday_passes, counts_in_month}
use Rattle.cal_model.specs.Words.Lists.{is_empty}
use Rattle.rrule_step.specs.declared.set.Set.{Set}
use Rattle.rrule_step.specs.declared.step.Plan.{Plan}
use Rattle.rrule_step.specs.Sets.{has}
use Rattle.rrule_step.specs.Clock.{in_hour, in_day}
use Rattle.rrule_step.specs.Plans.{IsPlan}
use Rattle.rrule_step.specs.Rounds.{is_met}
use Rattle.rrule_step.specs.StartMoment.{moment_of}

both : (a b : Bool) → (if a then b else false) ≡ true → (a ≡ true) × (b ≡ true)
both true b h = (refl, h)
both false b h = absurd cc

-- a value of BYDAY holds no day of another weekday
weekday_named : (weekday place size : ℕ) (parts : List DayPart) → list_any (weekday_passes weekday place size) parts ≡ true → list_any (λ (part : DayPart). part.weekday == weekday) parts ≡ true
weekday_named weekday place size [] h = h
weekday_named weekday place size (part ∷ parts) h =
    elim (cases_Bool (part.weekday == weekday)) [
      | inl w ↦ rw w refl
      | inr w ↦ (let rest = rw w at h in let named = weekday_named weekday place size parts rest in rw w named)
    ]

pub by_day_named : (rule : Rule) (day : ℕ) → is_empty rule.by_day ≡ false → by_day_passes rule day ≡ true → list_any (λ (part : DayPart). part.weekday == weekday_of day) rule.by_day ≡ true
by_day_named rule day some h = elim (cases_Bool (counts_in_month rule.freq rule.by_month)) [
  | inl w ↦ weekday_named (weekday_of day) (day_of_month day) (month_length (year_of day) (month_of day)) rule.by_day (rw (some, w) at h)
  | inr w ↦ weekday_named (weekday_of day) (day_of_year day) (year_length (year_of day)) rule.by_day (rw (some, w) at h)
]

-- a number that counts is one of so many steps from the first, and in a round one of the first 168
counted_step : (first interval n : ℕ) → 0 < interval → first ≤ n → (n - first) % interval ≡ 0 → (q : ℕ) × (first + interval * q ≡ n)
counted_step first interval n some from whole =
    let parts = div-add-mod (n - first) interval in
    ((n - first) / interval, omega (arith, parts, whole, from))

in_round : (first interval q : ℕ) → (first + interval * q) % 168 ≡ (first + interval * (q % 168)) % 168
in_round first interval q =
    let parts : q ≡ 168 * (q / 168) + q % 168 = omega arith in
    let sum : first + interval * q ≡ (first + interval * (q % 168)) + 168 * (interval * (q / 168)) =
    ap (λ k. first + interval * k) parts ∙ omega arith in
    ap (λ k. k % 168) sum ∙ add-mul-mod_self_left (first + interval * (q % 168)) 168 (interval * (q / 168))

-- what is met at an hour is met at the step of the round that lies there in the week
met_in_round : (hours weekdays : Set) (first interval n : ℕ) → 0 < interval → first ≤ n → (n - first) % interval ≡ 0 → is_met hours weekdays n ≡ true → ((q : ℕ) → q < 168 → is_met hours weekdays (first + interval * q) ≡ false) → ⊥
met_in_round hours weekdays first interval n some from whole met none =
    let step = counted_step first interval n some from whole in
    let q = step.0 in
    let at : n % 168 ≡ (first + interval * (step.0 % 168)) % 168 = ap (λ k. k % 168) (sym step.1) ∙ in_round first interval step.0 in
    let fails = none (step.0 % 168) (omega arith) in
    let same : is_met hours weekdays n ≡ is_met hours weekdays (first + interval * (step.0 % 168)) = ap (λ k. if has weekdays ((k / 24 + 5) % 7) then has hours (k % 24) else false) at in
    let bad : true ≡ false = sym met ∙ (same ∙ fails) in cc

module _ (rule : Rule) (plan : Plan) (is : IsPlan rule plan) (weekdays : Set) (named : (day : ℕ) → by_day_passes rule day ≡ true → has weekdays (weekday_of day) ≡ true) (some : 0 < rule.interval) (m : ℕ) where
  dayed : passes rule (moment_of plan.start) plan.dated m ≡ true → (period_passes rule (moment_of plan.start) m ≡ true) × (by_day_passes rule (m / 86400) ≡ true) × (time_passes rule (second_of_day (moment_of plan.start)) plan.dated (second_of_day m) ≡ true)
  unfolding day_passes
  dayed h =
      let a = both (period_passes rule (moment_of plan.start) m) (if day_passes rule (day_of_moment (moment_of plan.start)) (day_of_moment m) then time_passes rule (second_of_day (moment_of plan.start)) plan.dated (second_of_day m) else false) h in
      let b = both (day_passes rule (day_of_moment (moment_of plan.start)) (day_of_moment m)) (time_passes rule (second_of_day (moment_of plan.start)) plan.dated (second_of_day m)) a.1 in
      let c = both (month_passes rule (m / 86400)) _ b.0 in
      let d = both (month_day_passes rule (m / 86400)) _ c.1 in
      let e = both (by_day_passes rule (m / 86400)) _ d.1 in
      (a.0, e.0, b.1)

  counted : period_passes rule (moment_of plan.start) m ≡ true → (plan.first ≤ period_number rule.freq rule.week_start m) × ((period_number rule.freq rule.week_start m - plan.first) % rule.interval ≡ 0)
  counted h =
      let first = is.first in
      let a = both (nat_le (period_number rule.freq rule.week_start (moment_of plan.start)) (period_number rule.freq rule.week_start m)) _ h in
      rw first (leb-true _ _ a.0, eqb-true _ _ a.1)

  on_weekday : by_day_passes rule (m / 86400) ≡ true → has weekdays ((m / 3600 % 168 / 24 + 5) % 7) ≡ true
  on_weekday h = let at : (m / 3600 % 168 / 24 + 5) % 7 ≡ (m / 86400 + 5) % 7 = omega arith in rw at (named (m / 86400) h)

  at_hour : time_passes rule (second_of_day (moment_of plan.start)) plan.dated (second_of_day m) ≡ true → has plan.times.hours (m / 3600 % 168 % 24) ≡ true
  at_hour h =
      let of_start : (86400 * plan.start.day + plan.start.second) % 86400 ≡ plan.start.second = let below = plan.start.second_below in omega (arith, below) in
      let told = is.times (m % 86400) (omega arith) in
      let timed = rw of_start at h in
      let found : in_day plan.times.hours plan.times.minutes plan.times.seconds (m % 86400) ≡ true = sym told ∙ timed in
      let at : m / 3600 % 168 % 24 ≡ m % 86400 / 3600 = omega arith in
      rw at (both (has plan.times.hours (m % 86400 / 3600)) (in_hour plan.times.minutes plan.times.seconds (m % 86400 % 3600)) found).0

  pub never_hourly : rule.freq ≡ Hourly → ((q : ℕ) → q < 168 → is_met plan.times.hours weekdays (plan.first + rule.interval * q) ≡ false) → passes rule (moment_of plan.start) plan.dated m ≡ false
  never_hourly e none = elim (cases_Bool (passes rule (moment_of plan.start) plan.dated m)) [
    | inr w ↦ w
    | inl w ↦ absurd (let parts = dayed w in let number = rw e at (counted parts.0) in
        let weekday = on_weekday parts.1 in let hour = at_hour parts.2 in
        met_in_round plan.times.hours weekdays plan.first rule.interval (m / 3600) some number.0 number.1 (rw (weekday, hour) refl) none)
  ]

  pub never_daily : rule.freq ≡ Daily → (all : Set) → ((i : ℕ) → i < 64 → has all i ≡ true) → ((q : ℕ) → q < 168 → is_met all weekdays (24 * plan.first + 24 * rule.interval * q) ≡ false) → passes rule (moment_of plan.start) plan.dated m ≡ false
  never_daily e all full none = elim (cases_Bool (passes rule (moment_of plan.start) plan.dated m)) [
    | inr w ↦ w
    | inl w ↦ absurd (let parts = dayed w in let number = rw e at (counted parts.0) in
        let step = counted_step plan.first rule.interval (m / 86400) some number.0 number.1 in
        let weekday : has weekdays ((24 * (m / 86400) % 168 / 24 + 5) % 7) ≡ true = let at : (24 * (m / 86400) % 168 / 24 + 5) % 7 ≡ (m / 86400 + 5) % 7 = omega arith in rw at (named (m / 86400) parts.1) in
        let hour = full (24 * (m / 86400) % 168 % 24) (omega arith) in
        let at : 24 * (m / 86400) % 168 ≡ (24 * plan.first + 24 * rule.interval * (step.0 % 168)) % 168 =
        ap (λ k. 24 * k % 168) (sym step.1) ∙ (ap (λ k. k % 168) (omega arith) ∙ in_round (24 * plan.first) (24 * rule.interval) step.0) in
        let fails = none (step.0 % 168) (omega arith) in
        let same : is_met all weekdays (24 * (m / 86400)) ≡ is_met all weekdays (24 * plan.first + 24 * rule.interval * (step.0 % 168)) = ap (λ k. if has weekdays ((k / 24 + 5) % 7) then has all (k % 24) else false) at in
        let met : is_met all weekdays (24 * (m / 86400)) ≡ true = rw (weekday, hour) refl in
        let bad : true ≡ false = sym met ∙ (same ∙ fails) in cc)
  ]
