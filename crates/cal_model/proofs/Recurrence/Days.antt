-- The least passing moment is found by looking at the days in order.
use Rattle.std.proofs.Common.{◌≡◌, ℕ, ◌+◌, ◌-◌, ◌*◌, ◌/◌, ◌%◌, ◌<◌, ◌≤◌, refl, arith, Bool, true, false, inl, inr, nat_lt}
use Rattle.std.specs.Prelude.{if◌then◌else◌}
use Rattle.std.proofs.lemmas.Bool.{cases_Bool, ltb-true, ltb-false}
use Rattle.cal_moment.specs.Calendar.{day_of_moment, second_of_day}
use Rattle.cal_model.specs.declared.rule.Rule.{Rule}
use Rattle.cal_model.specs.Recurrence.NextPassing.{NonePasses}
use Rattle.cal_model.specs.Recurrence.Passing.{passes, period_passes, day_passes, time_passes}

-- the day and the second of a moment that is made of them
pub day_of_moment-made : (day second : ℕ) → second < 86400 → day_of_moment (86400 * day + second) ≡ day
day_of_moment-made day second h = omega arith

pub second_of_day-made : (day second : ℕ) → second < 86400 → second_of_day (86400 * day + second) ≡ second
second_of_day-made day second h = omega arith

-- on a day that passes, a moment passes where its period and its time of day do
pub passes-on_day : (rule : Rule) (start : ℕ) (dated : Bool) (day second : ℕ) → second < 86400 → day_passes rule (day_of_moment start) day ≡ true →
    passes rule start dated (86400 * day + second) ≡ (if period_passes rule start (86400 * day + second) then time_passes rule (second_of_day start) dated second else false)
passes-on_day rule start dated day second h p = rw (day_of_moment-made day second h, second_of_day-made day second h, p) refl

-- of a day that fails no moment passes
pub NonePasses-failing_day : (rule : Rule) (start : ℕ) (dated : Bool) (day a b : ℕ) → 86400 * day ≤ a → b ≤ 86400 * (day + 1) → day_passes rule (day_of_moment start) day ≡ false → NonePasses rule start dated a b
NonePasses-failing_day rule start dated day a b low high p = record {
  each = λ m from below.
      let same : day_of_moment m ≡ day = omega arith in
      let fails : day_passes rule (day_of_moment start) (day_of_moment m) ≡ false = rw same p in
      elim (cases_Bool (period_passes rule start m)) [
        | inl passing ↦ rw (passing, fails) refl
        | inr failing ↦ rw failing refl
      ];
}

-- where nothing lies between
pub NonePasses-empty : (rule : Rule) (start : ℕ) (dated : Bool) (a b : ℕ) → b ≤ a → NonePasses rule start dated a b
NonePasses-empty rule start dated a b h = record { each = λ m from below. absurd (omega arith) }

-- one stretch after the other
pub NonePasses-joined : (rule : Rule) (start : ℕ) (dated : Bool) (a b c : ℕ) → NonePasses rule start dated a b → NonePasses rule start dated b c → NonePasses rule start dated a c
NonePasses-joined rule start dated a b c h k = record {
  each = λ m from below.
      elim (cases_Bool (nat_lt m b)) [
        | inl before ↦ h.each m from (ltb-true _ _ before)
        | inr after ↦ k.each m (ltb-false _ _ after) below
      ];
}

-- and one moment more
pub NonePasses-one : (rule : Rule) (start : ℕ) (dated : Bool) (m b : ℕ) → passes rule start dated m ≡ false → b ≤ m + 1 → NonePasses rule start dated m b
NonePasses-one rule start dated m b p h = record { each = λ k from below. let same : k ≡ m = omega arith in rw same p }

-- a moment from a on that lies on a day does not pass
abbrev pub NoneOnDay : Rule → ℕ → Bool → ℕ → ℕ → Type 0
NoneOnDay rule start dated a day = (second : ℕ) → second < 86400 → a ≤ 86400 * day + second → passes rule start dated (86400 * day + second) ≡ false

-- nor does one of a day that fails
pub NoneOnDay-failing : (rule : Rule) (start : ℕ) (dated : Bool) (a day : ℕ) → day_passes rule (day_of_moment start) day ≡ false → NoneOnDay rule start dated a day
NoneOnDay-failing rule start dated a day p second h from =
    (NonePasses-failing_day rule start dated day (86400 * day + second) (86400 * day + second + 1) (omega arith) (omega arith) p).each (86400 * day + second) (omega arith) (omega arith)

-- where no day up to one has a passing moment
pub NonePasses-days : (rule : Rule) (start : ℕ) (dated : Bool) (a day : ℕ) → ((k : ℕ) → day_of_moment a ≤ k → k < day → NoneOnDay rule start dated a k) → NonePasses rule start dated a (86400 * day)
NonePasses-days rule start dated a day none = record {
  each = λ m from below.
      let parts : 86400 * (m / 86400) + m % 86400 ≡ m = omega arith in
      let fails = none (m / 86400) (omega arith) (omega arith) (m % 86400) (omega arith) (omega arith) in
      rw parts at fails;
}

-- nothing passes in a period that doesn't count
pub NonePasses-period : (rule : Rule) (start : ℕ) (dated : Bool) (a b : ℕ) → ((m : ℕ) → a ≤ m → m < b → period_passes rule start m ≡ false) → NonePasses rule start dated a b
NonePasses-period rule start dated a b h = record { each = λ m low high. (let e = h m low high in rw e refl) }
