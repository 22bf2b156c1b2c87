-- The next local moment that passes a rule (RFC 5545, 3.3.10): the least one at or after another, up to the end of 2101. It says which moment that is, and not where to look for it.
use Rattle.std.specs.Prelude.{◌≡◌, ℕ, ◌*◌, ◌<◌, ◌≤◌, Bool, true, false}
use Rattle.cal_model.specs.declared.rule.Rule.{Rule}
use Rattle.cal_model.specs.declared.rule.Freq.{Freq}
use Rattle.cal_model.specs.declared.rule.Freq.TheVariants.{Secondly, Minutely, Hourly, Daily, Weekly, Monthly, Yearly}
use Rattle.cal_model.specs.Recurrence.Passing.{passes}

-- 1 January 2102, where rules end
abbrev pub end_day : ℕ
end_day = 767_740

-- the frequencies that are refused, in an object as in a zone: nothing asks for a moment of such a rule
abbrev pub is_fine : Freq → Bool
is_fine Secondly = true
is_fine Minutely = true
is_fine Hourly = false
is_fine Daily = false
is_fine Weekly = false
is_fine Monthly = false
is_fine Yearly = false

-- The next moment.

-- no moment from a up to b passes, b left out
pub record NonePasses (rule : Rule) (start : ℕ) (dated : Bool) (a b : ℕ) : Type 0 where
  pub each : (m : ℕ) → a ≤ m → m < b → passes rule start dated m ≡ false

-- m is the least passing moment from a on, and lies before the end of rules
pub record IsNextPassing (rule : Rule) (start : ℕ) (dated : Bool) (a : ℕ) (m : ℕ) : Type 0 where
  pub from : a ≤ m
  pub before_end : m < 86_400 * end_day
  pub passing : passes rule start dated m ≡ true
  pub none_before : NonePasses rule start dated a m
