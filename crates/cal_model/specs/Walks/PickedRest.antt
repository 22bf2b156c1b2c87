-- What a walk over a rule's moments still gives.
use Rattle.std.specs.Prelude.{◌≡◌, ℕ, ◌≤◌, Bool, true, List, [], ◌++◌, All, drop, length}
use Rattle.cal_model.specs.declared.rule.Rule.{Rule}
use Rattle.cal_model.specs.Recurrence.RuleBounds.{IsWritten}
use Rattle.cal_model.specs.Words.Lists.{is_empty}
use Rattle.cal_model.specs.Values.LocalTimes.{moment_of_local}
use Rattle.cal_model.specs.Recurrence.RecurrenceSet.{Reading}
use Rattle.cal_model.specs.declared.walk.picks.Picks.{Picks}
use Rattle.cal_model.specs.declared.walk.rule_walk.RuleWalk.{RuleWalk}
use Rattle.cal_model.specs.Walks.Cursors.{IsAt}
use Rattle.cal_model.specs.Walks.DayTimes.{AreTimes}
use Rattle.cal_model.specs.Walks.KeptMoments.{kept_from, moments_of, wanted}
use Rattle.cal_model.specs.Walks.SetPlaces.{AreSetPlaces}

abbrev pub rest_of : Rule → ℕ → Reading → Picks → List ℕ
rest_of rule start reading picks = drop picks.given (moments_of picks.moments) ++ kept_from rule start reading (moment_of_local picks.cursor.at)

pub record IsPicks (rule : Rule) (start : ℕ) (dated : Bool) (picks : Picks) : Type 0 where
  pub cursor : IsAt rule start dated picks.cursor
  pub given : picks.given ≤ length picks.moments
  pub written : All IsWritten picks.moments
  pub times : AreTimes rule start dated picks.times
  pub places : AreSetPlaces rule.by_set_pos picks.places
  pub plain : is_empty rule.by_set_pos ≡ true → picks.moments ≡ []

-- what a walk still gives of the moments from `low` up to `high`
abbrev pub still_given : Rule → ℕ → Reading → ℕ → ℕ → RuleWalk → List ℕ
still_given rule start reading low high walk = wanted rule start reading low high walk.left (rest_of rule start reading walk.picks)
