-- Places among the moments of a rule.
use Rattle.std.specs.Prelude.{◌≡◌, ℕ, ◌*◌, ◌<◌, ◌≤◌, Bool, true}
use Rattle.cal_model.specs.declared.rule.Rule.{Rule}
use Rattle.cal_model.specs.Recurrence.NextPassing.{end_day}
use Rattle.cal_model.specs.Recurrence.RuleBounds.{IsWritten}
use Rattle.cal_model.specs.Values.LocalTimes.{moment_of_local}
use Rattle.cal_model.specs.Recurrence.Passing.{passes}
use Rattle.cal_model.specs.declared.walk.cursor.Cursor.{Cursor}

pub record IsAt (rule : Rule) (start : ℕ) (dated : Bool) (cursor : Cursor) : Type 0 where
  pub written : IsWritten cursor.at
  pub within : moment_of_local cursor.at ≤ 86_400 * end_day
  pub before_end : cursor.taken ≡ true → moment_of_local cursor.at < 86_400 * end_day
  pub passing : cursor.taken ≡ true → passes rule start dated (moment_of_local cursor.at) ≡ true
