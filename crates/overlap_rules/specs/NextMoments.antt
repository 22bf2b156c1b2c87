-- The first moment from one on at which an alarm that counts from it goes off in a range.
use Rattle.std.specs.Prelude.{◌≡◌, Bool, true, false, ℤ, ◌+ℤ◌, ◌≤ℤ◌, ◌<ℤ◌}
use Rattle.cal_moment.specs.declared.stamp.Length.{Length}
use Rattle.cal_model.specs.declared.object.Alarm.{Alarm}
use Rattle.cal_model.specs.declared.row.Range.{Range}
use Rattle.cal_model.specs.Ranges.Overlap.{seconds_of, some_trigger}

-- an alarm that goes off first so long after a moment goes off in a range
abbrev pub goes_off : Alarm → Length → Range → ℤ → Bool
goes_off alarm after range moment = some_trigger alarm range (moment +ℤ seconds_of after)

-- no moment at another or after it passes a test
abbrev pub NonePasses : (ℤ → Bool) → ℤ → Type 0
NonePasses test from = (moment : ℤ) → from ≤ℤ moment → test moment ≡ false

-- this one does, and none before it
pub record IsFirstToPass (test : ℤ → Bool) (from at : ℤ) : Type 0 where
  pub ahead : from ≤ℤ at
  pub passes : test at ≡ true
  pub none : (moment : ℤ) → from ≤ℤ moment → moment <ℤ at → test moment ≡ false
