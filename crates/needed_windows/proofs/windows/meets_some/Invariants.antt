use Rattle.std.proofs.Common.{◌≡◌, length}
use Rattle.std.specs.List.{list_any}
use Rattle.cal_model.specs.declared.row.Range.{Range}
use Rattle.cal_model.specs.Ranges.Cost.{window_meets}
use Rattle.needed_windows.proofs.windows.meets_some.Given as goal

-- none of the ranges so far meets the window
abbrev pub invariant-meeting : goal.invariant-meeting
invariant-meeting l = list_any (λ (range : Range). window_meets l.by range l.window) l.rest ≡ list_any (λ (range : Range). window_meets l.by range l.window) l.ranges

abbrev pub decreases-meeting : goal.decreases-meeting
decreases-meeting l = length l.rest
