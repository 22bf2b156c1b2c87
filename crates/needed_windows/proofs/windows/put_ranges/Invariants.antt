use Rattle.std.proofs.Common.{length}
use Rattle.std.specs.List.{list_any}
use Rattle.cal_model.specs.declared.row.Range.{Range}
use Rattle.cal_model.specs.Ranges.Cost.{window_meets}
use Rattle.needed_windows.specs.Stretches.{window_of_place}
use Rattle.needed_windows.proofs.StretchLemmas.{IsPutting}
use Rattle.needed_windows.proofs.windows.put_ranges.Given as goal

-- the windows of the ranges that are left are still to be put
abbrev pub invariant-widening : goal.invariant-widening
invariant-widening l = IsPutting
    (λ place. list_any (λ (range : Range). window_meets l.by range (window_of_place place)) l.rest)
    (λ place. list_any (λ (range : Range). window_meets l.by range (window_of_place place)) l.ranges)
    l.initial.out l.out

abbrev pub decreases-widening : goal.decreases-widening
decreases-widening l = length l.rest
