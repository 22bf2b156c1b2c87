use Rattle.std.proofs.Common.{◌≡◌, length}
use Rattle.std.specs.List.{list_any}
use Rattle.std.specs.List.Sorted.{IsSorted}
use Rattle.std.specs.Ordering.{int_cmp}
use Rattle.overlap_rules.specs.NextMoments.{goes_off}
use Rattle.filter_eval.proofs.moments.some_goes_off.Given as goal

-- what is left is in order, and tells as much as all
abbrev pub invariant-search : goal.invariant-search
invariant-search l = record {
  rising : IsSorted int_cmp l.rest;
  same : list_any (goes_off l.alarm l.after l.range) l.rest ≡ list_any (goes_off l.alarm l.after l.range) l.moments;
}

abbrev pub decreases-search : goal.decreases-search
decreases-search l = length l.rest
