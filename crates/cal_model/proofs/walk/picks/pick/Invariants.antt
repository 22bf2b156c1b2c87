use Rattle.std.proofs.Common.{◌≡◌, ◌++◌, take}
use Rattle.std.specs.Prelude.{All, filter}
use Rattle.cal_model.specs.Recurrence.RuleBounds.{IsWritten}
use Rattle.cal_model.specs.Walks.KeptMoments.{moments_of}
use Rattle.cal_model.proofs.Walks.PickLemmas.{is_picked}
use Rattle.cal_model.proofs.walk.picks.pick.Given as goal

-- those so far that are picked
abbrev pub invariant-loop-k : goal.invariant-loop-k
invariant-loop-k l = record {
  picked : moments_of l.out ≡ moments_of l.initial.out ++ filter (is_picked l.rule (moments_of l.found)) (take l.k (moments_of l.found));
  written : All (λ m. IsWritten m) l.initial.out → All (λ m. IsWritten m) l.out;
}
