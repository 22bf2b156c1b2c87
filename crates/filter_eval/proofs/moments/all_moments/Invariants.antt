use Rattle.std.proofs.Common.{◌≡◌, length}
use Rattle.filter_eval.specs.AlarmMoments.{AreAllMoments}
use Rattle.filter_eval.specs.Places.{matched_of}
use Rattle.filter_eval.proofs.moments.all_moments.Given as goal

-- those of the components so far
abbrev pub invariant-components : goal.invariant-components
invariant-components l = record {
  count : length l.all ≡ l.component-index;
  made : AreAllMoments (matched_of l.subject) l.all;
}
