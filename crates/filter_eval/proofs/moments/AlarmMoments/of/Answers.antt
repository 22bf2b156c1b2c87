use Rattle.filter_eval.specs.Places.{matched_of}
use Rattle.filter_eval.proofs.MomentLists.{both_ends}
use Rattle.filter_eval.proofs.moments.AlarmMoments.of.Goals as goal

pub returns : goal.returns
returns c = both_ends (matched_of c.args.subject.now) (record { number = c.args.number; component = c.args.component.now }) c.in_ok-starts.starts c.in_ok-ends.ends c.in_ok-starts.ensures c.in_ok-ends.ensures
