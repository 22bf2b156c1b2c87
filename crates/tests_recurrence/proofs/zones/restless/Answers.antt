use Rattle.std.proofs.Common.{rules}
use Rattle.tests_recurrence.proofs.ZoneTables.{RisesBelow-none, RisesBelow-push, IsTable-rising}
use Rattle.tests_recurrence.proofs.zones.restless.Goals as goal

pub loop-k-init : goal.loop-k-init
loop-k-init c = RisesBelow-none _ c.new-onsets.ensures

pub loop-k-preserved : goal.loop-k-preserved
loop-k-preserved c = RisesBelow-push c.loop-k.onsets c.push.new.self c.loop-k.k _ c.loop-k.invariant (search rules) (search rules) c.in_ok-push.ensures.ok

pub returns : goal.returns
returns c = IsTable-rising _ 40 (search rules) (search rules)
