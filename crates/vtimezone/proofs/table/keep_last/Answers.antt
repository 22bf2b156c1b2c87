use Rattle.std.proofs.Common.{[], fold, ap}
use Rattle.cal_model.specs.TimeZones.ZoneOnsets as zone
use Rattle.vtimezone.specs.Gathered as spec
use Rattle.vtimezone.proofs.TableLemmas.{IsKept-first, IsKept-next}
use Rattle.vtimezone.proofs.table.keep_last.Goals as goal

pub loop-next-init : goal.loop-next-init
loop-next-init c =
    IsKept-first (spec.changes_of c.args.kept.now) c.in-Some.first.now c.args.sorted.now c.in-Some.others.now
    (ap spec.changes_of c.requires.none) c.in-Some.ensures.cases.0 c.requires.sorted

pub loop-next-preserved : goal.loop-next-preserved
loop-next-preserved c =
    IsKept-next (spec.changes_of c.loop-next.kept) (spec.changes_of c.keep.new.kept) c.loop-next.last c.in-Some-split_first.next.now c.loop-next.rest.now c.in-Some-split_first.behind.now
    (fold zone.put_change [] (spec.changes_of c.args.sorted.now)) c.loop-next.invariant c.in-Some-split_first.ensures.cases.0 c.in_ok-keep.ensures
