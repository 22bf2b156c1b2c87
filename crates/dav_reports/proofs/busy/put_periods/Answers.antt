use Rattle.std.specs.Prelude.{flat_map}
use Rattle.std.proofs.lemmas.List.{nil_from_length}
use Rattle.std.proofs.lemmas.List.Elements.{All-head, All-tail}
use Rattle.cal_model.specs.Busy.BusyTimes.{times_of_stored}
use Rattle.dav_reports.specs.ObjectTimes.{IsNearStored}
use Rattle.dav_reports.proofs.GatheredTimes.{left-all, left-next, left-none}
use Rattle.dav_reports.proofs.busy.put_periods.Goals as goal

pub periods-init : goal.periods-init
periods-init c = record {
  made = left-all c.args.out.now (flat_map times_of_stored c.args.stored.now);
  left = c.requires;
}

pub put_period-requires : goal.put_period-requires
put_period-requires c = All-head IsNearStored c.in-Some.period.now c.in-Some.behind.now (rw c.in-Some.ensures.cases.0 at c.periods.invariant.left)

pub periods-preserved : goal.periods-preserved
periods-preserved c =
    let first = c.in-Some.ensures.cases.0 in
    record {
      made = left-next times_of_stored c.args.out.now c.periods.out c.put_period.new.out _ c.in-Some.period.now c.in-Some.behind.now c.in_ok-put_period.ensures (rw first at c.periods.invariant.made);
      left = All-tail IsNearStored c.in-Some.period.now c.in-Some.behind.now (rw first at c.periods.invariant.left);
    }

pub returns : goal.returns
returns c =
    let end = nil_from_length c.periods.rest.now c.in_default.ensures.cases in
    left-none c.args.out.now c.periods.out _ (rw end at c.periods.invariant.made)
