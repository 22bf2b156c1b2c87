use Rattle.std.proofs.lemmas.List.{nil_from_length}
use Rattle.std.proofs.lemmas.List.Elements.{All-tail}
use Rattle.cal_model.specs.Busy.BusyTimes.{times_of_row}
use Rattle.overlap_rules.specs.Bounds.{IsNearRow}
use Rattle.dav_reports.specs.ObjectTimes.{times_of_rows}
use Rattle.dav_reports.proofs.GatheredTimes.{left-all, left-next, left-none}
use Rattle.dav_reports.proofs.busy.put_rows.Goals as goal

pub rows-init : goal.rows-init
rows-init c = record {
  made = left-all c.args.out.now (times_of_rows c.args.zone.now c.args.object.now c.args.rows.now);
  left = c.requires.near;
}

pub rows-preserved : goal.rows-preserved
rows-preserved c =
    let first = c.in-Some.ensures.cases.0 in
    record {
      made = left-next (times_of_row c.args.zone.now c.args.object.now) c.args.out.now c.rows.out c.put_row.new.out _ c.in-Some.row.now c.in-Some.behind.now c.in_ok-put_row.ensures (rw first at c.rows.invariant.made);
      left = All-tail IsNearRow c.in-Some.row.now c.in-Some.behind.now (rw first at c.rows.invariant.left);
    }

pub returns : goal.returns
returns c =
    let end = nil_from_length c.rows.rest.now c.in_default.ensures.cases in
    left-none c.args.out.now c.rows.out _ (rw end at c.rows.invariant.made)
