use Rattle.std.specs.Prelude.{All}
use Rattle.std.proofs.lemmas.List.{nil_from_length}
use Rattle.std.proofs.lemmas.List.Elements.{All-head, All-tail}
use Rattle.cal_model.specs.declared.object.Component.{Component}
use Rattle.dav_reports.specs.ObjectTimes.{IsNearStored, stored_times}
use Rattle.dav_reports.proofs.GatheredTimes.{left-all, left-none, left-stored}
use Rattle.dav_reports.proofs.StoredTimes.{kept_near}
use Rattle.dav_reports.proofs.busy.put_stored.Goals as goal

pub components-init : goal.components-init
components-init c = record {
  made = left-all c.args.out.now (stored_times c.args.components.now);
  left = c.requires;
}

pub put_periods-requires : goal.put_periods-requires
put_periods-requires c =
    let component = c.in-Some.component.now in
    rw c.periods_of.ensures (kept_near component.kind component (All-head (λ (x : Component). All IsNearStored x.stored_busy) component c.in-Some.behind.now (rw c.in-Some.ensures.cases.0 at c.components.invariant.left)))

pub components-preserved : goal.components-preserved
components-preserved c =
    let first = c.in-Some.ensures.cases.0 in
    record {
      made = left-stored c.args.out.now c.components.out c.put_periods.new.out _ c.in-Some.component.now c.in-Some.behind.now (rw c.periods_of.ensures at c.in_ok-put_periods.ensures) (rw first at c.components.invariant.made);
      left = All-tail (λ (x : Component). All IsNearStored x.stored_busy) c.in-Some.component.now c.in-Some.behind.now (rw first at c.components.invariant.left);
    }

pub returns : goal.returns
returns c =
    let end = nil_from_length c.components.rest.now c.in_default.ensures.cases in
    left-none c.args.out.now c.components.out _ (rw end at c.components.invariant.made)
