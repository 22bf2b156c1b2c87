use Rattle.std.proofs.Common.{◌∙◌}
use Rattle.std.proofs.lemmas.List.Elements.{All-head, All-tail}
use Rattle.cal_object.specs.Alignments.{tables_of}
use Rattle.cal_object.specs.Identifiers.{HasReadId, ids_of_component, ids_beside}
use Rattle.cal_object.proofs.IdLaws.{values_more, days_more}
use Rattle.cal_object.proofs.identifiers.numbers_beside.Goals as goal

pub put_id-requires : goal.put_id-requires
put_id-requires c = let first = c.in-Some.ensures.cases.0 in All-head HasReadId c.in-Some.component.now c.in-Some.behind.now (rw first at c.components.invariant.left)

pub components-preserved : goal.components-preserved
components-preserved c =
    let zones = tables_of c.args.zones.now in
    let first = c.in-Some.ensures.cases.0 in
    let here = ids_of_component zones c.args.start c.in-Some.component.now in
    let behind = ids_beside zones c.args.start c.in-Some.behind.now in
    record {
      values = rw c.in_ok-put_id.ensures.values (values_more c.components.values here behind ∙ (rw first at c.components.invariant.values));
      days = rw c.in_ok-put_id.ensures.days (days_more c.components.days here behind ∙ (rw first at c.components.invariant.days));
      left = All-tail HasReadId c.in-Some.component.now c.in-Some.behind.now (rw first at c.components.invariant.left);
    }
