use Rattle.std.proofs.Common.{◌∙◌, map}
use Rattle.std.specs.Prelude.{option_to_list}
use Rattle.std.proofs.lemmas.List.Elements.{All-tail}
use Rattle.cal_model.specs.Instances.Alignment.{align}
use Rattle.override_merge.specs.Conversions.{tables_of, HasConvertibleRow}
use Rattle.std.specs.Prelude.{length}
use Rattle.override_merge.specs.NamedStarts.{named_beside}
use Rattle.override_merge.proofs.NameLemmas.{values_more, days_more}
use Rattle.override_merge.proofs.names.names_of_overrides.Goals as goal

pub overrides-preserved : goal.overrides-preserved
overrides-preserved c =
    let zones = tables_of c.args.zones.now in
    let first = c.in-Some.ensures.cases.0 in
    let here = map (λ x. align zones x c.args.ids) (option_to_list c.in-Some.component.now.recurrence_id) in
    let behind = named_beside zones c.args.ids c.in-Some.behind.now in
    record {
      values = rw c.in_ok-put_id.ensures.values (values_more c.overrides.values here behind ∙ (rw first at c.overrides.invariant.values));
      days = rw c.in_ok-put_id.ensures.days (days_more c.overrides.days here behind ∙ (rw first at c.overrides.invariant.days));
      left = All-tail (HasConvertibleRow (length c.args.zones.now)) c.in-Some.component.now c.in-Some.behind.now (rw first at c.overrides.invariant.left);
    }
