use Rattle.std.proofs.Common.{◌≡◌, ◌∙◌, ap, subst, List, map}
use Rattle.std.specs.Prelude.{IfOk, length, filter, flat_map, not}
use Rattle.cal_model.specs.declared.row.Row.{Row}
use Rattle.cal_model.specs.Instances.Rows.{in_order, override_row, overrides, is_named}
use Rattle.override_merge.proofs.StampLemmas.{ids_convertible}
use Rattle.override_merge.proofs.MergeLemmas.{zones_count, merged_all, merged_with-ids}
use Rattle.override_merge.proofs.merged.merge.Goals as goal

pub merged_rows-requires-clause-ids : goal.merged_rows-requires-clause-ids
merged_rows-requires-clause-ids c =
    let zones = c.in_ok-zones.ensures ∙ c.as_slice.ensures in
    rw (c.as_slice-2.ensures, zones_count c.in_ok-zones.zones c.args.object.now.zones zones)
    (ids_convertible (length c.args.object.now.zones) c.args.object.now c.in-Some.ids c.requires.object.components c.in-Some.ensures).zone

pub returns : goal.returns
returns c =
    let object = c.args.object.now in
    let rows = c.args.master.now in
    let own = flat_map (override_row object c.in-Some.ids (map (λ (r : Row). r.id) rows)) (overrides object) in
    let kept = filter (λ (r : Row). not (is_named object c.in-Some.ids r.id)) rows in
    subst (λ (xs : List Row). IfOk c.merged_rows.result (λ merged. merged ≡ xs))
    (ap in_order (merged_all object c.in-Some.ids own kept) ∙ merged_with-ids object c.in-Some.ids rows c.in-Some.ensures)
    (rw c.as_slice-3.ensures at c.merged_rows.ensures)
