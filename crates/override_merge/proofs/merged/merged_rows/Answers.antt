use Rattle.std.proofs.Common.{◌≡◌, ◌∙◌, sym, subst, List}
use Rattle.std.specs.Prelude.{IfOk}
use Rattle.cal_model.specs.declared.row.Row.{Row}
use Rattle.cal_model.specs.Instances.Rows.{in_order}
use Rattle.cal_model.proofs.Instances.RisingLists.{ascending-rising}
use Rattle.override_merge.specs.NamedStarts.{values_in, days_in, named_beside}
use Rattle.override_merge.specs.Conversions.{tables_of}
use Rattle.override_merge.proofs.MergeLemmas.{joined, merged_alone, merged_parts}
use Rattle.override_merge.proofs.merged.merged_rows.Goals as goal

pub returns-then-not-has_overrides : goal.returns-then-not-has_overrides
returns-then-not-has_overrides c =
    let none = rw c.as_slice.ensures at (sym c.has_overrides.ensures ∙ c.if-not-has_overrides.true) in
    subst (λ (rows : List Row). IfOk c.without_overrides.result (λ merged. merged ≡ in_order rows)) (merged_alone c.args.object.now c.args.ids c.args.rows.now c.args.part none) c.without_overrides.ensures

pub put_unnamed_rows-requires-clause-values : goal.put_unnamed_rows-requires-clause-values
put_unnamed_rows-requires-clause-values c =
    rw c.in_ok-names.ensures.values (ascending-rising (values_in (named_beside (tables_of c.args.zones.now) c.args.ids c.as_slice-2.result.now)))

pub put_unnamed_rows-requires-clause-days : goal.put_unnamed_rows-requires-clause-days
put_unnamed_rows-requires-clause-days c =
    rw c.in_ok-names.ensures.days (ascending-rising (days_in (named_beside (tables_of c.args.zones.now) c.args.ids c.as_slice-2.result.now)))

pub returns : goal.returns
returns c =
    let named = rw (c.requires.zones, c.as_slice-2.ensures) at c.in_ok-names.ensures in
    let kept = rw c.requires.zones at c.in_ok-days.ensures.kept in
    let parts = merged_parts c.args.object.now c.args.ids c.args.rows.now c.in_ok-days.days kept c.in_ok-names.names c.args.part named in
    let own = rw c.as_slice-3.ensures at c.in_ok-put_own_rows.ensures in
    let all = joined _ _ _ _ _ _ own c.in_ok-put_unnamed_rows.ensures c.new-out.ensures parts in
    subst (λ (xs : List Row). IfOk c.put_in_order.result (λ merged. merged ≡ in_order xs)) all c.put_in_order.ensures
