use Rattle.std.proofs.Common.{◌∷◌, [], ◌∙◌, map}
use Rattle.std.specs.Prelude.{length}
use Rattle.std.proofs.lemmas.List.Elements.{All-tail}
use Rattle.cal_moment.specs.declared.stamp.Stamp.{Stamp}
use Rattle.cal_model.specs.Instances.Alignment.{align}
use Rattle.override_merge.specs.Conversions.{tables_of, IsConvertible}
use Rattle.override_merge.proofs.NameLemmas.{values_more, days_more}
use Rattle.rrule_sets.proofs.ends.exceptions.Goals as goal

pub except-preserved : goal.except-preserved
except-preserved c =
    let first = c.in-Some.ensures.cases.0 in
    let zones = tables_of c.args.zones.now in
    let here = align zones c.in-Some.date.now c.args.stamp in
    let behind = map (λ (x : Stamp). align zones x c.args.stamp) c.in-Some.behind.now in
    record {
      values = rw (c.in_ok-put_name.ensures.values, c.align.ensures.value) (values_more c.except.values (here ∷ []) behind ∙ (rw first at c.except.invariant.values));
      days = rw (c.in_ok-put_name.ensures.days, c.align.ensures.value) (days_more c.except.days (here ∷ []) behind ∙ (rw first at c.except.invariant.days));
      left = All-tail (IsConvertible (length c.args.zones.now)) c.in-Some.date.now c.in-Some.behind.now (rw first at c.except.invariant.left);
    }
