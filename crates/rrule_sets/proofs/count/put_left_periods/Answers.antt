use Rattle.std.proofs.Common.{rules, length, FitsSigned, w64, to_z-of_z}
use Rattle.std.proofs.lemmas.List.Elements.{All-tail}
use Rattle.cal_model.specs.Instances.Starts.{date_start}
use Rattle.override_merge.specs.Conversions.{tables_of}
use Rattle.override_merge.specs.ExpandableComponents.{IsConvertiblePeriod}
use Rattle.cal_moment.specs.declared.stamp.Period.{Period}
use Rattle.rrule_sets.specs.CountedRows.{is_left}
use Rattle.rrule_sets.proofs.AskedLemmas.{kept_more}
use Rattle.rrule_sets.proofs.count.put_left_periods.Goals as goal

pub periods-preserved : goal.periods-preserved
periods-preserved c =
    let first = c.in-Some.ensures.cases.0 in
    let zones = tables_of c.args.zones.now in
    let fits : FitsSigned w64 c.date_start.result = search (rules, c.date_start.type_inv) in
    let put = simp to_z-of_z at c.in_ok-put_left.ensures in
    record {
      made = rw (put, c.date_start.ensures.value) (kept_more (is_left zones c.args.stamp c.args.taken.now) (λ (period : Period). date_start zones c.args.stamp period.start) _ _ c.in-Some.period.now c.in-Some.behind.now (rw first at c.periods.invariant.made));
      left = All-tail (IsConvertiblePeriod (length c.args.zones.now)) c.in-Some.period.now c.in-Some.behind.now (rw first at c.periods.invariant.left);
    }
