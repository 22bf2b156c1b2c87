use Rattle.std.proofs.Common.{arith}
use Rattle.std.specs.Prelude.{length}
use Rattle.std.proofs.lemmas.List.Elements.{All-tail}
use Rattle.override_merge.specs.Conversions.{tables_of}
use Rattle.override_merge.specs.ExpandableComponents.{IsConvertiblePeriod}
use Rattle.rrule_sets.specs.PeriodSpans.{period_span, span_starts_in}
use Rattle.rrule_sets.proofs.AskedLemmas.{kept_more}
use Rattle.rrule_sets.proofs.asked.put_periods.Goals as goal

pub periods-preserved : goal.periods-preserved
periods-preserved g c =
    let first = c.in-Some.ensures.cases.0 in
    let zones = tables_of c.args.zones.now in
    let counted = rw first at c.periods.invariant.counted in
    let step = c.tick.ensures in
    record {
      made = rw (c.in_ok-put_period.ensures, c.period_span.ensures.value) (kept_more (span_starts_in zones c.args.stamp c.args.range) (period_span zones c.args.stamp) _ _ c.in-Some.period.now c.in-Some.behind.now (rw first at c.periods.invariant.made));
      counted = omega (arith, counted, step);
      left = All-tail (IsConvertiblePeriod (length c.args.zones.now)) c.in-Some.period.now c.in-Some.behind.now (rw first at c.periods.invariant.left);
    }
