use Rattle.std.proofs.Common.{rules, arith, FitsSigned, w64, to_z-of_z}
use Rattle.std.specs.Prelude.{length}
use Rattle.std.proofs.lemmas.List.Elements.{All-tail}
use Rattle.cal_model.specs.Instances.Starts.{date_start}
use Rattle.override_merge.specs.Conversions.{tables_of, IsConvertible}
use Rattle.rrule_sets.specs.DigitRanges.{starts_in}
use Rattle.rrule_sets.proofs.AskedLemmas.{kept_more}
use Rattle.rrule_sets.proofs.asked.put_dates.Goals as goal

pub dates-preserved : goal.dates-preserved
dates-preserved g c =
    let first = c.in-Some.ensures.cases.0 in
    let zones = tables_of c.args.zones.now in
    let counted = rw first at c.dates.invariant.counted in
    let step = c.tick.ensures in
    let fits : FitsSigned w64 c.date_start.result = search (rules, c.date_start.type_inv) in
    let put = simp to_z-of_z at c.in_ok-put_start.ensures in
    record {
      made = rw (put, c.date_start.ensures.value) (kept_more (starts_in zones c.args.stamp c.args.range) (date_start zones c.args.stamp) _ _ c.in-Some.date.now c.in-Some.behind.now (rw first at c.dates.invariant.made));
      counted = omega (arith, counted, step);
      left = All-tail (IsConvertible (length c.args.zones.now)) c.in-Some.date.now c.in-Some.behind.now (rw first at c.dates.invariant.left);
    }
