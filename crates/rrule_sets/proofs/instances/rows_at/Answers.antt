use Rattle.std.proofs.Common.{arith, FitsSigned, w64, to_z-of_z}
use Rattle.std.specs.Prelude.{not}
use Rattle.std.proofs.lemmas.Int.{ints}
use Rattle.std.proofs.lemmas.List.Elements.{All-head, All-tail}
use Rattle.cal_model.specs.Instances.Alignment.{reading_of}
use Rattle.override_merge.specs.Conversions.{tables_of}
use Rattle.override_merge.specs.NamedStarts.{has_name}
use Rattle.rrule_sets.specs.AskedStarts.{row_by}
use Rattle.rrule_sets.proofs.AskedLemmas.{mapped_more}
use Rattle.rrule_sets.proofs.DateStarts.{IsNearRow}
use Rattle.rrule_sets.proofs.instances.rows_at.Goals as goal

pub put_instance-requires-clause-near : goal.put_instance-requires-clause-near
put_instance-requires-clause-near c =
    let first = c.in-Some.ensures.cases.0 in
    let near = All-head IsNearRow c.in-Some.start.now c.in-Some.behind.now (rw first at c.starts.invariant.left) in
    let fits : FitsSigned w64 c.in-Some.start.now = omega (arith, ints, near) in
    simp to_z-of_z near

pub starts-preserved : goal.starts-preserved
starts-preserved c =
    let first = c.in-Some.ensures.cases.0 in
    let zones = tables_of c.args.zones.now in
    let near = All-head IsNearRow c.in-Some.start.now c.in-Some.behind.now (rw first at c.starts.invariant.left) in
    let fits : FitsSigned w64 c.in-Some.start.now = omega (arith, ints, near) in
    let put = simp to_z-of_z at c.in_ok-put_instance.ensures in
    record {
      made = rw put (mapped_more (λ r. not (has_name (reading_of zones c.args.stamp) r c.args.excepted.now)) (row_by zones c.args.stamp c.args.extent c.args.asked.now.plain c.args.asked.now.periods c.args.number) _ _ c.in-Some.start.now c.in-Some.behind.now (rw first at c.starts.invariant.made));
      left = All-tail IsNearRow c.in-Some.start.now c.in-Some.behind.now (rw first at c.starts.invariant.left);
    }
