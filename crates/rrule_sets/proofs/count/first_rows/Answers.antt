use Rattle.std.proofs.Common.{rules, length, FitsSigned, w64, to_z-of_z}
use Rattle.std.proofs.lemmas.List.Elements.{All-head, All-tail}
use Rattle.override_merge.specs.Conversions.{tables_of, HasConvertibleRow}
use Rattle.rrule_sets.proofs.NamedDays.{no_first, one_first_more}
use Rattle.rrule_sets.proofs.count.first_rows.Goals as goal

pub day_of_mover-requires-clause-component : goal.day_of_mover-requires-clause-component
day_of_mover-requires-clause-component g c =
    let first = c.in-Some.ensures.cases.0 in
    All-head (HasConvertibleRow (length c.args.zones.now)) c.in-Some.mover.now c.in-Some.behind.now (rw first at c.movers.invariant.left)

pub movers-preserved-in_ok-put_first_on : goal.movers-preserved-in_ok-put_first_on
movers-preserved-in_ok-put_first_on g c =
    let first = c.in-Some.ensures.cases.0 in
    let zones = tables_of c.args.zones.now in
    let fits : FitsSigned w64 c.in-Some-day_of_mover.midnight = search (rules, rw c.in-Some-day_of_mover.is at c.day_of_mover.type_inv) in
    let put = simp to_z-of_z at c.in_ok-put_first_on.ensures in
    record {
      made = one_first_more zones c.args.stamp c.args.component.now c.in-Some.mover.now c.in-Some.behind.now c.in-Some-day_of_mover.midnight c.movers.firsts c.put_first_on.new.out _
          c.in-Some-day_of_mover.ensures.value put (rw first at c.movers.invariant.made);
      left = All-tail (HasConvertibleRow (length c.args.zones.now)) c.in-Some.mover.now c.in-Some.behind.now (rw first at c.movers.invariant.left);
    }

pub movers-preserved : goal.movers-preserved
movers-preserved g c =
    let first = c.in-Some.ensures.cases.0 in
    let zones = tables_of c.args.zones.now in
    record {
      made = no_first zones c.args.stamp c.args.component.now c.in-Some.mover.now c.in-Some.behind.now c.movers.firsts _
          (rw c.in_default-day_of_mover.is at c.day_of_mover.ensures.value) (rw first at c.movers.invariant.made);
      left = All-tail (HasConvertibleRow (length c.args.zones.now)) c.in-Some.mover.now c.in-Some.behind.now (rw first at c.movers.invariant.left);
    }
