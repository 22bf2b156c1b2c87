use Rattle.std.proofs.Common.{ap, arith, length}
use Rattle.std.specs.Prelude.{option_to_list}
use Rattle.std.proofs.lemmas.List.Elements.{All-append, All-head, All-tail}
use Rattle.cal_model.specs.Instances.Alignment.{reading_of}
use Rattle.override_merge.specs.Conversions.{HasConvertibleRow, tables_of}
use Rattle.override_merge.specs.Parts.{id_by}
use Rattle.rrule_sets.specs.HeldGovernors.{IsMovable}
use Rattle.rrule_sets.proofs.GovernorLemmas.{held_last, held_more}
use Rattle.rrule_sets.proofs.governors.put_governors.Goals as goal

pub governor_of-requires-clause-component : goal.governor_of-requires-clause-component
governor_of-requires-clause-component c =
    let first = c.in-Some.ensures.cases.0 in
    All-head (HasConvertibleRow (length c.args.zones.now)) c.in-Some.component.now c.in-Some.behind.now (rw first at c.overrides.invariant.left)

pub overrides-preserved-then-not-is_empty : goal.overrides-preserved-then-not-is_empty
overrides-preserved-then-not-is_empty c =
    let first = c.in-Some.ensures.cases.0 in
    let zones = tables_of c.args.zones.now in
    let name = id_by (reading_of zones c.args.ids) c.args.days.now in
    let counted = c.overrides.invariant.counted in
    let size = ap length first in
    record {
      made = rw (c.in_ok-put_governor.ensures, c.governor_of.ensures.value) (held_more zones c.args.ids name c.overrides.number c.in-Some.component.now c.in-Some.behind.now c.overrides.out _ (rw first at c.overrides.invariant.made));
      movable = rw c.in_ok-put_governor.ensures (All-append (IsMovable (length c.args.zones.now)) c.overrides.out (option_to_list c.governor_of.result) c.overrides.invariant.movable c.governor_of.ensures.movable);
      counted = omega (arith, counted, size);
      left = All-tail (HasConvertibleRow (length c.args.zones.now)) c.in-Some.component.now c.in-Some.behind.now (rw first at c.overrides.invariant.left);
    }

pub overrides-preserved : goal.overrides-preserved
overrides-preserved c =
    let first = c.in-Some.ensures.cases.0 in
    let zones = tables_of c.args.zones.now in
    let name = id_by (reading_of zones c.args.ids) c.args.days.now in
    let counted = c.overrides.invariant.counted in
    let size = ap length first in
    record {
      made = rw (c.in_ok-put_governor.ensures, c.governor_of.ensures.value, held_last zones c.args.ids name c.overrides.number c.in-Some.behind.now c.if-not-is_empty.ensures) (held_more zones c.args.ids name c.overrides.number c.in-Some.component.now c.in-Some.behind.now c.overrides.out _ (rw first at c.overrides.invariant.made));
      movable = rw c.in_ok-put_governor.ensures (All-append (IsMovable (length c.args.zones.now)) c.overrides.out (option_to_list c.governor_of.result) c.overrides.invariant.movable c.governor_of.ensures.movable);
      counted = omega (arith, counted, size);
      left = All-tail (HasConvertibleRow (length c.args.zones.now)) c.in-Some.component.now c.in-Some.behind.now (rw first at c.overrides.invariant.left);
    }
