use Rattle.std.proofs.Common.{length, rules, FitsSigned, w32, to_z-of_z}
use Rattle.std.proofs.lemmas.List.Elements.{All-head, All-tail}
use Rattle.std.specs.Prelude.{option_to_list}
use Rattle.override_merge.specs.Conversions.{tables_of, HasConvertibleRow}
use Rattle.rrule_sets.proofs.MovedLemmas.{days_all, moved_all, moved_first, moved_more}
use Rattle.rrule_sets.proofs.needed.with_moved.Goals as goal

pub overrides-init : goal.overrides-init
overrides-init c =
    let fits : FitsSigned w32 c.args.window = search rules in
    record { range = simp to_z-of_z (moved_first (tables_of c.args.zones.now) c.args.ids c.args.window c.args.range c.args.components.now); left = c.requires.components }

pub day_of_mover-requires-clause-component : goal.day_of_mover-requires-clause-component
day_of_mover-requires-clause-component c =
    let first = c.in-Some.ensures.cases.0 in
    All-head (HasConvertibleRow (length c.args.zones.now)) c.in-Some.component.now c.in-Some.behind.now (rw first at c.overrides.invariant.left)

pub moved_digits_of-requires-clause-component : goal.moved_digits_of-requires-clause-component
moved_digits_of-requires-clause-component c =
    let first = c.in-Some.ensures.cases.0 in
    All-head (HasConvertibleRow (length c.args.zones.now)) c.in-Some.component.now c.in-Some.behind.now (rw first at c.overrides.invariant.left)

pub overrides-preserved : goal.overrides-preserved
overrides-preserved c =
    let first = c.in-Some.ensures.cases.0 in
    let fits : FitsSigned w32 c.args.window = search rules in
    let so_far = simp to_z-of_z at (rw first at c.overrides.invariant.range) in
    let moved = simp to_z-of_z at c.moved_digits_of.ensures.moved in
    let ends = simp to_z-of_z at c.moved_digits_of.ensures.least in
    record {
      range = simp to_z-of_z (moved_more (tables_of c.args.zones.now) c.args.ids c.args.window c.args.range c.args.components.now c.in-Some.component.now c.in-Some.behind.now c.overrides.range c.with_day-range.result c.with_digits-range.result (option_to_list c.day_of_mover.result) (option_to_list c.moved_digits_of.result)
          so_far c.day_of_mover.ensures.value c.with_day-range.ensures.range c.with_day-range.ensures.day c.with_day-range.ensures.least c.with_digits-range.ensures.range c.with_digits-range.ensures.more c.with_digits-range.ensures.least moved ends);
      left = All-tail (HasConvertibleRow (length c.args.zones.now)) c.in-Some.component.now c.in-Some.behind.now (rw first at c.overrides.invariant.left);
    }

pub returns-clause-moved : goal.returns-clause-moved
returns-clause-moved c =
    let fits : FitsSigned w32 c.args.window = search rules in
    let so_far = simp to_z-of_z at c.overrides.invariant.range in
    moved_all (tables_of c.args.zones.now) c.args.ids c.args.window c.args.range c.args.components.now c.overrides.rest.now c.overrides.range so_far c.in_default.ensures.cases

pub returns-clause-days : goal.returns-clause-days
returns-clause-days c =
    let fits : FitsSigned w32 c.args.window = search rules in
    let so_far = simp to_z-of_z at c.overrides.invariant.range in
    days_all (tables_of c.args.zones.now) c.args.ids c.args.window c.args.range c.args.components.now c.overrides.rest.now c.overrides.range so_far c.in_default.ensures.cases

pub returns-clause-least : goal.returns-clause-least
returns-clause-least c =
    let fits : FitsSigned w32 c.args.window = search rules in
    let so_far = simp to_z-of_z at c.overrides.invariant.range in
    λ z by behind. (so_far.least z by behind).0
