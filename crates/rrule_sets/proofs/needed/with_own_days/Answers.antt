use Rattle.std.proofs.Common.{length, arith, rules, FitsSigned, w32, to_z-of_z}
use Rattle.std.proofs.lemmas.List.Elements.{All-head, All-tail}
use Rattle.override_merge.specs.Conversions.{tables_of, HasConvertibleRow}
use Rattle.rrule_sets.proofs.NeededLemmas.{needed_first, needed_more, needed_days, needed_steps}
use Rattle.rrule_sets.specs.NeededDigits.{overrides_in}
use Rattle.rrule_sets.proofs.needed.with_own_days.Goals as goal

pub overrides-init : goal.overrides-init
overrides-init g c =
    let fits : FitsSigned w32 c.args.window = search rules in
    let low = simp to_z-of_z at c.window_digits-range.ensures.low in
    let high = simp to_z-of_z at c.window_digits-range.ensures.high in
    record {
      range = simp to_z-of_z (needed_first (tables_of c.args.zones.now) c.args.ids c.args.window c.args.components.now c.window_digits-range.result low high);
      counted = omega arith;
      left = c.requires.components;
    }

pub day_needed-requires-clause-component : goal.day_needed-requires-clause-component
day_needed-requires-clause-component g c =
    let first = c.in-Some.ensures.cases.0 in
    All-head (HasConvertibleRow (length c.args.zones.now)) c.in-Some.component.now c.in-Some.behind.now (rw first at c.overrides.invariant.left)

pub overrides-preserved : goal.overrides-preserved
overrides-preserved g c =
    let first = c.in-Some.ensures.cases.0 in
    let counted = rw first at c.overrides.invariant.counted in
    let step = c.count_override.ensures in
    let fits : FitsSigned w32 c.args.window = search rules in
    let day = simp to_z-of_z at c.day_needed.ensures.value in
    let so_far = simp to_z-of_z at (rw first at c.overrides.invariant.range) in
    record {
      range = simp to_z-of_z (needed_more (tables_of c.args.zones.now) c.args.ids c.args.window c.args.components.now c.in-Some.component.now c.in-Some.behind.now c.overrides.range c.with_day-range.result c.day_needed.result so_far day c.with_day-range.ensures.range c.with_day-range.ensures.day c.with_day-range.ensures.least);
      counted = omega (arith, counted, step);
      left = All-tail (HasConvertibleRow (length c.args.zones.now)) c.in-Some.component.now c.in-Some.behind.now (rw first at c.overrides.invariant.left);
    }

pub returns-clause-steps : goal.returns-clause-steps
returns-clause-steps g c = needed_steps c.overrides.steps c.args.steps.now (overrides_in c.args.components.now) c.overrides.rest.now c.overrides.invariant.counted c.in_default.ensures.cases

pub returns-clause-window : goal.returns-clause-window
returns-clause-window g c =
    let fits : FitsSigned w32 c.args.window = search rules in
    let so_far = simp to_z-of_z at c.overrides.invariant.range in
    so_far.has_window

pub returns-clause-days : goal.returns-clause-days
returns-clause-days g c =
    let fits : FitsSigned w32 c.args.window = search rules in
    let so_far = simp to_z-of_z at c.overrides.invariant.range in
    needed_days (tables_of c.args.zones.now) c.args.ids c.args.window c.args.components.now c.overrides.rest.now c.overrides.range so_far c.in_default.ensures.cases

pub returns-clause-least : goal.returns-clause-least
returns-clause-least g c =
    let fits : FitsSigned w32 c.args.window = search rules in
    let so_far = simp to_z-of_z at c.overrides.invariant.range in
    λ z by days. (so_far.least z by days).0
