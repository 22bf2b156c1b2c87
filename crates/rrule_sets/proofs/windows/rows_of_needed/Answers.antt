use Rattle.std.proofs.Common.{◌∙◌, map, subst, arith}
use Rattle.std.specs.Prelude.{All}
use Rattle.std.proofs.lemmas.List.Elements.{All-cons, All-weaker}
use Rattle.cal_model.specs.Ranges.Nearness.{HasShortOffsets}
use Rattle.rrule_sets.specs.declared.windows.Needed.{Needed}
use Rattle.rrule_sets.specs.MovedStarts.{offset_bound}
use Rattle.rrule_sets.specs.NeededDigits.{HasRange}
use Rattle.rrule_sets.specs.SeveralWindows.{HasNeeded, IsNeededFor}
use Rattle.rrule_sets.proofs.DateStarts.{short_tables}
use Rattle.rrule_sets.proofs.MovedLemmas.{needed-for}
use Rattle.rrule_sets.proofs.SeveralLemmas.{looks_cost, one_walk_cost}
use Rattle.rrule_sets.proofs.windows.rows_of_needed.Goals as goal

pub rows_in_range-requires-clause-rows : goal.rows_in_range-requires-clause-rows
rows_in_range-requires-clause-rows g c = c.as_slice.ensures ∙ c.in_ok-rows.ensures.rows

pub rows_in_range-requires-clause-range : goal.rows_in_range-requires-clause-range
rows_in_range-requires-clause-range g c =
    let range = c.joined_with-range.result in
    rw c.in-Some.ensures.cases.0 (All-cons (λ (n : Needed). HasRange range n.range) c.in-Some.first.now c.in-Some.others.now c.joined_with-range.ensures.first c.joined_with-range.ensures.each)

pub returns-in_default-clause-steps : goal.returns-in_default-clause-steps
returns-in_default-clause-steps g c = λ before looks. let less = looks_cost c.args.object.now (map (λ (n : Needed). n.window) c.args.each.now) in omega (arith, looks, less)

pub returns-in_err-rows-clause-steps : goal.returns-in_err-rows-clause-steps
returns-in_err-rows-clause-steps g c = λ before looks.
    let object = c.args.object.now in
    let short = subst (All HasShortOffsets) c.requires.zones (short_tables c.args.zones.now) in
    let needed = All-weaker (HasNeeded object.zones c.args.ids object.components) (IsNeededFor object c.args.ids (offset_bound object.zones)) (λ n is. needed-for object c.args.ids n c.requires.ids short is) c.args.each.now c.requires.needed in
    one_walk_cost (offset_bound object.zones) object c.args.ids c.args.each.now c.in-Some.first.now c.in-Some.others.now c.joined_with-range.result before c.args.steps.now c.governed_rows.new.steps c.requires.ids c.in-Some.ensures.cases.0 needed c.joined_with-range.ensures.least looks c.governed_rows.ensures.steps

pub returns-clause-steps : goal.returns-clause-steps
returns-clause-steps g c = λ before looks.
    let object = c.args.object.now in
    let short = subst (All HasShortOffsets) c.requires.zones (short_tables c.args.zones.now) in
    let needed = All-weaker (HasNeeded object.zones c.args.ids object.components) (IsNeededFor object c.args.ids (offset_bound object.zones)) (λ n is. needed-for object c.args.ids n c.requires.ids short is) c.args.each.now c.requires.needed in
    one_walk_cost (offset_bound object.zones) object c.args.ids c.args.each.now c.in-Some.first.now c.in-Some.others.now c.joined_with-range.result before c.args.steps.now c.governed_rows.new.steps c.requires.ids c.in-Some.ensures.cases.0 needed c.joined_with-range.ensures.least looks c.governed_rows.ensures.steps
