use Rattle.std.proofs.Common.{◌&&◌, int_lt, Option, ◌∙◌, sym, rules, tests}
use Rattle.std.proofs.lemmas.Iterator.{YieldsList-from_slice}
use Rattle.std.proofs.lemmas.Iterator.Search.{any_from_yields_List}
use Rattle.cal_model.specs.declared.object.Class.{Class}
use Rattle.cal_moment.specs.declared.stamp.Period.{Period}
use Rattle.cal_model.specs.Ranges.Overlap as spec
use Rattle.cal_model.proofs.Words.ListTests.{any_map}
use Rattle.overlap_rules.proofs.table.some_period_overlaps.Goals as goal

pub returns : goal.returns
returns c =
    let from = c.args.range.start.0 in
    let to = c.args.range.end.0 in
    let periods = c.args.periods.now in
    any_from_yields_List (λ (s : Option Class × Period). int_lt from (spec.stored_period s.1).1 && int_lt (spec.stored_period s.1).0 to) _ _ _ c.any.ensures.ran (YieldsList-from_slice periods cc) (λ x b q k. search (rules, tests))
    ∙ sym (any_map (λ p. int_lt from p.1 && int_lt p.0 to) (λ (s : Option Class × Period). spec.stored_period s.1) periods)
