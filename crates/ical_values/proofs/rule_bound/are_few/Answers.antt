use Rattle.std.proofs.Common.{◌*◌, ℕ, List, min, max, nat_le, arith, ap, ◌∙◌}
use Rattle.cal_model.specs.Values.RuleTexts.{distinct}
use Rattle.ical_values.proofs.Distinct.{few_times}
use Rattle.ical_values.proofs.rule_bound.are_few.Goals as goal

pub returns : goal.returns
returns c =
    let rule = c.args.rule.now in
    let capped = λ (numbers : List ℕ). min 25 (max 1 (distinct numbers)) in
    let hours = c.times-hours.ensures ∙ ap capped c.as_slice.ensures in
    let minutes = c.times-minutes.ensures ∙ ap capped c.as_slice-2.ensures in
    let seconds = c.times-seconds.ensures ∙ ap capped c.as_slice-3.ensures in
    (λ i. nat_le (hours i * minutes i * seconds i) 24)
    ∙ few_times (max 1 (distinct rule.by_hour)) (max 1 (distinct rule.by_minute)) (max 1 (distinct rule.by_second)) (omega arith) (omega arith) (omega arith)
