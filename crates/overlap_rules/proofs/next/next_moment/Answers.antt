use Rattle.std.proofs.Common.{arith, ap, ◌∙◌, ◌≡◌, ◌+ℤ◌, ◌-ℤ◌, FitsSigned, w64, to_z, of_z, to_z-of_z, rules}
use Rattle.std.specs.Int.{w128}
use Rattle.std.specs.Prelude.{unsigned_abs}
use Rattle.std.proofs.lemmas.Int.{ints}
use Rattle.cal_model.specs.Ranges.Overlap.{seconds_of}
use Rattle.overlap_rules.proofs.Triggers.{none_of_alarm, first_of_alarm}
use Rattle.overlap_rules.proofs.next.next_moment.Goals as goal

pub overflow_sub-result : goal.overflow_sub-result
overflow_sub-result c =
    let ahead = c.in-Some.ensures.ahead in
    let below = c.in-Some.ensures.reaches.2.before_high in
    let fits : FitsSigned w64 c.args.range.end.0 = search rules in
    omega (arith, ints)

pub returns-in-Some : goal.returns-in-Some
returns-in-Some c =
    let first = c.in-Some.ensures in
    let ahead = first.ahead in
    let below = first.reaches.2.before_high in
    let low_fits : FitsSigned w64 c.args.range.start.0 = search rules in
    let high_fits : FitsSigned w64 c.args.range.end.0 = search rules in
    let gap : to_z w128 (of_z w128 c.seconds_of.result) ≡ seconds_of c.args.alarm.now.gap = omega (arith, ints) in
    let first_fits : FitsSigned w128 c.in-Some.first = omega (arith, ints) in
    let lead_fits : FitsSigned w128 c.lead_of-lead.result = omega (arith, ints) in
    let less_fits : FitsSigned w128 (c.in-Some.first -ℤ c.lead_of-lead.result) = omega (arith, ints) in
    let back : c.in-Some.first ≡ (c.in-Some.first -ℤ c.lead_of-lead.result) +ℤ c.lead_of-lead.result = omega (arith, ints) in
    first_of_alarm c.args.alarm.now c.args.after c.args.range c.args.from c.lead_of-lead.result
    (to_z w128 (of_z w128 (to_z w128 (of_z w128 c.in-Some.first) -ℤ to_z w128 (of_z w128 c.lead_of-lead.result)))) first c.lead_of-lead.ensures.value (c.unsigned_abs-gap.ensures.value ∙ ap unsigned_abs gap)
    (omega (arith, ints)) (omega (arith, ints)) (omega (arith, ints)) (simp to_z-of_z back)

pub returns-in-None : goal.returns-in-None
returns-in-None c =
    let low_fits : FitsSigned w64 c.args.range.start.0 = search rules in
    let high_fits : FitsSigned w64 c.args.range.end.0 = search rules in
    let gap : to_z w128 (of_z w128 c.seconds_of.result) ≡ seconds_of c.args.alarm.now.gap = omega (arith, ints) in
    none_of_alarm c.args.alarm.now c.args.after c.args.range c.args.from c.lead_of-lead.result c.unsigned_abs-gap.result
    (to_z w128 (of_z w128 (to_z w64 (of_z w64 c.args.range.start.0)))) (to_z w128 (of_z w128 (to_z w64 (of_z w64 c.args.range.end.0))))
    (to_z w128 (of_z w128 (to_z w128 (of_z w128 (to_z w64 (of_z w64 c.args.from))) +ℤ to_z w128 (of_z w128 c.lead_of-lead.result))))
    c.lead_of-lead.ensures.value (c.unsigned_abs-gap.ensures.value ∙ ap unsigned_abs gap) (omega (arith, ints)) (omega (arith, ints)) (omega (arith, ints)) c.in-None.ensures
