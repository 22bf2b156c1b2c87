use Rattle.std.proofs.Common.{◌≡◌, ◌+◌, nat_lt, inl, inr, arith}
use Rattle.std.proofs.lemmas.Bool.{cases_Bool, ltb-true, ltb-false}
use Rattle.cal_model.specs.Recurrence.Passing.{day_passes}
use Rattle.cal_model.proofs.Words.CountedRuns.{count_in}
use Rattle.rrule_step.specs.Periods.{month_begin}
use Rattle.rrule_step.proofs.CountLemmas.{fewer, month_count}
use Rattle.rrule_step.proofs.counts.some_month_has.Goals as goal

pub loop-number-init : goal.loop-number-init
loop-number-init c = λ k low high. absurd (omega (arith, low, high))

pub loop-number-preserved : goal.loop-number-preserved
loop-number-preserved c = λ k low high.
    elim (cases_Bool (nat_lt k c.loop-number.number)) [
      | inl w ↦ c.loop-number.invariant k low (ltb-true _ _ w)
      | inr w ↦
          (let late = ltb-false _ _ w in
          let same : k ≡ c.loop-number.number = omega (arith, late, high) in
          rw same (fewer (count_in (day_passes c.args.rule.now c.args.plan.now.start.day) (month_begin c.loop-number.number) (month_begin (c.loop-number.number + 1))) c.days_in_month-days.result c.args.times c.args.least c.days_in_month-days.ensures.most (c.are_enough.ensures c.if-are_enough.false)))
    ]

pub returns : goal.returns
returns c = λ none n from.
    let sample = month_count c.args.rule.now c.args.plan.now.start.day n from in
    let below = sample.2 in
    fewer (count_in (day_passes c.args.rule.now c.args.plan.now.start.day) (month_begin n) (month_begin (n + 1))) (count_in (day_passes c.args.rule.now c.args.plan.now.start.day) (month_begin sample.0) (month_begin (sample.0 + 1))) c.args.times c.args.least sample.3
    (c.loop-number.invariant sample.0 sample.1 (omega (arith, below, c.loop-number-test.false)))
