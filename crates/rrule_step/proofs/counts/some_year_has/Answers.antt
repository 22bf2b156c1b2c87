use Rattle.std.proofs.Common.{◌≡◌, ◌+◌, nat_lt, inl, inr, arith}
use Rattle.std.proofs.lemmas.Bool.{cases_Bool, ltb-true, ltb-false}
use Rattle.cal_moment.specs.Calendar.{first_of_year}
use Rattle.cal_model.specs.Recurrence.Passing.{day_passes}
use Rattle.cal_model.proofs.Words.CountedRuns.{count_in}
use Rattle.rrule_step.proofs.CountLemmas.{fewer, year_count}
use Rattle.rrule_step.proofs.counts.some_year_has.Goals as goal

pub loop-year-init : goal.loop-year-init
loop-year-init c = λ k low high. absurd (omega (arith, low, high))

pub loop-year-preserved : goal.loop-year-preserved
loop-year-preserved c = λ k low high.
    elim (cases_Bool (nat_lt k c.loop-year.year)) [
      | inl w ↦ c.loop-year.invariant k low (ltb-true _ _ w)
      | inr w ↦
          (let late = ltb-false _ _ w in
          let same : k ≡ c.loop-year.year = omega (arith, late, high) in
          rw same (fewer (count_in (day_passes c.args.rule.now c.args.plan.now.start.day) (first_of_year c.loop-year.year) (first_of_year (c.loop-year.year + 1))) c.days_in_year-days.result c.args.times c.args.least c.days_in_year-days.ensures (c.are_enough.ensures c.if-are_enough.false)))
    ]

pub returns : goal.returns
returns c = λ none n from.
    let sample = year_count c.args.rule.now c.args.plan.now.start.day n from in
    let below = sample.2 in
    fewer (count_in (day_passes c.args.rule.now c.args.plan.now.start.day) (first_of_year n) (first_of_year (n + 1))) (count_in (day_passes c.args.rule.now c.args.plan.now.start.day) (first_of_year sample.0) (first_of_year (sample.0 + 1))) c.args.times c.args.least sample.3
    (c.loop-year.invariant sample.0 sample.1 (omega (arith, below, c.loop-year-test.false)))
