use Rattle.std.proofs.Common.{◌≡◌, ◌+◌, ◌-◌, ◌<◌, ◌∙◌, arith}
use Rattle.cal_model.specs.Recurrence.Passing.{week_passes}
use Rattle.rrule_step.specs.Sets.{has}
use Rattle.rrule_step.proofs.MonthLemmas.{one_more}
use Rattle.rrule_step.proofs.weeks.named_weeks.Goals as goal

pub loop-i-preserved : goal.loop-i-preserved
loop-i-preserved c = (
  λ k lt. c.with_if-set.ensures k (omega (arith, lt))
      ∙ one_more (λ n. week_passes c.args.rule.now (c.args.month.now.first + n)) (has c.loop-i.set k) c.week_passes_at-passes.result k c.loop-i.i (c.loop-i.invariant.0 k lt) c.week_passes_at-passes.ensures,
  λ some. let at : c.args.month.now.first + (c.loop-i.i + 1) - 1 ≡ c.args.month.now.first + c.loop-i.i = omega arith in rw at c.week_passes_at-passes.ensures,
)
