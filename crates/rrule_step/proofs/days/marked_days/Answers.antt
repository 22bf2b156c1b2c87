use Rattle.std.proofs.Common.{◌+◌, ◌∙◌, false, arith, slice_index_or}
use Rattle.rrule_step.specs.Sets.{has}
use Rattle.rrule_step.proofs.MonthLemmas.{one_more}
use Rattle.rrule_step.proofs.days.marked_days.Goals as goal

pub loop-i-preserved : goal.loop-i-preserved
loop-i-preserved c = λ k lt.
    c.with_if-set.ensures k (omega (arith, lt))
    ∙ one_more (λ n. slice_index_or c.args.table.now (c.args.before + n) false) (has c.loop-i.set k) c.is_marked-marked.result k c.loop-i.i (c.loop-i.invariant k lt) c.is_marked-marked.ensures
