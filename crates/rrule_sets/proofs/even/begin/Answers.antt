use Rattle.std.proofs.Common.{ℕ, ◌+◌, sym, ap, ◌∙◌}
use Rattle.std.specs.Prelude.{Option}
use Rattle.cal_model.specs.Values.LocalTimes.{moment_of_local}
use Rattle.cal_model.specs.Walks.Clocks.{reading_by}
use Rattle.cal_model.specs.Walks.KeptMoments.{found_from, one_less, wanted}
use Rattle.rrule_sets.specs.EvenRules.{fewer}
use Rattle.rrule_sets.proofs.EvenLemmas.{passes_behind, skip, uncounted}
use Rattle.rrule_sets.proofs.even.begin.Goals as goal

pub returns-clause-passing : goal.returns-clause-passing
returns-clause-passing c =
    let at = c.moment_behind.ensures.value in
    rw at (passes_behind c.args.rule.now c.args.days c.requires.even (moment_of_local c.args.start) (reading_by c.args.clock.now) (moment_of_local c.args.low) 0 c.moments_before-taken.result c.requires.own)

pub returns-clause-same : goal.returns-clause-same
returns-clause-same c = λ high.
    skip c.args.rule.now c.args.days c.requires.even (moment_of_local c.args.start) (reading_by c.args.clock.now) (moment_of_local c.args.low) high (one_less c.args.rule.now.count) c.moments_before-taken.result (moment_of_local c.moment_behind.result)
    c.moment_behind.ensures.value c.moments_before-taken.ensures c.requires.low_before_end c.requires.start_before_end c.requires.until (uncounted c.args.rule.now.count (c.counts_all.ensures c.if-not-counts_all.false)) c.requires.own
    ∙ ap (λ (left : Option ℕ). wanted c.args.rule.now (moment_of_local c.args.start) (reading_by c.args.clock.now) (moment_of_local c.args.low) high left (found_from c.args.rule.now (moment_of_local c.args.start) (reading_by c.args.clock.now) (moment_of_local c.moment_behind.result + 1)))
    (sym (c.less.ensures ∙ ap (fewer c.moments_before-taken.result) c.less_one-2.ensures))
