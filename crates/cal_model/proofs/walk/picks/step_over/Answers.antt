use Rattle.std.proofs.Common.{◌≡◌, ◌+◌, ◌*◌, ◌∙◌, length, refl, sym, arith}
use Rattle.std.proofs.lemmas.Int.{ints}
use Rattle.cal_model.specs.Recurrence.NextPassing.{end_day}
use Rattle.cal_model.specs.Values.LocalTimes.{moment_of_local}
use Rattle.cal_model.specs.Walks.Budgets.{last_period}
use Rattle.cal_model.specs.Walks.Clocks.{reading_by}
use Rattle.cal_model.proofs.Walks.BudgetLemmas.{budget-further}
use Rattle.cal_model.proofs.Walks.KeptLemmas.{kept_from-end}
use Rattle.cal_model.proofs.Walks.StepOverLemmas.{kept_from-never, kept_from-stepped}
use Rattle.cal_model.proofs.walk.picks.step_over.Goals as goal

pub returns-then-none_has-clause-steps : goal.returns-then-none_has-clause-steps
returns-then-none_has-clause-steps g c = λ end.
    let taken = c.requires.taken in
    let early = c.requires.cursor.before_end taken in
    let further = budget-further c.args.rule.now (moment_of_local c.args.start) (reading_by c.args.clock.now).dated (last_period c.args.rule.now end) (moment_of_local c.args.cursor.now.at + 1) (86400 * end_day) (omega (arith, early)) (omega arith) in
    rw taken further

pub returns-then-none_has-clause-forward : goal.returns-then-none_has-clause-forward
returns-then-none_has-clause-forward g c = λ u. c.requires.cursor.before_end c.requires.taken

pub returns-then-none_has-clause-kept : goal.returns-then-none_has-clause-kept
returns-then-none_has-clause-kept g c = λ u.
    let few = c.none_has.ensures c.if-none_has.true in
    let from = c.requires.cursor.written.from_first in
    kept_from-never c.args.rule.now (moment_of_local c.args.start) (reading_by c.args.clock.now) c.requires.long c.args.times.now (length c.args.times.now) c.args.least c.requires.times refl c.requires.least c.requires.some
    few (moment_of_local c.args.cursor.now.at) (omega (arith, ints, from)) c.requires.cursor.within
    ∙ sym (kept_from-end c.args.rule.now (moment_of_local c.args.start) (reading_by c.args.clock.now))

pub returns-clause-steps : goal.returns-clause-steps
returns-clause-steps g c = λ end.
    let taken = c.requires.taken in
    let later = c.period_end-cursor.ensures.ends.later in
    let within = c.period_end-cursor.ensures.within in
    let zero : moment_of_local c.period_end-cursor.result + 0 ≡ moment_of_local c.period_end-cursor.result = omega arith in
    let further = budget-further c.args.rule.now (moment_of_local c.args.start) (reading_by c.args.clock.now).dated (last_period c.args.rule.now end) (moment_of_local c.args.cursor.now.at + 1) (moment_of_local c.period_end-cursor.result) (omega (arith, later)) within in
    rw (taken, zero) further

pub returns-clause-kept : goal.returns-clause-kept
returns-clause-kept g c = λ u.
    let few = c.period_has.ensures c.if-period_has.false in
    let ends = c.period_end-cursor.ensures.ends in
    kept_from-stepped c.args.rule.now (moment_of_local c.args.start) (reading_by c.args.clock.now) c.requires.long c.args.times.now (length c.args.times.now) c.args.least c.requires.times refl c.requires.least c.requires.some
    (moment_of_local c.args.cursor.now.at) (moment_of_local c.period_end-cursor.result) few ends.later c.period_end-cursor.ensures.within ends.last ends.next
