use Rattle.std.proofs.Common.{◌≡◌, ◌+◌, ◌*◌, arith, refl}
use Rattle.cal_model.specs.Recurrence.NextPassing.{end_day}
use Rattle.cal_model.specs.Values.LocalTimes.{moment_of_local}
use Rattle.cal_model.specs.Walks.Budgets.{last_period}
use Rattle.cal_model.specs.Walks.Clocks.{reading_by}
use Rattle.cal_model.proofs.Walks.BudgetLemmas.{taken_one, taken_none}
use Rattle.cal_model.proofs.walk.cursor.peek.Goals as goal

pub returns-in-Some-clause-steps : goal.returns-in-Some-clause-steps
returns-in-Some-clause-steps g c =
    let fresh = c.if-cursor.false in
    let zero : moment_of_local c.args.cursor.now.at + 0 ≡ moment_of_local c.args.cursor.now.at = omega arith in
    let next = rw c.is_dated.ensures at c.in-Some.ensures.some in
    let one = taken_one c.args.rule.now (moment_of_local c.args.start) (reading_by c.args.clock.now).dated (last_period c.args.rule.now (moment_of_local c.args.end)) (moment_of_local c.args.cursor.now.at) (moment_of_local c.in-Some.m) next (c.requires.begun fresh) in
    rw (fresh, zero, c.tick.ensures) (omega (arith, one))

pub returns-in-None-clause-steps : goal.returns-in-None-clause-steps
returns-in-None-clause-steps g c =
    let fresh = c.if-cursor.false in
    let zero : moment_of_local c.args.cursor.now.at + 0 ≡ moment_of_local c.args.cursor.now.at = omega arith in
    let le = taken_none c.args.rule.now (moment_of_local c.args.start) (reading_by c.args.clock.now).dated (last_period c.args.rule.now (moment_of_local c.args.end)) (moment_of_local c.args.cursor.now.at) (86400 * end_day) refl c.requires.cursor.within (c.requires.begun fresh) in
    rw (fresh, zero) (omega (arith, le))
