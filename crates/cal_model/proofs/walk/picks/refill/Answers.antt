use Rattle.std.proofs.Common.{◌++◌, sym, ap, ◌∙◌, arith}
use Rattle.cal_model.specs.Values.LocalTimes.{moment_of_local}
use Rattle.cal_model.specs.Walks.Clocks.{reading_by}
use Rattle.cal_model.specs.Walks.KeptMoments.{moments_of, kept_from}
use Rattle.cal_model.proofs.walk.picks.refill.Goals as goal

pub returns-in_err-over-clause-steps : goal.returns-in_err-over-clause-steps
returns-in_err-over-clause-steps g c = let less = c.step_if_none.ensures.steps (moment_of_local c.args.end) in omega (arith, less)

pub fill-requires-clause-taken : goal.fill-requires-clause-taken
fill-requires-clause-taken g c = rw (c.in_ok-over.ensures.stays c.if-over.false) c.requires.taken

pub fill-requires-clause-begun : goal.fill-requires-clause-begun
fill-requires-clause-begun g c = rw (c.in_ok-over.ensures.stays c.if-over.false) c.requires.begun

pub returns-then-over-clause-steps : goal.returns-then-over-clause-steps
returns-then-over-clause-steps g c = let less = c.in_ok-over.ensures.steps (moment_of_local c.args.end) in omega (arith, less)

pub returns-then-over-clause-kept : goal.returns-then-over-clause-kept
returns-then-over-clause-kept g c =
    c.in_ok-over.ensures.kept c.if-over.true
    ∙ ap (λ ls. moments_of ls ++ kept_from c.args.rule.now (moment_of_local c.args.start) (reading_by c.args.clock.now) (moment_of_local c.step_if_none.new.picks.cursor.at)) (sym c.truncate.ensures)

pub returns-clause-steps : goal.returns-clause-steps
returns-clause-steps g c =
    let less = c.in_ok-over.ensures.steps (moment_of_local c.args.end) in
    let filled = c.fill.ensures.steps in
    omega (arith, less, filled)

pub returns-clause-forward : goal.returns-clause-forward
returns-clause-forward g c = rw (c.in_ok-over.ensures.stays c.if-over.false) at c.fill.ensures.forward

pub returns-clause-kept : goal.returns-clause-kept
returns-clause-kept g c = rw (c.in_ok-over.ensures.stays c.if-over.false) at c.fill.ensures.kept
