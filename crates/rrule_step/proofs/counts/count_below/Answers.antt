use Rattle.std.proofs.Common.{◌∙◌, sym, arith}
use Rattle.cal_model.proofs.Words.CountedRuns.{count_in-next, count_in-all}
use Rattle.rrule_step.specs.Sets.{has}
use Rattle.rrule_step.proofs.counts.count_below.Goals as goal
use Rattle.rrule_step.proofs.counts.count_below.Goals.{then-contains, else-contains}

pub loop-number-init : goal.loop-number-init
loop-number-init c = record { counted = let none = count_in-all (has c.args.set) 0 0 in omega (arith, none); bound = omega arith }

pub loop-number-preserved : goal.loop-number-preserved
loop-number-preserved c =
    let next = count_in-next (has c.args.set) 0 c.loop-number.number (omega arith) in
    let so_far = c.loop-number.invariant.counted in
    let bound = c.loop-number.invariant.bound in
    let says = c.contains.ensures in
    elim c.if-contains.branch [
      | then-contains w ↦ (let yes = sym says ∙ w.if-contains.true in let more = rw yes at next in let is = w.count-is in record { counted = omega (arith, more, so_far, is); bound = omega (arith, bound, is) })
      | else-contains w ↦ (let no = sym says ∙ w.if-contains.false in let more = rw no at next in let is = w.count-is in record { counted = omega (arith, more, so_far, is); bound = omega (arith, bound, is) })
    ]
