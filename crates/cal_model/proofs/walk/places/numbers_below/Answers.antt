use Rattle.std.proofs.Common.{◌∙◌, sym, arith}
use Rattle.cal_model.specs.Words.Lists.{has_number}
use Rattle.cal_model.proofs.Words.CountedRuns.{count_in-next, count_in-all}
use Rattle.cal_model.proofs.walk.places.numbers_below.Goals as goal
use Rattle.cal_model.proofs.walk.places.numbers_below.Goals.{then-has, else-has}

pub loop-number-init : goal.loop-number-init
loop-number-init c = record { counted = let none = count_in-all (has_number c.args.part.now) 0 0 in omega (arith, none); bound = omega arith }

pub loop-number-preserved : goal.loop-number-preserved
loop-number-preserved c =
    let next = count_in-next (has_number c.args.part.now) 0 c.loop-number.number (omega arith) in
    let so_far = c.loop-number.invariant.counted in
    let bound = c.loop-number.invariant.bound in
    let says = c.has.ensures in
    elim c.if-has.branch [
      | then-has w ↦ (let yes = sym says ∙ w.if-has.true in let more = rw yes at next in let is = w.count-is in record { counted = omega (arith, more, so_far, is); bound = omega (arith, bound, is) })
      | else-has w ↦ (let no = sym says ∙ w.if-has.false in let more = rw no at next in let is = w.count-is in record { counted = omega (arith, more, so_far, is); bound = omega (arith, bound, is) })
    ]
