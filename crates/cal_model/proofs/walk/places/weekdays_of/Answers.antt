use Rattle.std.proofs.Common.{◌∙◌, sym, arith}
use Rattle.cal_model.specs.Walks.Places.{has_weekday}
use Rattle.cal_model.proofs.Words.CountedRuns.{count_in-next, count_in-all}
use Rattle.cal_model.proofs.walk.places.weekdays_of.Goals as goal
use Rattle.cal_model.proofs.walk.places.weekdays_of.Goals.{then-names_weekday, else-names_weekday}

pub loop-weekday-init : goal.loop-weekday-init
loop-weekday-init c = record { counted = let none = count_in-all (has_weekday c.args.parts.now) 0 0 in omega (arith, none); bound = omega arith }

pub loop-weekday-preserved : goal.loop-weekday-preserved
loop-weekday-preserved c =
    let next = count_in-next (has_weekday c.args.parts.now) 0 c.loop-weekday.weekday (omega arith) in
    let so_far = c.loop-weekday.invariant.counted in
    let bound = c.loop-weekday.invariant.bound in
    let says = c.names_weekday.ensures in
    elim c.if-names_weekday.branch [
      | then-names_weekday w ↦ (let yes = sym says ∙ w.if-names_weekday.true in let more = rw yes at next in let is = w.count-is in record { counted = omega (arith, more, so_far, is); bound = omega (arith, bound, is) })
      | else-names_weekday w ↦ (let no = sym says ∙ w.if-names_weekday.false in let more = rw no at next in let is = w.count-is in record { counted = omega (arith, more, so_far, is); bound = omega (arith, bound, is) })
    ]
