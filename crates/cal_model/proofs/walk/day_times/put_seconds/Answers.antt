use Rattle.std.proofs.Common.{◌≡◌, ◌+◌, ◌*◌, ◌%◌, [], ◌∷◌, ◌++◌, sym, ◌∙◌, arith, true, false}
use Rattle.cal_model.specs.Walks.DayTimes.{second_passes}
use Rattle.cal_model.proofs.Walks.DayTimeLemmas.{filter-one, nothing_put, stretch_put, stretch_left_out}
use Rattle.cal_model.proofs.walk.day_times.put_seconds.Goals as goal
use Rattle.cal_model.proofs.walk.day_times.put_seconds.Goals.{then-passes+in_ok-push, else-passes}

pub loop-second-init : goal.loop-second-init
loop-second-init c = nothing_put (second_passes c.args.rule.now c.args.of_start) (60 * c.args.minute) (60 * c.args.minute + 0) c.args.out.now (omega arith)

pub loop-second-preserved : goal.loop-second-preserved
loop-second-preserved c =
    let test = second_passes c.args.rule.now c.args.of_start in
    let first = 60 * c.args.minute in
    let here = 60 * c.args.minute + c.loop-second.second in
    let digits : here % 60 ≡ c.loop-second.second = omega arith in
    elim c.if-passes.branch [
      | then-passes+in_ok-push w ↦ (
          let passing : test here ≡ true = rw digits (sym c.passes.ensures ∙ w.if-passes.true) in
          let put : c.if-passes.out ≡ c.loop-second.out ++ here ∷ [] = w.out-is ∙ w.in_ok-push.ensures.ok in
          stretch_put test first here (60 * c.args.minute + (c.loop-second.second + 1)) c.args.out.now c.loop-second.out c.if-passes.out (here ∷ []) (omega arith) (omega arith) c.loop-second.invariant (filter-one test here (60 * c.args.minute + (c.loop-second.second + 1)) (omega arith) passing) put)
      | else-passes w ↦ (
          let failing : test here ≡ false = rw digits (sym c.passes.ensures ∙ w.if-passes.false) in
          w.out-is ∙ stretch_left_out test first here (60 * c.args.minute + (c.loop-second.second + 1)) c.args.out.now c.loop-second.out (omega arith) (omega arith) c.loop-second.invariant
          (λ m low high. let is : m ≡ here = omega (arith, low, high) in rw is failing))
    ]
