use Rattle.std.proofs.Common.{◌≡◌, ◌+◌, ◌*◌, ◌/◌, ◌%◌, ◌++◌, sym, ◌∙◌, arith, true, false}
use Rattle.std.specs.Prelude.{filter}
use Rattle.cal_model.specs.Recurrence.Passing.{part_passes}
use Rattle.cal_model.specs.Walks.DayTimes.{minute_passes, second_passes}
use Rattle.cal_model.specs.Words.Lists.{numbers_between}
use Rattle.cal_model.proofs.Walks.DayTimeLemmas.{minute_fails, minute_kept, nothing_put, stretch_put, stretch_left_out}
use Rattle.cal_model.proofs.walk.day_times.put_minutes.Goals as goal
use Rattle.cal_model.proofs.walk.day_times.put_minutes.Goals.{then-passes+in_ok-put_seconds, else-passes}

pub loop-minute-init : goal.loop-minute-init
loop-minute-init c = nothing_put (minute_passes c.args.rule.now c.args.of_start) (3600 * c.args.hour) (3600 * c.args.hour + 0) c.args.out.now (omega arith)

pub loop-minute-preserved : goal.loop-minute-preserved
loop-minute-preserved c =
    let test = minute_passes c.args.rule.now c.args.of_start in
    let first = 3600 * c.args.hour in
    let minute = 60 * c.args.hour + c.loop-minute.minute in
    let here = 3600 * c.args.hour + 60 * c.loop-minute.minute in
    let next = 3600 * c.args.hour + 60 * (c.loop-minute.minute + 1) in
    let seconds = filter (second_passes c.args.rule.now c.args.of_start) (numbers_between (60 * minute) (60 * minute + 60)) in
    let digits : minute % 60 ≡ c.loop-minute.minute = omega arith in
    elim c.if-passes.branch [
      | then-passes+in_ok-put_seconds w ↦ (
          let passing : part_passes c.args.rule.now.by_minute (c.args.of_start / 60 % 60) (minute % 60) ≡ true = rw digits (sym c.passes.ensures ∙ w.if-passes.true) in
          let put : c.if-passes.out ≡ c.loop-minute.out ++ seconds = w.out-is ∙ w.in_ok-put_seconds.ensures in
          stretch_put test first here next c.args.out.now c.loop-minute.out c.if-passes.out seconds (omega arith) (omega arith) c.loop-minute.invariant (minute_kept c.args.rule.now c.args.of_start minute here next (omega arith) (omega arith) passing) put)
      | else-passes w ↦ (
          let failing : part_passes c.args.rule.now.by_minute (c.args.of_start / 60 % 60) (minute % 60) ≡ false = rw digits (sym c.passes.ensures ∙ w.if-passes.false) in
          w.out-is ∙ stretch_left_out test first here next c.args.out.now c.loop-minute.out (omega arith) (omega arith) c.loop-minute.invariant
          (λ m low high. minute_fails c.args.rule.now c.args.of_start minute failing m (omega (arith, low)) (omega (arith, high))))
    ]
