use Rattle.std.proofs.Common.{◌≡◌, ◌+◌, ◌*◌, ◌/◌, ◌++◌, sym, ◌∙◌, arith, true, false}
use Rattle.std.specs.Prelude.{filter}
use Rattle.cal_moment.specs.Calendar.{second_of_day}
use Rattle.cal_model.specs.Recurrence.Passing.{part_passes, time_passes}
use Rattle.cal_model.specs.Values.LocalTimes.{moment_of_local}
use Rattle.cal_model.specs.Walks.DayTimes.{minute_passes}
use Rattle.cal_model.specs.Words.Lists.{numbers_between}
use Rattle.cal_model.proofs.Walks.DayTimeLemmas.{day_alone, hour_fails, hour_kept, nothing_put, stretch_put, stretch_left_out}
use Rattle.cal_model.proofs.walk.day_times.put_day_times.Goals as goal
use Rattle.cal_model.proofs.walk.day_times.put_day_times.Goals.{then-passes+in_ok-put_minutes, else-passes}

pub returns-then-dated : goal.returns-then-dated
returns-then-dated c = rw (c.if-dated.true, day_alone c.args.rule.now (second_of_day (moment_of_local c.args.start))) c.push.ensures.ok

pub loop-hour-init : goal.loop-hour-init
loop-hour-init c = nothing_put (time_passes c.args.rule.now (second_of_day (moment_of_local c.args.start)) false) 0 0 c.args.out.now (omega arith)

pub loop-hour-preserved : goal.loop-hour-preserved
loop-hour-preserved c =
    let of_start : second_of_day (moment_of_local c.args.start) ≡ c.args.start.second = omega arith in
    let hour = c.loop-hour.hour in
    let here = 3600 * c.loop-hour.hour in
    let next = 3600 * (c.loop-hour.hour + 1) in
    let test = time_passes c.args.rule.now c.args.start.second false in
    let minutes = filter (minute_passes c.args.rule.now c.args.start.second) (numbers_between here (here + 3600)) in
    let so_far : c.loop-hour.out ≡ c.args.out.now ++ filter test (numbers_between 0 here) = rw of_start at c.loop-hour.invariant in
    elim c.if-passes.branch [
      | then-passes+in_ok-put_minutes w ↦ (
          let passing : part_passes c.args.rule.now.by_hour (c.args.start.second / 3600) hour ≡ true = sym c.passes.ensures ∙ w.if-passes.true in
          let put : c.if-passes.out ≡ c.loop-hour.out ++ minutes = w.out-is ∙ w.in_ok-put_minutes.ensures in
          rw of_start (stretch_put test 0 here next c.args.out.now c.loop-hour.out c.if-passes.out minutes (omega arith) (omega arith) so_far (hour_kept c.args.rule.now c.args.start.second c.requires.whole hour next (omega arith) passing) put))
      | else-passes w ↦ (
          let failing : part_passes c.args.rule.now.by_hour (c.args.start.second / 3600) hour ≡ false = sym c.passes.ensures ∙ w.if-passes.false in
          rw of_start (w.out-is ∙ stretch_left_out test 0 here next c.args.out.now c.loop-hour.out (omega arith) (omega arith) so_far
          (λ m low high. hour_fails c.args.rule.now c.args.start.second c.requires.whole hour failing m low (omega (arith, high)))))
    ]
