use Rattle.std.proofs.Common.{◌%◌, ◌∙◌, arith, rules, refl}
use Rattle.cal_model.proofs.Recurrence.DayTimes.{second_is, seconds_missed, absent-passes, absent-fails}
use Rattle.cal_model.proofs.Recurrence.Days.{NonePasses-one, NonePasses-joined}
use Rattle.rrule_filter.proofs.times.next_in_minute.Goals as goal

pub returns-then-part_passes : goal.returns-then-part_passes
returns-then-part_passes c =
    let is = second_is c.args.rule.now c.args.start.now.today.day c.args.start.now.second c.args.today.now.day c.requires.rule (omega arith) c.requires.day c.args.hour c.args.minute c.loop-second.second c.requires.hour c.requires.minute (omega arith) c.requires.opens c.requires.minute_passes in
    record {
      from = omega arith;
      below = omega arith;
      passing = rw c.requires.timed (is ∙ search rules);
      none_before = c.loop-second.invariant;
    }

pub loop-second-preserved : goal.loop-second-preserved
loop-second-preserved c =
    let is = second_is c.args.rule.now c.args.start.now.today.day c.args.start.now.second c.args.today.now.day c.requires.rule (omega arith) c.requires.day c.args.hour c.args.minute c.loop-second.second c.requires.hour c.requires.minute (omega arith) c.requires.opens c.requires.minute_passes in
    NonePasses-joined _ _ _ _ _ _ c.loop-second.invariant (NonePasses-one _ _ _ _ _ (rw c.requires.timed (is ∙ search rules)) (omega arith))

-- BYSECOND is absent
pub returns-then-from-second : goal.returns-then-from-second
returns-then-from-second c =
    let is = second_is c.args.rule.now c.args.start.now.today.day c.args.start.now.second c.args.today.now.day c.requires.rule (omega arith) c.requires.day c.args.hour c.args.minute (c.args.start.now.second % 60) c.requires.hour c.requires.minute (omega arith) c.requires.opens c.requires.minute_passes in
    let same = absent-passes c.args.rule.now.by_second (c.args.start.now.second % 60) (c.args.start.now.second % 60) (search rules) refl in
    record {
      from = omega arith;
      below = omega arith;
      passing = rw c.requires.timed (is ∙ same);
      none_before = rw c.requires.timed (seconds_missed c.args.rule.now c.args.start.now.today.day c.args.start.now.second c.args.today.now.day c.requires.rule (omega arith) c.requires.day c.args.hour c.args.minute c.args.from (c.args.start.now.second % 60) c.requires.hour c.requires.minute (omega arith) c.requires.opens c.requires.minute_passes
          (λ k low high. absent-fails c.args.rule.now.by_second (c.args.start.now.second % 60) k (search rules) (omega (arith, high))));
    }

pub returns-else-from-second : goal.returns-else-from-second
returns-else-from-second c =
    rw c.requires.timed (seconds_missed c.args.rule.now c.args.start.now.today.day c.args.start.now.second c.args.today.now.day c.requires.rule (omega arith) c.requires.day c.args.hour c.args.minute c.args.from 60 c.requires.hour c.requires.minute (omega arith) c.requires.opens c.requires.minute_passes
    (λ k low high. absent-fails c.args.rule.now.by_second (c.args.start.now.second % 60) k (search rules) (omega (arith, low, c.if-from-second.false))))
