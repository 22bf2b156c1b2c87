use Rattle.std.proofs.Common.{◌≡◌, ◌+◌, ◌*◌, ◌/◌, ◌%◌, arith}
use Rattle.cal_model.proofs.Recurrence.DayTimes.{minutes_missed, absent-fails, next_joined, stretch_joined}
use Rattle.rrule_filter.proofs.times.next_at_start.Goals as goal

pub returns-then-minute-from : goal.returns-then-minute-from
returns-then-minute-from c =
    rw c.requires.timed (minutes_missed c.args.rule.now c.args.start.now.today.day c.args.start.now.second c.args.today.now.day c.requires.rule (omega arith) c.requires.day c.args.hour c.args.from 3600 c.requires.hour (omega arith) c.requires.opens
    (λ k low high. absent-fails c.args.rule.now.by_minute (c.args.start.now.second / 60 % 60) (k / 60) c.requires.absent (omega (arith, low, c.if-minute-from.true))))

pub returns-in-Some : goal.returns-in-Some
returns-in-Some c =
    let minute = c.args.start.now.second / 60 % 60 in
    let missed = minutes_missed c.args.rule.now c.args.start.now.today.day c.args.start.now.second c.args.today.now.day c.requires.rule (omega arith) c.requires.day c.args.hour c.args.from (60 * (c.args.start.now.second / 60 % 60)) c.requires.hour (omega arith) c.requires.opens
    (λ k low high. absent-fails c.args.rule.now.by_minute (c.args.start.now.second / 60 % 60) (k / 60) c.requires.absent (omega (arith, high))) in
    let next = rw c.requires.timed at c.in-Some.ensures in
    let shape : 86400 * c.args.today.now.day + 3600 * c.args.hour + (60 * (c.args.start.now.second / 60 % 60) + c.in-Some.found) ≡ 86400 * c.args.today.now.day + 3600 * c.args.hour + 60 * (c.args.start.now.second / 60 % 60) + c.in-Some.found = omega arith in
    rw (c.requires.timed, shape) (next_joined _ _ _ _ _ _ _ _ _ (omega arith) (omega arith) (λ m low high. omega (arith, low, high)) missed next)

pub returns-in-None : goal.returns-in-None
returns-in-None c =
    let missed = minutes_missed c.args.rule.now c.args.start.now.today.day c.args.start.now.second c.args.today.now.day c.requires.rule (omega arith) c.requires.day c.args.hour c.args.from (60 * (c.args.start.now.second / 60 % 60)) c.requires.hour (omega arith) c.requires.opens
    (λ k low high. absent-fails c.args.rule.now.by_minute (c.args.start.now.second / 60 % 60) (k / 60) c.requires.absent (omega (arith, high))) in
    let late = minutes_missed c.args.rule.now c.args.start.now.today.day c.args.start.now.second c.args.today.now.day c.requires.rule (omega arith) c.requires.day c.args.hour (60 * (c.args.start.now.second / 60 % 60) + 60) 3600 c.requires.hour (omega arith) c.requires.opens
    (λ k low high. absent-fails c.args.rule.now.by_minute (c.args.start.now.second / 60 % 60) (k / 60) c.requires.absent (omega (arith, low))) in
    let none = rw c.requires.timed at c.in-None.ensures in
    rw c.requires.timed (stretch_joined _ _ _ _ _ _ _ (λ m low high. omega (arith, low, high))
    (stretch_joined _ _ _ _ _ _ _ (λ m low high. omega (arith, low, high)) missed none) late)
