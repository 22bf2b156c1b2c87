use Rattle.std.proofs.Common.{◌≡◌, ◌+◌, ◌*◌, ◌/◌, arith, rules}
use Rattle.cal_model.proofs.Recurrence.DayTimes.{minutes_missed}
use Rattle.rrule_filter.proofs.times.next_at_minute.Goals as goal

pub returns-else-part_passes : goal.returns-else-part_passes
returns-else-part_passes c =
    let shape : 86400 * c.args.today.now.day + 3600 * c.args.hour + 60 * c.args.minute + c.args.from ≡ 86400 * c.args.today.now.day + 3600 * c.args.hour + (60 * c.args.minute + c.args.from) = omega arith in
    let end : 86400 * c.args.today.now.day + 3600 * c.args.hour + 60 * c.args.minute + 60 ≡ 86400 * c.args.today.now.day + 3600 * c.args.hour + (60 * c.args.minute + 60) = omega arith in
    rw (c.requires.timed, shape, end) (minutes_missed c.args.rule.now c.args.start.now.today.day c.args.start.now.second c.args.today.now.day c.requires.rule (omega arith) c.requires.day c.args.hour (60 * c.args.minute + c.args.from) (60 * c.args.minute + 60) c.requires.hour (omega arith) c.requires.opens
    (λ k low high. let same : k / 60 ≡ c.args.minute = omega (arith, low, high) in rw same (search rules)))
