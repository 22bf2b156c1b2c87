use Rattle.std.proofs.Common.{◌≡◌, ◌+◌, ◌*◌, ◌/◌, arith, rules}
use Rattle.cal_model.proofs.Recurrence.DayTimes.{hours_missed}
use Rattle.rrule_filter.proofs.times.next_at_hour.Goals as goal

pub returns-else-opens : goal.returns-else-opens
returns-else-opens c =
    let shape : 86400 * c.args.today.now.day + 3600 * c.args.hour + c.args.from ≡ 86400 * c.args.today.now.day + (3600 * c.args.hour + c.args.from) = omega arith in
    let end : 86400 * c.args.today.now.day + 3600 * c.args.hour + 3600 ≡ 86400 * c.args.today.now.day + (3600 * c.args.hour + 3600) = omega arith in
    rw (c.requires.timed, shape, end) (hours_missed c.args.rule.now c.args.start.now.today.day c.args.start.now.second c.args.today.now.day c.requires.rule (omega arith) c.requires.day (3600 * c.args.hour + c.args.from) (3600 * c.args.hour + 3600) (omega arith)
    (λ k low high. let same : k / 3600 ≡ c.args.hour = omega (arith, low, high) in rw same (search rules)))
