use Rattle.std.proofs.Common.{◌≡◌, ◌+◌, ◌*◌, ◌∙◌, ap, arith, rules, true, false}
use Rattle.std.specs.Prelude.{if◌then◌else◌, ◌==◌}
use Rattle.cal_model.proofs.Recurrence.Days.{NonePasses-empty}
use Rattle.cal_model.specs.Recurrence.Passing.{day_passes, period_passes}
use Rattle.cal_moment.specs.Calendar.{day_of_moment}
use Rattle.cal_model.proofs.Recurrence.DayTimes.{midnight_is, midnight_late, midnight_uncounted, day_of_start}
use Rattle.rrule_filter.specs.StartMoment.{moment_of}
use Rattle.rrule_filter.proofs.walk.next_midnight.Goals as goal

pub returns-then-from-ne0 : goal.returns-then-from-ne0
returns-then-from-ne0 c =
    let start = c.args.start.now in
    let same = day_of_start start.today.day start.second (omega arith) in
    let day : day_passes c.args.rule.now (day_of_moment (moment_of c.args.start.now)) c.args.today.now.day ≡ true = rw same c.requires.day in
    rw c.requires.dated (midnight_late c.args.rule.now (moment_of c.args.start.now) c.args.today.now.day c.args.from (omega arith) day)

pub returns-then-counts : goal.returns-then-counts
returns-then-counts c =
    let start = c.args.start.now in
    let same = day_of_start start.today.day start.second (omega arith) in
    let day : day_passes c.args.rule.now (day_of_moment (moment_of c.args.start.now)) c.args.today.now.day ≡ true = rw same c.requires.day in
    let counts : period_passes c.args.rule.now (moment_of c.args.start.now) (86400 * c.args.today.now.day + 0) ≡ true = search rules in
    let is = midnight_is c.args.rule.now (moment_of c.args.start.now) c.args.today.now.day 0 (omega arith) day in
    record {
      from = omega arith;
      below = omega arith;
      passing = rw c.requires.dated (is ∙ ap (λ b. if b then 0 == 0 else false) counts);
      none_before = NonePasses-empty _ _ _ _ _ (omega arith);
    }

pub returns-else-counts : goal.returns-else-counts
returns-else-counts c =
    let start = c.args.start.now in
    let first : c.args.from ≡ 0 = omega arith in
    let same = day_of_start start.today.day start.second (omega arith) in
    let day : day_passes c.args.rule.now (day_of_moment (moment_of c.args.start.now)) c.args.today.now.day ≡ true = rw same c.requires.day in
    let counts : period_passes c.args.rule.now (moment_of c.args.start.now) (86400 * c.args.today.now.day + 0) ≡ false = search rules in
    rw (first, c.requires.dated) (midnight_uncounted c.args.rule.now (moment_of c.args.start.now) c.args.today.now.day counts day)
