use Rattle.std.proofs.Common.{◌≡◌, ◌+◌, ◌-◌, ◌/◌, sym, ◌∙◌, arith, refl}
use Rattle.std.proofs.lemmas.List.Elements.{All-nil}
use Rattle.cal_model.specs.Recurrence.RuleBounds.{IsWritten}
use Rattle.cal_model.specs.Values.LocalTimes.{moment_of_local}
use Rattle.cal_model.proofs.Recurrence.Rising.{period_number-le}
use Rattle.cal_model.specs.Walks.Budgets.{last_period, place_of}
use Rattle.cal_model.specs.Walks.Clocks.{reading_by}
use Rattle.cal_model.specs.Walks.KeptMoments.{number_of, moments_of}
use Rattle.cal_model.proofs.Walks.KeptLemmas.{found_between-none}
use Rattle.cal_model.proofs.Walks.BudgetLemmas.{budget-further}
use Rattle.cal_model.proofs.Walks.DayLemmas.{day_gathered, day_gathered_one, same_by_day}
use Rattle.cal_model.proofs.walk.picks.gather_days.Goals as goal

pub days-init : goal.days-init
days-init g c =
    let empty = c.requires.empty in
    record {
      cursor = c.requires.cursor;
      taken = c.requires.taken;
      forward = omega arith;
      same = sym c.period_of-number.ensures;
      found = rw empty (sym (found_between-none c.args.rule.now (moment_of_local c.args.start) (reading_by c.args.clock.now) (moment_of_local c.args.cursor.now.at)));
      written = rw empty (All-nil (λ l. IsWritten l));
      steps = omega arith;
    }

pub stays-requires-clause-from : goal.stays-requires-clause-from
stays-requires-clause-from g c =
    let value = c.next_midnight-cursor.ensures.value in
    let up = period_number-le c.args.rule.now.freq c.args.rule.now.week_start (moment_of_local c.days.cursor.at) (moment_of_local c.next_midnight-cursor.result) (omega (arith, value)) in
    let same = c.days.invariant.same in
    omega (arith, up, same)

pub returns-then-not-stays-clause-found : goal.returns-then-not-stays-clause-found
returns-then-not-stays-clause-found g c =
    let next = c.next_midnight-cursor.ensures.value in
    let grown = rw (sym next) at c.in_ok-keep_day.ensures.found in
    day_gathered c.args.rule.now (moment_of_local c.args.start) (reading_by c.args.clock.now) (moments_of c.days.found) (moments_of c.keep_day.new.found) (moment_of_local c.args.cursor.now.at) (moment_of_local c.days.cursor.at) (moment_of_local c.next_midnight-cursor.result) (moment_of_local c.stays.new.cursor.at)
    c.days.invariant.forward c.days.invariant.found grown next c.stays.ensures.forward c.stays.ensures.passed

pub returns-then-not-stays-clause-one : goal.returns-then-not-stays-clause-one
returns-then-not-stays-clause-one g c =
    let next = c.next_midnight-cursor.ensures.value in
    let grown = rw (sym next) at c.in_ok-keep_day.ensures.found in
    day_gathered_one c.args.rule.now (moment_of_local c.args.start) (reading_by c.args.clock.now) (moments_of c.days.found) (moments_of c.keep_day.new.found) (moment_of_local c.args.cursor.now.at) (moment_of_local c.days.cursor.at) (moment_of_local c.next_midnight-cursor.result) (number_of c.args.rule.now (moment_of_local c.args.cursor.now.at))
    c.requires.coarse c.requires.whole c.days.invariant.forward c.days.invariant.found grown next refl (c.days.invariant.same ∙ c.period_of-number.ensures)

pub days-preserved : goal.days-preserved
days-preserved g c =
    let next = c.next_midnight-cursor.ensures.value in
    let grown = rw (sym next) at c.in_ok-keep_day.ensures.found in
    let up = c.stays.ensures.forward in
    let on = c.stays.ensures.goes_on c.if-not-stays.false in
    record {
      cursor = c.stays.ensures.cursor;
      taken = on.0;
      forward = (let so_far = c.days.invariant.forward in omega (arith, next, up, so_far));
      same = on.1;
      found = day_gathered c.args.rule.now (moment_of_local c.args.start) (reading_by c.args.clock.now) (moments_of c.days.found) (moments_of c.keep_day.new.found) (moment_of_local c.args.cursor.now.at) (moment_of_local c.days.cursor.at) (moment_of_local c.next_midnight-cursor.result) (moment_of_local c.stays.new.cursor.at)
          c.days.invariant.forward c.days.invariant.found grown next up c.stays.ensures.passed;
      written = c.in_ok-keep_day.ensures.written c.days.invariant.written;
      steps = (let taken = c.days.invariant.taken in
          let end = c.days.invariant.cursor.before_end taken in
          let fewer = budget-further c.args.rule.now (moment_of_local c.args.start) (reading_by c.args.clock.now).dated (last_period c.args.rule.now (moment_of_local c.args.end)) (place_of c.days.cursor) (moment_of_local c.next_midnight-cursor.result + 0) (rw taken (omega (arith, next))) (omega (arith, next, end)) in
          let here = c.stays.ensures.steps in
          let so_far = c.days.invariant.steps in
          omega (arith, here, fewer, so_far));
    }

pub stays-requires-clause-begun : goal.stays-requires-clause-begun
stays-requires-clause-begun g c =
    let next = c.next_midnight-cursor.ensures.value in
    let day : (moment_of_local c.next_midnight-cursor.result - 1) / 86400 ≡ moment_of_local c.days.cursor.at / 86400 = omega (arith, next) in
    let last = same_by_day c.args.rule.now.freq c.args.rule.now.week_start (moment_of_local c.next_midnight-cursor.result - 1) (moment_of_local c.days.cursor.at) c.requires.coarse c.requires.whole day in
    let same : number_of c.args.rule.now (moment_of_local c.days.cursor.at) ≡ number_of c.args.rule.now (moment_of_local c.args.cursor.now.at) = c.days.invariant.same ∙ c.period_of-number.ensures in
    rw (last, same) c.requires.begun

pub returns-then-not-stays-clause-steps : goal.returns-then-not-stays-clause-steps
returns-then-not-stays-clause-steps g c =
    let next = c.next_midnight-cursor.ensures.value in
    let taken = c.days.invariant.taken in
    let end = c.days.invariant.cursor.before_end taken in
    let fewer = budget-further c.args.rule.now (moment_of_local c.args.start) (reading_by c.args.clock.now).dated (last_period c.args.rule.now (moment_of_local c.args.end)) (place_of c.days.cursor) (moment_of_local c.next_midnight-cursor.result + 0) (rw taken (omega (arith, next))) (omega (arith, next, end)) in
    let here = c.stays.ensures.steps in
    let so_far = c.days.invariant.steps in
    omega (arith, here, fewer, so_far)
