use Rattle.std.proofs.Common.{◌≡◌, ◌+◌, ◌-◌, sym, ap, ◌∙◌, arith, refl}
use Rattle.std.proofs.lemmas.List.Elements.{All-nil}
use Rattle.cal_model.specs.Recurrence.RuleBounds.{IsWritten}
use Rattle.cal_model.specs.Values.LocalTimes.{moment_of_local}
use Rattle.cal_model.proofs.Recurrence.Rising.{period_number-le}
use Rattle.cal_model.specs.Walks.Budgets.{last_period, place_of, budget}
use Rattle.cal_model.specs.Walks.Clocks.{reading_by}
use Rattle.cal_model.specs.Walks.KeptMoments.{number_of, moments_of}
use Rattle.cal_model.proofs.Walks.KeptLemmas.{found_between-none, gathered_more, gathered_one}
use Rattle.cal_model.proofs.walk.picks.gather.Goals as goal

pub gather-init : goal.gather-init
gather-init g c =
    let empty = c.requires.empty in
    record {
      cursor = c.requires.cursor;
      taken = c.requires.taken;
      forward = omega arith;
      same = sym c.period_of-number.ensures;
      found = rw empty (sym (found_between-none c.args.rule.now (moment_of_local c.args.start) (reading_by c.args.clock.now) (moment_of_local c.args.cursor.now.at)));
      written = rw empty (All-nil (λ l. IsWritten l));
      steps = omega arith;
    }

pub stays-requires-clause-from : goal.stays-requires-clause-from
stays-requires-clause-from g c =
    let value = c.second_after-cursor.ensures.value in
    let up = period_number-le c.args.rule.now.freq c.args.rule.now.week_start (moment_of_local c.gather.cursor.at) (moment_of_local c.second_after-cursor.result) (omega (arith, value)) in
    let same = c.gather.invariant.same in
    omega (arith, up, same)

pub returns-then-not-stays-clause-found : goal.returns-then-not-stays-clause-found
returns-then-not-stays-clause-found g c =
    let passing = c.gather.invariant.cursor.passing c.gather.invariant.taken in
    gathered_more c.args.rule.now (moment_of_local c.args.start) (reading_by c.args.clock.now) (moments_of c.gather.found) (moments_of c.keep_if_there.new.found) (moment_of_local c.args.cursor.now.at) (moment_of_local c.gather.cursor.at) (moment_of_local c.second_after-cursor.result) (moment_of_local c.stays.new.cursor.at)
    c.gather.invariant.forward passing c.gather.invariant.found c.in_ok-keep_if_there.ensures.found c.second_after-cursor.ensures.value c.stays.ensures.forward c.stays.ensures.passed

pub returns-then-not-stays-clause-one : goal.returns-then-not-stays-clause-one
returns-then-not-stays-clause-one g c =
    let passing = c.gather.invariant.cursor.passing c.gather.invariant.taken in
    gathered_one c.args.rule.now (moment_of_local c.args.start) (reading_by c.args.clock.now) (moments_of c.gather.found) (moments_of c.keep_if_there.new.found) (moment_of_local c.args.cursor.now.at) (moment_of_local c.gather.cursor.at) (number_of c.args.rule.now (moment_of_local c.args.cursor.now.at))
    c.gather.invariant.forward passing c.gather.invariant.found c.in_ok-keep_if_there.ensures.found refl (c.gather.invariant.same ∙ c.period_of-number.ensures)

pub gather-preserved : goal.gather-preserved
gather-preserved g c =
    let passing = c.gather.invariant.cursor.passing c.gather.invariant.taken in
    let value = c.second_after-cursor.ensures.value in
    let up = c.stays.ensures.forward in
    let on = c.stays.ensures.goes_on c.if-not-stays.false in
    record {
      cursor = c.stays.ensures.cursor;
      taken = on.0;
      forward = omega (arith, value, up, c.gather.invariant.forward);
      same = on.1;
      found = gathered_more c.args.rule.now (moment_of_local c.args.start) (reading_by c.args.clock.now) (moments_of c.gather.found) (moments_of c.keep_if_there.new.found) (moment_of_local c.args.cursor.now.at) (moment_of_local c.gather.cursor.at) (moment_of_local c.second_after-cursor.result) (moment_of_local c.stays.new.cursor.at)
          c.gather.invariant.forward passing c.gather.invariant.found c.in_ok-keep_if_there.ensures.found value up c.stays.ensures.passed;
      written = c.in_ok-keep_if_there.ensures.written c.gather.invariant.written;
      steps = (let taken = c.gather.invariant.taken in
          let place : moment_of_local c.second_after-cursor.result + 0 ≡ place_of c.gather.cursor = rw (value, taken) (omega arith) in
          let same = ap (budget c.args.rule.now (moment_of_local c.args.start) (reading_by c.args.clock.now).dated (last_period c.args.rule.now (moment_of_local c.args.end))) place in
          let here = rw same at c.stays.ensures.steps in
          let so_far = c.gather.invariant.steps in
          omega (arith, here, so_far));
    }

pub stays-requires-clause-begun : goal.stays-requires-clause-begun
stays-requires-clause-begun g c =
    let back : moment_of_local c.second_after-cursor.result - 1 ≡ moment_of_local c.gather.cursor.at = omega (arith, c.second_after-cursor.ensures.value) in
    let same : number_of c.args.rule.now (moment_of_local c.gather.cursor.at) ≡ number_of c.args.rule.now (moment_of_local c.args.cursor.now.at) = c.gather.invariant.same ∙ c.period_of-number.ensures in
    rw (back, same) c.requires.begun
