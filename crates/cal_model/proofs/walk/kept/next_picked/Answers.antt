use Rattle.std.proofs.Common.{ℕ, ◌≤◌, ◌<◌, ◌-◌, sym, ◌∙◌, arith, drop}
use Rattle.std.proofs.lemmas.Bool.{ltb-true, ltb-false}
use Rattle.cal_model.proofs.Recurrence.Days.{NonePasses-empty}
use Rattle.cal_model.proofs.Recurrence.Rising.{period_number-le}
use Rattle.cal_model.specs.Values.LocalTimes.{moment_of_local}
use Rattle.cal_model.specs.Walks.Clocks.{reading_by}
use Rattle.cal_model.specs.Walks.KeptMoments.{moments_of}
use Rattle.cal_model.specs.Walks.PickedRest.{rest_of}
use Rattle.cal_model.proofs.Walks.KeptLemmas.{past_end, no_more, refilled}
use Rattle.cal_model.proofs.walk.kept.next_picked.Goals as goal

pub returns-in_default-peek-clause-next : goal.returns-in_default-peek-clause-next
returns-in_default-peek-clause-next g c =
    let here = c.in_default.ensures.cursor in
    let within = c.in_default-peek.ensures.cursor.within in
    let up = rw here at c.in_default-peek.ensures.forward in
    let none = rw here at c.in_default-peek.ensures.passed in
    no_more c.args.rule.now (moment_of_local c.args.start) (reading_by c.args.clock.now) (λ (m : ℕ). moment_of_local c.args.end ≤ m) (rest_of c.args.rule.now (moment_of_local c.args.start) (reading_by c.args.clock.now) c.args.picks.now) (drop c.next.picks.given (moments_of c.next.picks.moments)) (moment_of_local c.next.picks.cursor.at) (moment_of_local c.peek.new.cursor.at)
    c.next.invariant.rest c.in_default.ensures.next up within none c.in_default-peek.ensures.none

pub returns-then-not-is_before-clause-next : goal.returns-then-not-is_before-clause-next
returns-then-not-is_before-clause-next g c =
    let here = c.in_default.ensures.cursor in
    let within = c.in-Some-peek.ensures.cursor.within in
    let up = rw here at c.in-Some-peek.ensures.forward in
    let none = rw here at c.in-Some-peek.ensures.passed in
    let at = c.in-Some-peek.ensures.some.0 in
    let past : moment_of_local c.args.end ≤ moment_of_local c.in-Some-peek.m = ltb-false _ _ (sym c.is_before.ensures ∙ c.if-not-is_before.true) in
    past_end c.args.rule.now (moment_of_local c.args.start) (reading_by c.args.clock.now) (rest_of c.args.rule.now (moment_of_local c.args.start) (reading_by c.args.clock.now) c.args.picks.now) (drop c.next.picks.given (moments_of c.next.picks.moments)) (moment_of_local c.next.picks.cursor.at) (moment_of_local c.peek.new.cursor.at) (moment_of_local c.args.end)
    c.next.invariant.rest c.in_default.ensures.next up within none (rw at at past)

pub next-preserved : goal.next-preserved
next-preserved g c =
    let here = c.in_default.ensures.cursor in
    let within = c.in-Some-peek.ensures.cursor.within in
    let up = rw here at c.in-Some-peek.ensures.forward in
    let none = rw here at c.in-Some-peek.ensures.passed in
    let zero = c.in_ok-refill.ensures.given in
    record {
      picks = record {
        cursor = c.in_ok-refill.ensures.cursor;
        given = rw zero (omega arith);
        written = c.in_ok-refill.ensures.written;
        times = c.in_ok-refill.ensures.times;
        places = c.in_ok-refill.ensures.places;
        plain = λ empty. let some = c.requires.some in absurd cc;
      };
      rest = rw zero (refilled c.args.rule.now (moment_of_local c.args.start) (reading_by c.args.clock.now) (rest_of c.args.rule.now (moment_of_local c.args.start) (reading_by c.args.clock.now) c.args.picks.now) (drop c.next.picks.given (moments_of c.next.picks.moments)) (moments_of c.refill.new.picks.moments) (moment_of_local c.next.picks.cursor.at) (moment_of_local c.peek.new.cursor.at) (moment_of_local c.refill.new.picks.cursor.at)
          c.next.invariant.rest c.in_default.ensures.next up within none c.in_ok-refill.ensures.kept);
      steps = (let filled = c.in_ok-refill.ensures.steps in
          let looked = rw here at c.in-Some-peek.ensures.steps in
          let so_far = c.next.invariant.steps in
          omega (arith, filled, looked, so_far));
    }

pub returns-then-is_past-clause-next : goal.returns-then-is_past-clause-next
returns-then-is_past-clause-next g c =
    let here = c.in_default.ensures.cursor in
    let past = rw here at (c.is_past.ensures.past c.if-is_past.true) in
    let within = c.next.invariant.picks.cursor.within in
    past_end c.args.rule.now (moment_of_local c.args.start) (reading_by c.args.clock.now) (rest_of c.args.rule.now (moment_of_local c.args.start) (reading_by c.args.clock.now) c.args.picks.now) (drop c.next.picks.given (moments_of c.next.picks.moments)) (moment_of_local c.next.picks.cursor.at) (moment_of_local c.next.picks.cursor.at) (moment_of_local c.args.end)
    c.next.invariant.rest c.in_default.ensures.next (omega arith) within
    (NonePasses-empty c.args.rule.now (moment_of_local c.args.start) (reading_by c.args.clock.now).dated (moment_of_local c.next.picks.cursor.at) (moment_of_local c.next.picks.cursor.at) (omega arith)) past

pub peek-requires-clause-begun : goal.peek-requires-clause-begun
peek-requires-clause-begun g c = λ fresh.
    let before = c.is_past.ensures.before c.if-is_past.false fresh in
    period_number-le c.args.rule.now.freq c.args.rule.now.week_start (moment_of_local c.give.new.picks.cursor.at - 1) (moment_of_local c.args.end - 1) (omega (arith, before))

pub refill-requires-clause-begun : goal.refill-requires-clause-begun
refill-requires-clause-begun g c =
    let at = c.in-Some-peek.ensures.some.0 in
    let before : moment_of_local c.in-Some-peek.m < moment_of_local c.args.end = ltb-true _ _ (sym c.is_before.ensures ∙ c.if-not-is_before.false) in
    let there : moment_of_local c.peek.new.cursor.at < moment_of_local c.args.end = rw at at before in
    period_number-le c.args.rule.now.freq c.args.rule.now.week_start (moment_of_local c.peek.new.cursor.at) (moment_of_local c.args.end - 1) (omega (arith, there))
