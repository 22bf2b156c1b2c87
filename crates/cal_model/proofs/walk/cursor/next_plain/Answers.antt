use Rattle.std.proofs.Common.{◌≡◌, ℕ, ◌+◌, ◌-◌, ◌≤◌, ◌<◌, ◌*◌, sym, ap, ◌∙◌, arith, true, false, refl}
use Rattle.std.proofs.lemmas.Bool.{ltb-false}
use Rattle.cal_moment.specs.Calendar.{seconds_since_1970}
use Rattle.cal_model.specs.Values.LocalTimes.{moment_of_local, local_seconds}
use Rattle.cal_model.specs.Recurrence.NextPassing.{end_day}
use Rattle.cal_model.proofs.Recurrence.Rising.{period_number-le}
use Rattle.cal_model.specs.Walks.Budgets.{last_period, place_of, budget}
use Rattle.cal_model.specs.Walks.Clocks.{reading_by}
use Rattle.cal_model.proofs.Walks.KeptLemmas.{nothing_left, rest_past, step_there, step_skipped, seconds_of_written}
use Rattle.cal_model.proofs.walk.cursor.next_plain.Goals as goal

pub returns-in_default-clause-next : goal.returns-in_default-clause-next
returns-in_default-clause-next g c =
    nothing_left c.args.rule.now (moment_of_local c.args.start) (reading_by c.args.clock.now) (λ (m : ℕ). moment_of_local c.args.end ≤ m) (moment_of_local c.args.cursor.now.at) (moment_of_local c.look.cursor.at) (moment_of_local c.peek.new.cursor.at)
    c.look.invariant.found c.in_default.ensures.found c.in_default.ensures.none

pub returns-then-not-is_before-clause-next : goal.returns-then-not-is_before-clause-next
returns-then-not-is_before-clause-next g c =
    let at = c.in-Some.ensures.some.0 in
    let past : moment_of_local c.args.end ≤ moment_of_local c.in-Some.m = ltb-false _ _ (sym c.is_before.ensures ∙ c.if-not-is_before.true) in
    rest_past c.args.rule.now (moment_of_local c.args.start) (reading_by c.args.clock.now) (moment_of_local c.args.cursor.now.at) (moment_of_local c.look.cursor.at) (moment_of_local c.peek.new.cursor.at) (moment_of_local c.args.end)
    c.look.invariant.found c.in-Some.ensures.found (rw at at past)

pub returns-then-is_past-clause-next : goal.returns-then-is_past-clause-next
returns-then-is_past-clause-next g c =
    let past = c.is_past.ensures.past c.if-is_past.true in
    rest_past c.args.rule.now (moment_of_local c.args.start) (reading_by c.args.clock.now) (moment_of_local c.args.cursor.now.at) (moment_of_local c.look.cursor.at) (moment_of_local c.look.cursor.at) (moment_of_local c.args.end)
    c.look.invariant.found refl past

pub peek-requires-clause-begun : goal.peek-requires-clause-begun
peek-requires-clause-begun g c = λ fresh.
    let before = c.is_past.ensures.before c.if-is_past.false fresh in
    period_number-le c.args.rule.now.freq c.args.rule.now.week_start (moment_of_local c.look.cursor.at - 1) (moment_of_local c.args.end - 1) (omega (arith, before))

pub returns-then-exists-clause-next : goal.returns-then-exists-clause-next
returns-then-exists-clause-next g c =
    let at = c.in-Some.ensures.some.0 in
    let cursor = c.in-Some.ensures.cursor in
    let before : moment_of_local c.peek.new.cursor.at < 86400 * end_day = cursor.before_end c.in-Some.ensures.some.1 in
    let passing = cursor.passing c.in-Some.ensures.some.1 in
    let there : (reading_by c.args.clock.now).exists (seconds_since_1970 (moment_of_local c.peek.new.cursor.at)) ≡ true =
    ap (λ l. (reading_by c.args.clock.now).exists l) (seconds_of_written c.peek.new.cursor.at cursor.written) ∙ (ap (λ m. (reading_by c.args.clock.now).exists (local_seconds m)) (sym at) ∙ (sym c.exists.ensures ∙ c.if-exists.true)) in
    sym c.look.invariant.found
    ∙ (sym c.in-Some.ensures.found
    ∙ rw (c.second_after-cursor.ensures.value, at) (step_there c.args.rule.now (moment_of_local c.args.start) (reading_by c.args.clock.now) (moment_of_local c.peek.new.cursor.at) before passing there))

pub look-preserved : goal.look-preserved
look-preserved g c =
    let at = c.in-Some.ensures.some.0 in
    let cursor = c.in-Some.ensures.cursor in
    let before : moment_of_local c.peek.new.cursor.at < 86400 * end_day = cursor.before_end c.in-Some.ensures.some.1 in
    let passing = cursor.passing c.in-Some.ensures.some.1 in
    let there : (reading_by c.args.clock.now).exists (seconds_since_1970 (moment_of_local c.peek.new.cursor.at)) ≡ false =
    ap (λ l. (reading_by c.args.clock.now).exists l) (seconds_of_written c.peek.new.cursor.at cursor.written) ∙ (ap (λ m. (reading_by c.args.clock.now).exists (local_seconds m)) (sym at) ∙ (sym c.exists.ensures ∙ c.if-exists.false)) in
    let after : moment_of_local c.second_after-cursor.result ≡ moment_of_local c.peek.new.cursor.at + 1 = c.second_after-cursor.ensures.value ∙ ap (λ m. moment_of_local m + 1) at in
    record {
      cursor = record {
        written = c.second_after-cursor.ensures.written;
        within = rw after (omega (arith, before));
        before_end = λ taken. absurd cc;
        passing = λ taken. absurd cc;
      };
      found = rw after (sym (step_skipped c.args.rule.now (moment_of_local c.args.start) (reading_by c.args.clock.now) (moment_of_local c.peek.new.cursor.at) before passing there) ∙ (c.in-Some.ensures.found ∙ c.look.invariant.found));
      steps = (let place : moment_of_local c.second_after-cursor.result + 0 ≡ place_of c.peek.new.cursor = (let taken = c.in-Some.ensures.some.1 in rw (after, taken) (omega arith)) in
          let same = ap (budget c.args.rule.now (moment_of_local c.args.start) (reading_by c.args.clock.now).dated (last_period c.args.rule.now (moment_of_local c.args.end))) place in
          let here = c.in-Some.ensures.steps in
          let so_far = c.look.invariant.steps in
          rw same (omega (arith, here, so_far)));
    }
