use Rattle.std.proofs.Common.{◌++◌, List, ℕ, sym, ap, ◌∙◌, arith}
use Rattle.std.proofs.lemmas.Bool.{ltb-true, ltb-false}
use Rattle.std.proofs.lemmas.List.{append-nil}
use Rattle.cal_model.specs.Values.LocalTimes.{moment_of_local}
use Rattle.cal_model.specs.Walks.Clocks.{reading_by}
use Rattle.cal_model.specs.Walks.KeptMoments.{found_from, starts_by, wanted}
use Rattle.rrule_sets.proofs.EvenLemmas.{found_next, wanted_past}
use Rattle.rrule_sets.proofs.even.put_behind.Goals as goal

pub returns-then-not-lies_before : goal.returns-then-not-lies_before
returns-then-not-lies_before c =
    let past = ltb-false _ _ (sym c.lies_before.ensures ∙ c.if-not-lies_before.true) in
    let none = wanted_past c.args.rule.now c.args.days c.requires.even (moment_of_local c.args.start) (reading_by c.args.clock.now) (moment_of_local c.args.low) (moment_of_local c.args.high) c.moments.left (moment_of_local c.moments.at) past c.requires.high_before_end c.moments.invariant.passing in
    rw (append-nil, c.reserve.ensures) at (rw none at c.moments.invariant.all)

pub moments-preserved : goal.moments-preserved
moments-preserved c =
    let start = moment_of_local c.args.start in
    let reading = reading_by c.args.clock.now in
    let low = moment_of_local c.args.low in
    let high = moment_of_local c.args.high in
    let early = ltb-true _ _ (sym c.lies_before.ensures ∙ c.if-not-lies_before.false) in
    let end = c.requires.high_before_end in
    let at = c.moment_behind-at.ensures.value in
    let so_far = c.moments.invariant in
    let behind = so_far.behind in
    record {
      written = c.moment_behind-at.ensures.written;
      before_end = omega (arith, at, early, end);
      passing = rw at (c.requires.even.next start (moment_of_local c.moments.at) reading.dated so_far.passing);
      behind = omega (arith, at, behind);
      all = c.in_ok-put_moment.ensures
          ∙ (ap (λ (k : ℕ). c.moments.out ++ starts_by reading (wanted c.args.rule.now start reading low high c.moments.left (found_from c.args.rule.now start reading k))) at
          ∙ (ap (λ (xs : List ℕ). c.moments.out ++ starts_by reading (wanted c.args.rule.now start reading low high c.moments.left xs)) (sym (found_next c.args.rule.now c.args.days c.requires.even start reading low high (moment_of_local c.moments.at) (omega (arith, early, end)) so_far.passing))
          ∙ so_far.all));
    }
