use Rattle.std.proofs.Common.{◌≡◌, ◌++◌, List, ℕ, sym, ap, ◌∙◌, arith, subst}
use Rattle.std.specs.Prelude.{OnOk}
use Rattle.std.proofs.lemmas.Bool.{ltb-true, ltb-false}
use Rattle.std.proofs.lemmas.Int.{ints}
use Rattle.std.proofs.lemmas.List.{append-nil}
use Rattle.cal_model.specs.Values.LocalTimes.{moment_of_local}
use Rattle.cal_model.specs.Walks.Clocks.{reading_by}
use Rattle.cal_model.specs.Walks.KeptMoments.{starts_by}
use Rattle.rrule_sets.proofs.EvenLemmas.{from_start, none_before_start}
use Rattle.rrule_sets.proofs.even.even_starts.Goals as goal

pub returns-then-not-is_before : goal.returns-then-not-is_before
returns-then-not-is_before c =
    let past = ltb-false _ _ (sym c.is_before.ensures ∙ c.if-not-is_before.true) in
    let from = c.requires.high.from_first in
    let none = none_before_start c.args.rule.now c.args.days c.requires.even (moment_of_local c.args.start) (reading_by c.args.clock.now) (moment_of_local c.args.low) (moment_of_local c.args.high) past (omega (arith, ints, from)) c.requires.high_before_end in
    sym (append-nil c.args.out.now) ∙ ap (λ (xs : List ℕ). c.args.out.now ++ starts_by (reading_by c.args.clock.now) xs) (sym none)

pub returns : goal.returns
returns c =
    let early = ltb-true _ _ (sym c.is_before.ensures ∙ c.if-not-is_before.false) in
    let from = c.requires.start.from_first in
    let end = c.requires.high_before_end in
    let all = from_start c.args.rule.now c.args.days c.requires.even (moment_of_local c.args.start) (reading_by c.args.clock.now) (moment_of_local c.args.low) (moment_of_local c.args.high) (omega (arith, early, end)) (omega (arith, ints, from)) in
    subst (λ (xs : List ℕ). OnOk c.put_behind.result (c.put_behind.new.out ≡ c.args.out.now ++ starts_by (reading_by c.args.clock.now) xs))
    (sym (all ∙ c.begin-place.ensures.same (moment_of_local c.args.high)))
    c.put_behind.ensures
