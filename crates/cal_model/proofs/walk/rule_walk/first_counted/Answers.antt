use Rattle.std.proofs.Common.{sym, ◌∙◌, inl, inr, refl, arith}
use Rattle.std.proofs.lemmas.Bool.{ltb-false}
use Rattle.cal_model.proofs.Walks.WantedLemmas.{no_count}
use Rattle.cal_model.proofs.walk.rule_walk.first_counted.Goals as goal

pub returns-then-not-is_before-clause-which : goal.returns-then-not-is_before-clause-which
returns-then-not-is_before-clause-which c =
    let past = ltb-false _ _ (sym c.is_before.ensures ∙ c.if-not-is_before.true) in
    inl (omega (arith, past))

pub returns-then-is_some-clause-which : goal.returns-then-is_some-clause-which
returns-then-is_some-clause-which c = let next = c.second_after-after.ensures.value in inl (omega (arith, next))

pub returns-then-is_before-clause-which : goal.returns-then-is_before-clause-which
returns-then-is_before-clause-which c = inr (refl, no_count c.args.rule.now.count (sym c.is_some.ensures ∙ c.if-is_some.false))

pub returns-else-is_before-clause-which : goal.returns-else-is_before-clause-which
returns-else-is_before-clause-which c = let next = c.second_after-after.ensures.value in inl (omega (arith, next))
