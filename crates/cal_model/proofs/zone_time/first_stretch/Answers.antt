use Rattle.std.proofs.Common.{rules, ◌≡◌, sym, ◌∙◌, false, nat_lt, arith, inl, inr, to_z-of_z, FitsSigned, w64}
use Rattle.std.proofs.lemmas.Bool.{cases_Bool, ltb-true, ltb-false}
use Rattle.cal_model.specs.Conversions.Stretches.{has_local}
use Rattle.cal_model.proofs.Conversions.StretchLemmas.{has_local-early, has_local-late}
use Rattle.cal_model.proofs.zone_time.first_stretch.Goals as goal

pub loop-k-init : goal.loop-k-init
loop-k-init c =
    let fits : FitsSigned w64 c.args.local = search rules in
    let same = c.as_slice-onsets.ensures in
    let early = rw (to_z-of_z fits, same) at c.onsets_before-k.ensures.before in
    let within = rw same at c.onsets_before-k.ensures.bound in
    λ j lt. rw (to_z-of_z fits) (has_local-early c.args.table.now c.args.local c.onsets_before-k.result j c.requires.table early within lt)

pub returns-else-has_local-2-clause-none : goal.returns-else-has_local-2-clause-none
returns-else-has_local-2-clause-none c =
    let fits : FitsSigned w64 c.args.local = search rules in
    let late = rw (to_z-of_z fits, c.as_slice-onsets.ensures) at c.onsets_near-last.ensures.after in
    let seen = rw (to_z-of_z fits) at c.loop-k.invariant in
    let tested = rw (to_z-of_z fits) at c.has_local-2.ensures in
    let here : has_local c.args.table.now c.args.local c.onsets_near-last.result ≡ false = sym tested ∙ c.if-has_local-2.false in
    λ j le. elim (cases_Bool (nat_lt j c.onsets_near-last.result)) [
      | inl before ↦ (let lt = ltb-true _ _ before in let past = c.loop-k-test.false in seen j (omega (arith, lt, past)))
      | inr from ↦ elim (cases_Bool (nat_lt c.onsets_near-last.result j)) [
        | inl after ↦ has_local-late c.args.table.now c.args.local c.onsets_near-last.result j c.requires.table late (ltb-true _ _ after) le
        | inr until ↦ (let ge = ltb-false _ _ from in let most = ltb-false _ _ until in let same : j ≡ c.onsets_near-last.result = omega (arith, ge, most) in rw same here)
      ]
    ]
