use Rattle.std.proofs.Common.{◌∙◌, rules, of_calls, arith, ℤ, pos, FitsSigned, w64, to_z-of_z}
use Rattle.std.specs.Prelude.{int_lt}
use Rattle.std.proofs.lemmas.Fn.{always_returns_same}
use Rattle.override_merge.proofs.DayLemmas.{partitioned, first_at, none_at}
use Rattle.override_merge.proofs.days.first_on.Goals as goal

pub returns-then-place-days : goal.returns-then-place-days
returns-then-place-days c =
    let midnight_fits : FitsSigned w64 c.args.midnight = search rules in
    let none_fits : FitsSigned w64 c.args.none = search rules in
    let result_fits : FitsSigned w64 c.start_at.result = search (rules, c.start_at.type_inv) in
    let place = c.partition_point-place.result in
    let parts = c.partition_point-place.ensures.partitioned (λ (e : ℤ × ℤ). int_lt e.0 c.args.midnight) (always_returns_same _ _ _ (λ a r f k. search (rules, of_calls))) (partitioned c.args.days.now c.args.midnight c.requires) in
    let here = simp to_z-of_z at c.start_at.ensures in
    simp to_z-of_z (here ∙ first_at c.args.days.now c.args.midnight c.args.none place (pos 0, pos 0) c.requires c.if-place-days.true parts.0 (parts.1 place (pos 0, pos 0) (omega arith) c.if-place-days.true))

pub returns-else-place-days : goal.returns-else-place-days
returns-else-place-days c =
    let midnight_fits : FitsSigned w64 c.args.midnight = search rules in
    let none_fits : FitsSigned w64 c.args.none = search rules in
    let parts = c.partition_point-place.ensures.partitioned (λ (e : ℤ × ℤ). int_lt e.0 c.args.midnight) (always_returns_same _ _ _ (λ a r f k. search (rules, of_calls))) (partitioned c.args.days.now c.args.midnight c.requires) in
    let past = c.if-place-days.false in
    simp to_z-of_z (none_at c.args.days.now c.args.midnight c.args.none (λ k d low lt. parts.0 k d low (omega (arith, past, lt))))
