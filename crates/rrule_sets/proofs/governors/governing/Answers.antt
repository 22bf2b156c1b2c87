use Rattle.std.proofs.Common.{◌-◌, sym, rules, of_calls, arith, FitsSigned, w64}
use Rattle.std.specs.Prelude.{int_lt}
use Rattle.std.proofs.lemmas.Fn.{always_returns_same}
use Rattle.rrule_sets.specs.declared.governors.Governor.{Governor}
use Rattle.rrule_sets.proofs.GovernorLemmas.{found_before, none_before, partitioned_by_id}
use Rattle.rrule_sets.proofs.governors.governing.Goals as goal

pub returns-then-place-eq0 : goal.returns-then-place-eq0
returns-then-place-eq0 c =
    let fits : FitsSigned w64 c.args.start = search rules in
    let parts = c.partition_point-place.ensures.partitioned (λ (g : Governor). int_lt g.id c.args.start) (always_returns_same _ _ _ (λ a r f k. search (rules, of_calls))) (partitioned_by_id c.args.governors.now c.args.start c.requires) in
    let none = none_before c.args.governors.now c.args.start c.partition_point-place.result parts.0 parts.1 c.if-place-eq0.true in
    sym none

pub returns-else-place-eq0 : goal.returns-else-place-eq0
returns-else-place-eq0 c =
    let fits : FitsSigned w64 c.args.start = search rules in
    let place = c.partition_point-place.result in
    let bound = c.partition_point-place.ensures.bound in
    let some = c.if-place-eq0.false in
    let parts = c.partition_point-place.ensures.partitioned (λ (g : Governor). int_lt g.id c.args.start) (always_returns_same _ _ _ (λ a r f k. search (rules, of_calls))) (partitioned_by_id c.args.governors.now c.args.start c.requires) in
    found_before c.args.governors.now c.args.start place parts.0 parts.1 (place - 1) _ (omega (arith, some)) (omega (arith, some, bound))
