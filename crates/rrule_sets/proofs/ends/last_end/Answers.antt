use Rattle.std.proofs.Common.{◌-◌, ◌<◌, ◌∙◌, ap, sym, rules, of_calls, arith, ℤ, pos, FitsSigned, w64, to_z-of_z, length}
use Rattle.std.specs.Prelude.{int_le}
use Rattle.std.proofs.lemmas.Fn.{always_returns_same}
use Rattle.cal_model.specs.Instances.Starts.{latest_of}
use Rattle.rrule_sets.proofs.SpanLemmas.{partitioned, last_at, none_at}
use Rattle.rrule_sets.proofs.ends.last_end.Goals as goal

pub returns-then-behind-gt0 : goal.returns-then-behind-gt0
returns-then-behind-gt0 c =
    let start_fits : FitsSigned w64 c.args.start = search rules in
    let result_fits : FitsSigned w64 c.end_at.result = search (rules, c.end_at.type_inv) in
    let k = c.partition_point-behind.result in
    let bound = c.partition_point-behind.ensures.bound in
    let some = c.if-behind-gt0.true in
    let parts = c.partition_point-behind.ensures.partitioned (λ (span : ℤ × ℤ). int_le span.0 c.args.start) (always_returns_same _ _ _ (λ a r f k. search (rules, of_calls))) (partitioned c.args.spans.now c.args.start c.requires) in
    let here = simp to_z-of_z at c.end_at.ensures in
    let below : k - 1 < length c.args.spans.now = omega (arith, bound, some) in
    simp to_z-of_z (here ∙ last_at c.args.spans.now c.args.start (k - 1) (pos 0, pos 0) c.requires below (λ j d low lt. parts.0 j d low (omega (arith, lt, some))) (λ j d low lt. parts.1 j d (omega (arith, low, some)) lt))

pub returns-else-behind-gt0 : goal.returns-else-behind-gt0
returns-else-behind-gt0 c =
    let start_fits : FitsSigned w64 c.args.start = search rules in
    let parts = c.partition_point-behind.ensures.partitioned (λ (span : ℤ × ℤ). int_le span.0 c.args.start) (always_returns_same _ _ _ (λ a r f k. search (rules, of_calls))) (partitioned c.args.spans.now c.args.start c.requires) in
    let none = c.if-behind-gt0.false in
    simp to_z-of_z (sym (ap (latest_of c.args.start) (none_at c.args.spans.now c.args.start (λ j d low lt. parts.1 j d (omega (arith, none)) lt))))
