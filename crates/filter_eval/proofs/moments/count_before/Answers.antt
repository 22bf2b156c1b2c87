use Rattle.std.proofs.Common.{rules, of_calls, get_or}
use Rattle.std.specs.Prelude.{ℤ, int_lt}
use Rattle.std.proofs.lemmas.Fn.{always_returns_same}
use Rattle.filter_eval.proofs.MomentSearch.{is_before, is_partitioned}
use Rattle.filter_eval.proofs.moments.count_before.Goals as goal

pub returns-clause-before : goal.returns-clause-before
returns-clause-before c =
    let point = c.partition_point.ensures.partitioned (λ (x : ℤ). int_lt x c.args.upper) (always_returns_same _ _ _ (λ a r f k. search (rules, of_calls))) (is_partitioned c.args.moments.now c.args.upper c.requires) in
    λ k d low high. is_before (get_or c.args.moments.now k d) c.args.upper (point.0 k d low high)
