use Rattle.std.proofs.Common.{rules, of_calls, int_lt, ℤ}
use Rattle.std.proofs.lemmas.Fn.{always_returns_same}
use Rattle.freebusy.proofs.Partitions.{is_partitioned}
use Rattle.freebusy.proofs.left.count_before.Goals as goal

pub returns : goal.returns
returns c =
    let point = c.partition_point.ensures.partitioned (λ (x : ℤ). int_lt x c.args.upper) (always_returns_same _ _ _ (λ a r f k. search (rules, of_calls))) (is_partitioned c.args.moments.now c.args.upper c.requires) in
    record { bound = c.partition_point.ensures.bound; before = point.0; after = point.1 }
