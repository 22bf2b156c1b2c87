use Rattle.std.proofs.Common.{◌∙◌, rules, of_calls}
use Rattle.std.specs.Prelude.{int_le, int_lt}
use Rattle.std.proofs.lemmas.Fn.{always_returns_same}
use Rattle.rrule_sets.specs.declared.placed.Placed.{Placed}
use Rattle.rrule_sets.proofs.NearRowLemmas.{cut_behind, not_below, not_from}
use Rattle.rrule_sets.proofs.PlacedLemmas.{partitioned_below}
use Rattle.rrule_sets.proofs.placed.placed_from.Goals as goal

pub returns : goal.returns
returns c =
    let parts = c.partition_point-first.ensures.partitioned (λ (p : Placed). int_lt p.window c.args.window) (always_returns_same _ _ _ (λ a r f k. search (rules, of_calls))) (partitioned_below c.args.placed.now c.args.window c.requires) in
    c.split_at.ensures.back
    ∙ cut_behind (λ (p : Placed). int_lt p.window c.args.window) (λ (p : Placed). int_le c.args.window p.window) (λ p h. not_below p.window c.args.window h) (λ p h. not_from p.window c.args.window h) c.args.placed.now c.partition_point-first.result (λ j d low lt. parts.0 j d low lt) (λ j d low lt. parts.1 j d low lt)
