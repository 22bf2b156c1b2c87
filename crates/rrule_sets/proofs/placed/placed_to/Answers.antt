use Rattle.std.proofs.Common.{◌∙◌, rules, of_calls}
use Rattle.std.specs.Prelude.{int_le}
use Rattle.std.proofs.lemmas.Fn.{always_returns_same}
use Rattle.rrule_sets.specs.declared.placed.Placed.{Placed}
use Rattle.rrule_sets.proofs.NearRowLemmas.{cut_before}
use Rattle.rrule_sets.proofs.PlacedLemmas.{partitioned_to}
use Rattle.rrule_sets.proofs.placed.placed_to.Goals as goal

pub returns : goal.returns
returns c =
    let parts = c.partition_point-end.ensures.partitioned (λ (p : Placed). int_le p.window c.args.window) (always_returns_same _ _ _ (λ a r f k. search (rules, of_calls))) (partitioned_to c.args.placed.now c.args.window c.requires) in
    c.split_at.ensures.front ∙ cut_before (λ (p : Placed). int_le p.window c.args.window) c.args.placed.now c.partition_point-end.result (λ j d low lt. parts.0 j d low lt) (λ j d low lt. parts.1 j d low lt)
