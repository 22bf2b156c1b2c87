use Rattle.std.proofs.Common.{rules}
use Rattle.std.proofs.lemmas.List.Sorted.{answers_always}
use Rattle.rrule_sets.specs.declared.placed.Placed.{Placed}
use Rattle.rrule_sets.proofs.PlacedLemmas.{rises_by_window, rows_kept}
use Rattle.rrule_sets.proofs.placed.by_window.Goals as goal

pub returns-in-Ok-clause-rising : goal.returns-in-Ok-clause-rising
returns-in-Ok-clause-rising c =
    rw c.from_vec.ensures (rises_by_window c.sort_by_key.new.self.items (c.in-Ok.ensures.sorted (λ (p : Placed). p.window) (answers_always _ _ _ (λ f a r g h. search rules))))

pub returns-in-Ok-clause-kept : goal.returns-in-Ok-clause-kept
returns-in-Ok-clause-kept c =
    let made = c.into_vec-items.ensures in
    let stable = c.in-Ok.ensures.stable (λ (p : Placed). p.window) (answers_always _ _ _ (λ f a r g h. search rules)) in
    rw c.from_vec.ensures (rows_kept c.args.placed c.sort_by_key.new.self.items (rw made at stable))
