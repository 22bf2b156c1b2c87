use Rattle.std.proofs.Common.{rules}
use Rattle.std.proofs.lemmas.List.Sorted.{All-permutation, answers_always}
use Rattle.rrule_sets.specs.declared.governors.Governor.{Governor}
use Rattle.rrule_sets.specs.HeldGovernors.{IsMovable}
use Rattle.rrule_sets.proofs.GovernorLemmas.{kept_by_id, rises_by_id}
use Rattle.rrule_sets.proofs.governors.put_by_id.Goals as goal

pub returns-in-Ok-clause-rising : goal.returns-in-Ok-clause-rising
returns-in-Ok-clause-rising c =
    rw c.from_vec.ensures (rises_by_id c.sort_by_key.new.self.items (c.in-Ok.ensures.sorted (λ (g : Governor). g.id) (answers_always _ _ _ (λ f a r g h. search rules))))

pub returns-in-Ok-clause-kept : goal.returns-in-Ok-clause-kept
returns-in-Ok-clause-kept c =
    let made = c.into_vec-items.ensures in
    let stable = c.in-Ok.ensures.stable (λ (g : Governor). g.id) (answers_always _ _ _ (λ f a r g h. search rules)) in
    rw c.from_vec.ensures (kept_by_id c.args.governors c.sort_by_key.new.self.items (rw made at stable))

pub returns-in-Ok-clause-movable : goal.returns-in-Ok-clause-movable
returns-in-Ok-clause-movable c =
    let made = c.into_vec-items.ensures in
    let moves = rw made at c.in-Ok.ensures.permutation in
    rw c.from_vec.ensures (λ zones all. All-permutation (IsMovable zones) c.args.governors c.sort_by_key.new.self.items moves all)
