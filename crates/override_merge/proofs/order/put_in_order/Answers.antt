use Rattle.std.proofs.Common.{◌∙◌, rules}
use Rattle.std.proofs.lemmas.List.Sorted.{answers_always}
use Rattle.cal_model.specs.declared.row.Row.{Row}
use Rattle.override_merge.proofs.OrderLemmas.{sorted_in_order}
use Rattle.override_merge.proofs.order.put_in_order.Goals as goal

pub returns-in-Ok : goal.returns-in-Ok
returns-in-Ok c =
    let made = c.into_vec-items.ensures in
    let sorted = c.in-Ok.ensures.sorted (λ (r : Row). (r.id, r.component)) (answers_always _ _ _ (λ f a r g h. search rules)) in
    let stable = c.in-Ok.ensures.stable (λ (r : Row). (r.id, r.component)) (answers_always _ _ _ (λ f a r g h. search rules)) in
    c.from_vec.ensures ∙ sorted_in_order c.args.rows c.sort_by_key.new.self.items sorted (rw made at stable)
