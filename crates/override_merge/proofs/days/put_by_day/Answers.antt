use Rattle.std.proofs.Common.{rules, ℤ}
use Rattle.std.proofs.lemmas.List.Sorted.{answers_always}
use Rattle.override_merge.proofs.DayLemmas.{rises_by_day, starts_kept}
use Rattle.override_merge.proofs.days.put_by_day.Goals as goal

pub returns-in-Ok-clause-rising : goal.returns-in-Ok-clause-rising
returns-in-Ok-clause-rising c =
    rw c.from_vec.ensures (rises_by_day c.sort_by_key.new.self.items (c.in-Ok.ensures.sorted (λ (e : ℤ × ℤ). e.0) (answers_always _ _ _ (λ f a r g h. search rules))))

pub returns-in-Ok-clause-kept : goal.returns-in-Ok-clause-kept
returns-in-Ok-clause-kept c =
    let made = c.into_vec-items.ensures in
    let stable = c.in-Ok.ensures.stable (λ (e : ℤ × ℤ). e.0) (answers_always _ _ _ (λ f a r g h. search rules)) in
    rw c.from_vec.ensures (starts_kept c.args.starts c.sort_by_key.new.self.items (rw made at stable))
