use Rattle.std.proofs.Common.{rules}
use Rattle.std.proofs.lemmas.List.Sorted.{answers_always}
use Rattle.needed_windows.specs.declared.windows.Stretch.{Stretch}
use Rattle.needed_windows.proofs.StretchLemmas.{rising_by_first}
use Rattle.needed_windows.proofs.windows.by_first.Goals as goal

pub returns-in-Ok-clause-rising : goal.returns-in-Ok-clause-rising
returns-in-Ok-clause-rising c =
    rw c.from_vec.ensures (rising_by_first c.sort_by_key.new.self.items (c.in-Ok.ensures.sorted (λ (s : Stretch). s.first) (answers_always _ _ _ (λ f a r g h. search rules))))
