use Rattle.std.proofs.Common.{◌≡◌, ◌∙◌, ◌+◌, ap}
use Rattle.std.specs.Prelude.{if◌then◌else◌}
use Rattle.collections.proofs.KindLemmas.{sum_of_kinds}
use Rattle.collections.proofs.kinds.kinds_of.Goals as goal

pub returns : goal.returns
returns c =
    let event : c.kind_where-event.result ≡ (if _ then 1 else 0) = c.kind_where-event.ensures.kind ∙ ap (λ b. if b then 1 else 0) c.lists.ensures in
    let todo : c.kind_where-todo.result ≡ (if _ then 2 else 0) = c.kind_where-todo.ensures.kind ∙ ap (λ b. if b then 2 else 0) c.lists-2.ensures in
    let journal : c.kind_where-journal.result ≡ (if _ then 4 else 0) = c.kind_where-journal.ensures.kind ∙ ap (λ b. if b then 4 else 0) c.lists-3.ensures in
    let free_busy : c.kind_where-free_busy.result ≡ (if _ then 8 else 0) = c.kind_where-free_busy.ensures.kind ∙ ap (λ b. if b then 8 else 0) c.lists-4.ensures in
    (λ i. event i + todo i + journal i + free_busy i) ∙ sum_of_kinds _ _ _ _
