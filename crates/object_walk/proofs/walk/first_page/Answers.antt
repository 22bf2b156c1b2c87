use Rattle.std.proofs.Common.{◌≡◌, ◌∙◌, ◌++◌, ◌∷◌, ℕ, sym, ap}
use Rattle.std.specs.Global.{Vec}
use Rattle.std.specs.Map.{values_of}
use Rattle.name_pages.specs.Pages.{pairs_of}
use Rattle.object_walk.proofs.EntryValues.{values_named, values_of-append}
use Rattle.object_walk.proofs.walk.first_page.Goals as goal

pub returns-then-len-gt0-clause-some : goal.returns-then-len-gt0-clause-some
returns-then-len-gt0-clause-some c =
    let rest = c.in-Some.rest.now in
    let behind : c.pages.behind.now ≡ c.in-Some.page.now ∷ rest = c.in-Some.ensures.cases.0 in
    ap values_of (c.pages.invariant ∙ ap pairs_of behind)
    ∙ (values_of-append c.in-Some.page.now.names (pairs_of rest)
    ∙ ap (λ values. values ++ values_of (pairs_of rest))
    (ap values_of (sym (c.iter.ensures.rest ∙ c.names-then-len-gt0.ensures)) ∙ values_named (λ (name : Vec ℕ). name.items) c.iter.result))
