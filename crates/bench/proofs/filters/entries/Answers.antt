use Rattle.std.proofs.Common.{◌∷◌, [], All, subst, sym}
use Rattle.std.proofs.lemmas.List.Elements.{All-nil, All-cons, All-append}
use Rattle.bench.specs.Entries.{IsEntry}
use Rattle.bench.proofs.filters.entries.Goals as goal

pub objects-preserved : goal.objects-preserved
objects-preserved c =
    let one = c.in_ok-entry_of.field-0 in
    subst (All IsEntry) (sym c.in_ok-push.ensures.ok) (All-append IsEntry c.objects.entries (one ∷ []) c.objects.invariant (All-cons IsEntry one [] c.in_ok-entry_of.ensures (All-nil IsEntry)))
