use Rattle.std.proofs.Common.{[], ◌∷◌}
use Rattle.std.proofs.lemmas.List.Elements.{All-append, All-cons, All-nil}
use Rattle.override_merge.specs.Conversions.{HasConvertibleRow}
use Rattle.tests_recurrence.proofs.overrides.components_of.Goals as goal

pub overrides-preserved : goal.overrides-preserved
overrides-preserved c =
    let P = HasConvertibleRow 1 in
    rw c.in_ok-push.ensures.ok
    (All-append P c.overrides.components (c.override_of.result ∷ []) c.overrides.invariant (All-cons P c.override_of.result [] c.override_of.ensures (All-nil P)))
