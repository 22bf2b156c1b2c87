use Rattle.std.proofs.Common.{◌<◌, ◌∷◌, ◌++◌, [], length, ap₂, subst, sym, ◌∙◌}
use Rattle.std.specs.Prelude.{IfSome}
use Rattle.ical_objects.proofs.Printed.{OnOk-then}
use Rattle.cal_base.specs.Lists.NameMap.{value_at, with_value}
use Rattle.expand_limit.specs.KeptParts.{kept_at}
use Rattle.expand_limit.proofs.PickLemmas.{kept_at-more, within-more}
use Rattle.expand_limit.proofs.picks.add_inner.Goals as goal

pub returns-clause-kept : goal.returns-clause-kept
returns-clause-kept c = OnOk-then c.insert.result (λ same other.
    let places = c.args.places.now in
    let comps = c.args.comps.now in
    ap₂ (λ named those. kept_at named those other) same c.in_ok-push.ensures.ok
    ∙ ap₂ (λ key place. kept_at (with_value places key place) (comps ++ c.args.inner ∷ []) other) c.in_ok-key.ensures c.len-place.ensures
    ∙ kept_at-more places comps c.args.inner c.args.name.now other (c.requires.within other)) c.insert.ensures.ok

pub returns-clause-within : goal.returns-clause-within
returns-clause-within c = OnOk-then c.insert.result (λ same other.
    let places = c.args.places.now in
    let comps = c.args.comps.now in
    subst (λ named. IfSome (value_at named other) (λ p. p < length c.push.new.self)) (sym (same ∙ ap₂ (λ key place. with_value places key place) c.in_ok-key.ensures c.len-place.ensures))
    (subst (λ those. IfSome (value_at (with_value places c.args.name.now (length comps)) other) (λ p. p < length those)) (sym c.in_ok-push.ensures.ok)
    (within-more places comps c.args.inner c.args.name.now other (c.requires.within other)))) c.insert.ensures.ok
