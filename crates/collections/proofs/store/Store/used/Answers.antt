use Rattle.std.proofs.Common.{◌≡◌, ◌∙◌, Some, None, sym, ap, subst}
use Rattle.std.specs.Prelude.{slice_get}
use Rattle.collections.specs.Kept.{Kept}
use Rattle.collections.specs.Stores.{IsStore}
use Rattle.collections.proofs.HomesLemmas.{home_lent, home_not_lent}
use Rattle.collections.proofs.LookLemmas.{used_some, used_none}
use Rattle.collections.proofs.store.Store.used.Goals as goal

pub returns-in-Some-clause-within : goal.returns-in-Some-clause-within
returns-in-Some-clause-within c =
    let store = subst IsStore c.self.view_is c.self.invariant in
    let there : slice_get c.args.self.now.homes c.args.home ≡ Some c.in-Some.home.now =
    sym (ap (λ homes. slice_get homes c.args.home) (c.deref.ensures.value ∙ ap (λ (k : Kept). k.homes) c.self.view_is))
    ∙ home_lent c.deref.result.now c.args.home c.in-Some.home.now c.in-Some.ensures.lookup.3.0 c.in-Some.ensures.lookup.1 in
    (used_some c.args.self.now store c.args.home c.in-Some.home.now there).1

pub returns-in-None-clause-used : goal.returns-in-None-clause-used
returns-in-None-clause-used c =
    let store = subst IsStore c.self.view_is c.self.invariant in
    let gone : slice_get c.args.self.now.homes c.args.home ≡ None =
    sym (ap (λ homes. slice_get homes c.args.home) (c.deref.ensures.value ∙ ap (λ (k : Kept). k.homes) c.self.view_is))
    ∙ home_not_lent c.deref.result.now c.args.home (sym c.in-None.ensures.lookup.0) in
    used_none c.args.self.now store c.args.home gone
