use Rattle.std.proofs.Common.{◌≡◌, ◌∙◌, Some, None, sym, ap, subst}
use Rattle.std.specs.Prelude.{slice_get}
use Rattle.collections.specs.Kept.{Kept}
use Rattle.collections.specs.Stores.{IsStore}
use Rattle.collections.proofs.HomesLemmas.{home_lent, home_not_lent}
use Rattle.collections.proofs.LookLemmas.{count_some, count_none}
use Rattle.collections.proofs.store.Store.calendar_count.Goals as goal

pub returns-in-Some : goal.returns-in-Some
returns-in-Some c =
    let store = subst IsStore c.self.view_is c.self.invariant in
    let there : slice_get c.args.self.now.homes c.args.home ≡ Some c.in-Some.home.now =
    sym (ap (λ homes. slice_get homes c.args.home) (c.deref.ensures.value ∙ ap (λ (k : Kept). k.homes) c.self.view_is))
    ∙ home_lent c.deref.result.now c.args.home c.in-Some.home.now c.in-Some.ensures.lookup.3.0 c.in-Some.ensures.lookup.1 in
    c.len.ensures.len ∙ count_some c.args.self.now store c.args.home c.in-Some.home.now there

pub returns-in-None : goal.returns-in-None
returns-in-None c =
    let store = subst IsStore c.self.view_is c.self.invariant in
    let gone : slice_get c.args.self.now.homes c.args.home ≡ None =
    sym (ap (λ homes. slice_get homes c.args.home) (c.deref.ensures.value ∙ ap (λ (k : Kept). k.homes) c.self.view_is))
    ∙ home_not_lent c.deref.result.now c.args.home (sym c.in-None.ensures.lookup.0) in
    count_none c.args.self.now store c.args.home gone
