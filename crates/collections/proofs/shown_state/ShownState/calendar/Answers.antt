use Rattle.std.proofs.Common.{◌≡◌, ◌∙◌, Some, None, sym, ap, subst}
use Rattle.collections.specs.Kept.{Kept, kept_calendar}
use Rattle.collections.specs.Stores.{IsStore}
use Rattle.collections.proofs.LookLemmas.{data_some, data_none}
use Rattle.collections.proofs.shown_state.ShownState.calendar.Goals as goal

pub returns-in-Some-clause-data : goal.returns-in-Some-clause-data
returns-in-Some-clause-data c =
    let store = subst IsStore c.self.view_is c.self.invariant in
    let at : kept_calendar c.args.self.now.homes c.args.home c.args.name.now ≡ Some c.in-Some.calendar.now = sym (c.in-Some.ensures ∙ ap (λ homes. kept_calendar homes c.args.home c.args.name.now) (c.deref.ensures ∙ ap (λ (k : Kept). k.homes) c.self.view_is)) in
    ap Some c.data.ensures ∙ data_some c.args.self.now store c.args.home c.args.name.now c.in-Some.calendar.now at

pub returns-in-None-clause-data : goal.returns-in-None-clause-data
returns-in-None-clause-data c =
    let store = subst IsStore c.self.view_is c.self.invariant in
    let at : kept_calendar c.args.self.now.homes c.args.home c.args.name.now ≡ None = sym (c.in-None.ensures ∙ ap (λ homes. kept_calendar homes c.args.home c.args.name.now) (c.deref.ensures ∙ ap (λ (k : Kept). k.homes) c.self.view_is)) in
    data_none c.args.self.now store c.args.home c.args.name.now at
