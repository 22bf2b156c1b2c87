use Rattle.std.proofs.Common.{◌≡◌, ◌∙◌, ℕ, List, Some, None, sym, ap, subst}
use Rattle.std.specs.Prelude.{option_map, IfSome}
use Rattle.std.specs.Borrow.{Bor}
use Rattle.cal_model.specs.declared.stored.Stored.{Stored}
use Rattle.cal_model.specs.History.KeptChanges.{IsAtPlace}
use Rattle.collections.specs.KeptCalendars.{KeptObject}
use Rattle.collections.specs.Kept.{Kept, kept_calendar}
use Rattle.collections.specs.Stores.{IsStore}
use Rattle.collections.proofs.LookLemmas.{mapped, kept_placed, next_object_some, next_object_none}
use Rattle.collections.proofs.shown_state.ShownState.object_after.Goals as goal

abbrev shown : Bor Stored × ℕ → List ℕ × KeptObject
shown p = (p.0.now.path.object, record { octets = p.0.now.octets; origin = p.1 })

abbrev named : List ℕ × KeptObject → List ℕ × List ℕ
named e = (e.0, e.1.octets)

pub returns-in-Some-clause-octets : goal.returns-in-Some-clause-octets
returns-in-Some-clause-octets c =
    let store = subst IsStore c.self.view_is c.self.invariant in
    let at : kept_calendar c.args.self.now.homes c.args.home c.args.calendar.now ≡ Some c.in-Some.calendar.now = sym (c.in-Some.ensures ∙ ap (λ homes. kept_calendar homes c.args.home c.args.calendar.now) (c.deref.ensures ∙ ap (λ (k : Kept). k.homes) c.self.view_is)) in
    sym (mapped shown named c.object_after.result)
    ∙ (ap (option_map named) c.object_after.ensures.object ∙ next_object_some c.args.self.now store c.args.home c.args.calendar.now c.args.name.now c.in-Some.calendar.now at)

pub returns-in-Some-clause-place : goal.returns-in-Some-clause-place
returns-in-Some-clause-place c =
    let store = subst IsStore c.self.view_is c.self.invariant in
    let at : kept_calendar c.args.self.now.homes c.args.home c.args.calendar.now ≡ Some c.in-Some.calendar.now = sym (c.in-Some.ensures ∙ ap (λ homes. kept_calendar homes c.args.home c.args.calendar.now) (c.deref.ensures ∙ ap (λ (k : Kept). k.homes) c.self.view_is)) in
    let placed = kept_placed c.args.self.now.homes c.args.home c.args.calendar.now c.in-Some.calendar.now store.homes at in
    subst (λ n. IfSome c.object_after.result (λ p. IsAtPlace n c.args.calendar.now p.0.now.path.object p.0.now.path)) placed.0
    (subst (λ name. IfSome c.object_after.result (λ p. IsAtPlace c.in-Some.calendar.now.home name p.0.now.path.object p.0.now.path)) placed.1 c.object_after.ensures.place)

pub returns-in-None-clause-octets : goal.returns-in-None-clause-octets
returns-in-None-clause-octets c =
    let store = subst IsStore c.self.view_is c.self.invariant in
    let at : kept_calendar c.args.self.now.homes c.args.home c.args.calendar.now ≡ None = sym (c.in-None.ensures ∙ ap (λ homes. kept_calendar homes c.args.home c.args.calendar.now) (c.deref.ensures ∙ ap (λ (k : Kept). k.homes) c.self.view_is)) in
    next_object_none c.args.self.now store c.args.home c.args.calendar.now c.args.name.now at
