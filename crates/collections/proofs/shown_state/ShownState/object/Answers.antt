use Rattle.std.proofs.Common.{◌≡◌, ◌∙◌, ℕ, Some, None, sym, ap, subst}
use Rattle.std.specs.Prelude.{option_map, IfSome}
use Rattle.std.specs.Borrow.{Bor}
use Rattle.cal_model.specs.declared.stored.Stored.{Stored}
use Rattle.cal_model.specs.History.KeptChanges.{IsAtPlace}
use Rattle.collections.specs.KeptCalendars.{KeptObject}
use Rattle.collections.specs.Kept.{Kept, kept_calendar}
use Rattle.collections.specs.Stores.{IsStore}
use Rattle.collections.proofs.LookLemmas.{mapped, kept_placed, octets_some, octets_none, have_origins}
use Rattle.collections.proofs.shown_state.ShownState.object.Goals as goal

abbrev shown : Bor Stored × ℕ → KeptObject
shown p = record { octets = p.0.now.octets; origin = p.1 }

pub returns-in-Some-clause-octets : goal.returns-in-Some-clause-octets
returns-in-Some-clause-octets c =
    let store = subst IsStore c.self.view_is c.self.invariant in
    let at : kept_calendar c.args.self.now.homes c.args.home c.args.calendar.now ≡ Some c.in-Some.calendar.now = sym (c.in-Some.ensures ∙ ap (λ homes. kept_calendar homes c.args.home c.args.calendar.now) (c.deref.ensures ∙ ap (λ (k : Kept). k.homes) c.self.view_is)) in
    sym (mapped shown (λ (k : KeptObject). k.octets) c.object.result)
    ∙ (ap (option_map (λ (k : KeptObject). k.octets)) c.object.ensures.object ∙ octets_some c.args.self.now store c.args.home c.args.calendar.now c.args.name.now c.in-Some.calendar.now at)

pub returns-in-Some-clause-place : goal.returns-in-Some-clause-place
returns-in-Some-clause-place c =
    let store = subst IsStore c.self.view_is c.self.invariant in
    let at : kept_calendar c.args.self.now.homes c.args.home c.args.calendar.now ≡ Some c.in-Some.calendar.now = sym (c.in-Some.ensures ∙ ap (λ homes. kept_calendar homes c.args.home c.args.calendar.now) (c.deref.ensures ∙ ap (λ (k : Kept). k.homes) c.self.view_is)) in
    let placed = kept_placed c.args.self.now.homes c.args.home c.args.calendar.now c.in-Some.calendar.now store.homes at in
    subst (λ n. IfSome c.object.result (λ p. IsAtPlace n c.args.calendar.now c.args.name.now p.0.now.path)) placed.0
    (subst (λ name. IfSome c.object.result (λ p. IsAtPlace c.in-Some.calendar.now.home name c.args.name.now p.0.now.path)) placed.1 c.object.ensures.place)

pub returns-in-Some-clause-everywhere : goal.returns-in-Some-clause-everywhere
returns-in-Some-clause-everywhere c = have_origins c.args.self.now

pub returns-in-None-clause-octets : goal.returns-in-None-clause-octets
returns-in-None-clause-octets c =
    let store = subst IsStore c.self.view_is c.self.invariant in
    let at : kept_calendar c.args.self.now.homes c.args.home c.args.calendar.now ≡ None = sym (c.in-None.ensures ∙ ap (λ homes. kept_calendar homes c.args.home c.args.calendar.now) (c.deref.ensures ∙ ap (λ (k : Kept). k.homes) c.self.view_is)) in
    octets_none c.args.self.now store c.args.home c.args.calendar.now c.args.name.now at

pub returns-in-None-clause-everywhere : goal.returns-in-None-clause-everywhere
returns-in-None-clause-everywhere c = have_origins c.args.self.now
