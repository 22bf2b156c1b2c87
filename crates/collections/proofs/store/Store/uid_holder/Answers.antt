use Rattle.std.proofs.Common.{◌≡◌, ◌∙◌, Some, None, sym, ap, subst}
use Rattle.std.specs.Prelude.{IfSome}
use Rattle.cal_model.specs.History.KeptChanges.{IsAtPlace}
use Rattle.collections.specs.Kept.{Kept, kept_calendar}
use Rattle.collections.specs.Stores.{IsStore}
use Rattle.collections.proofs.LookLemmas.{kept_placed, uid_some, uid_none, alone_some, alone_none}
use Rattle.collections.proofs.store.Store.uid_holder.Goals as goal

pub returns-in-Some-clause-object : goal.returns-in-Some-clause-object
returns-in-Some-clause-object c =
    let store = subst IsStore c.self.view_is c.self.invariant in
    let at : kept_calendar c.args.self.now.homes c.args.home c.args.calendar.now ≡ Some c.in-Some.calendar.now = sym (c.in-Some.ensures ∙ ap (λ homes. kept_calendar homes c.args.home c.args.calendar.now) (c.deref.ensures.value ∙ ap (λ (k : Kept). k.homes) c.self.view_is)) in
    c.uid_holder.ensures.object ∙ uid_some c.args.self.now store c.args.home c.args.calendar.now c.args.uid.now c.in-Some.calendar.now at

pub returns-in-Some-clause-place : goal.returns-in-Some-clause-place
returns-in-Some-clause-place c =
    let store = subst IsStore c.self.view_is c.self.invariant in
    let at : kept_calendar c.args.self.now.homes c.args.home c.args.calendar.now ≡ Some c.in-Some.calendar.now = sym (c.in-Some.ensures ∙ ap (λ homes. kept_calendar homes c.args.home c.args.calendar.now) (c.deref.ensures.value ∙ ap (λ (k : Kept). k.homes) c.self.view_is)) in
    let placed = kept_placed c.args.self.now.homes c.args.home c.args.calendar.now c.in-Some.calendar.now store.homes at in
    subst (λ n. IfSome c.uid_holder.result (λ p. IsAtPlace n c.args.calendar.now p.now.path.object p.now.path)) placed.0
    (subst (λ name. IfSome c.uid_holder.result (λ p. IsAtPlace c.in-Some.calendar.now.home name p.now.path.object p.now.path)) placed.1 c.uid_holder.ensures.place)

pub returns-in-Some-clause-alone : goal.returns-in-Some-clause-alone
returns-in-Some-clause-alone c =
    let store = subst IsStore c.self.view_is c.self.invariant in
    let at : kept_calendar c.args.self.now.homes c.args.home c.args.calendar.now ≡ Some c.in-Some.calendar.now = sym (c.in-Some.ensures ∙ ap (λ homes. kept_calendar homes c.args.home c.args.calendar.now) (c.deref.ensures.value ∙ ap (λ (k : Kept). k.homes) c.self.view_is)) in
    alone_some c.args.self.now store c.args.home c.args.calendar.now c.args.uid.now c.in-Some.calendar.now at c.uid_holder.ensures.alone

pub returns-in-None-clause-object : goal.returns-in-None-clause-object
returns-in-None-clause-object c =
    let store = subst IsStore c.self.view_is c.self.invariant in
    let at : kept_calendar c.args.self.now.homes c.args.home c.args.calendar.now ≡ None = sym (c.in-None.ensures ∙ ap (λ homes. kept_calendar homes c.args.home c.args.calendar.now) (c.deref.ensures.value ∙ ap (λ (k : Kept). k.homes) c.self.view_is)) in
    uid_none c.args.self.now store c.args.home c.args.calendar.now c.args.uid.now at

pub returns-in-None-clause-alone : goal.returns-in-None-clause-alone
returns-in-None-clause-alone c =
    let store = subst IsStore c.self.view_is c.self.invariant in
    let at : kept_calendar c.args.self.now.homes c.args.home c.args.calendar.now ≡ None = sym (c.in-None.ensures ∙ ap (λ homes. kept_calendar homes c.args.home c.args.calendar.now) (c.deref.ensures.value ∙ ap (λ (k : Kept). k.homes) c.self.view_is)) in
    alone_none c.args.self.now store c.args.home c.args.calendar.now c.args.uid.now at
