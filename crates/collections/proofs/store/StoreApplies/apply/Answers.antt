use Rattle.std.proofs.Common.{◌≡◌, ◌∙◌, sym, ap, subst}
use Rattle.std.specs.Prelude.{IfSome}
use Rattle.cal_model.specs.declared.change.Change.{Change as KeptChange}
use Rattle.cal_model.specs.declared.stored.Stored.{Stored}
use Rattle.cal_model.specs.History.KeptChanges.{kept_change, IsAcceptable}
use Rattle.cal_model.specs.History.Origins.{origins_after}
use Rattle.cal_model.specs.State.Changes.{Change, delete_object, delete_calendar}
use Rattle.cal_model.specs.State.SoundStates.{IsSound}
use Rattle.collections.specs.Kept.{Kept, state_of, users_of, origins_of}
use Rattle.collections.specs.Settings.{last_zone, IsShort}
use Rattle.collections.proofs.AcceptedLemmas.{accepted_put, accepted_make, accepted_patch, accepted_acl}
use Rattle.collections.proofs.store.StoreApplies.apply.Goals as goal

pub put-requires-clause-room : goal.put-requires-clause-room
put-requires-clause-room c =
    let sound = subst (λ (k : Kept). IsSound (users_of k) (state_of k)) c.self.view_is c.self.invariant.sound in
    let ok = subst (λ (change : KeptChange). IsAcceptable (users_of c.args.self.now) (state_of c.args.self.now) (kept_change change)) c.in-Put.is c.requires.acceptable in
    (accepted_put (users_of c.args.self.now) (state_of c.args.self.now) sound c.in-Put.stored.path.home c.in-Put.stored.path.calendar c.in-Put.stored.path.object c.in-Put.stored.octets ok).0

pub put-requires-clause-may : goal.put-requires-clause-may
put-requires-clause-may c =
    let sound = subst (λ (k : Kept). IsSound (users_of k) (state_of k)) c.self.view_is c.self.invariant.sound in
    let ok = subst (λ (change : KeptChange). IsAcceptable (users_of c.args.self.now) (state_of c.args.self.now) (kept_change change)) c.in-Put.is c.requires.acceptable in
    (accepted_put (users_of c.args.self.now) (state_of c.args.self.now) sound c.in-Put.stored.path.home c.in-Put.stored.path.calendar c.in-Put.stored.path.object c.in-Put.stored.octets ok).1

pub make-requires-clause-room : goal.make-requires-clause-room
make-requires-clause-room c =
    let sound = subst (λ (k : Kept). IsSound (users_of k) (state_of k)) c.self.view_is c.self.invariant.sound in
    let ok = subst (λ (change : KeptChange). IsAcceptable (users_of c.args.self.now) (state_of c.args.self.now) (kept_change change)) c.in-Make.is c.requires.acceptable in
    (accepted_make (users_of c.args.self.now) (state_of c.args.self.now) sound c.in-Make.home c.in-Make.name c.in-Make.sets c.in-Make.size ok).0

pub make-requires-clause-absent : goal.make-requires-clause-absent
make-requires-clause-absent c =
    let sound = subst (λ (k : Kept). IsSound (users_of k) (state_of k)) c.self.view_is c.self.invariant.sound in
    let ok = subst (λ (change : KeptChange). IsAcceptable (users_of c.args.self.now) (state_of c.args.self.now) (kept_change change)) c.in-Make.is c.requires.acceptable in
    (accepted_make (users_of c.args.self.now) (state_of c.args.self.now) sound c.in-Make.home c.in-Make.name c.in-Make.sets c.in-Make.size ok).1

pub make-requires-clause-short : goal.make-requires-clause-short
make-requires-clause-short c =
    let sound = subst (λ (k : Kept). IsSound (users_of k) (state_of k)) c.self.view_is c.self.invariant.sound in
    let ok = subst (λ (change : KeptChange). IsAcceptable (users_of c.args.self.now) (state_of c.args.self.now) (kept_change change)) c.in-Make.is c.requires.acceptable in
    subst (λ sets. IfSome (last_zone sets) IsShort) (sym c.as_slice.ensures) (accepted_make (users_of c.args.self.now) (state_of c.args.self.now) sound c.in-Make.home c.in-Make.name c.in-Make.sets c.in-Make.size ok).2

pub set-requires-clause-room : goal.set-requires-clause-room
set-requires-clause-room c =
    let sound = subst (λ (k : Kept). IsSound (users_of k) (state_of k)) c.self.view_is c.self.invariant.sound in
    let ok = subst (λ (change : KeptChange). IsAcceptable (users_of c.args.self.now) (state_of c.args.self.now) (kept_change change)) c.in-Patch.is c.requires.acceptable in
    (accepted_patch (users_of c.args.self.now) (state_of c.args.self.now) sound c.in-Patch.home c.in-Patch.name c.in-Patch.sets c.in-Patch.size ok).0

pub set-requires-clause-short : goal.set-requires-clause-short
set-requires-clause-short c =
    let sound = subst (λ (k : Kept). IsSound (users_of k) (state_of k)) c.self.view_is c.self.invariant.sound in
    let ok = subst (λ (change : KeptChange). IsAcceptable (users_of c.args.self.now) (state_of c.args.self.now) (kept_change change)) c.in-Patch.is c.requires.acceptable in
    subst (λ sets. IfSome (last_zone sets) IsShort) (sym c.as_slice-in-Patch-2.ensures) (accepted_patch (users_of c.args.self.now) (state_of c.args.self.now) sound c.in-Patch.home c.in-Patch.name c.in-Patch.sets c.in-Patch.size ok).1

pub set_grants-requires-clause-room : goal.set_grants-requires-clause-room
set_grants-requires-clause-room c =
    let sound = subst (λ (k : Kept). IsSound (users_of k) (state_of k)) c.self.view_is c.self.invariant.sound in
    let ok = subst (λ (change : KeptChange). IsAcceptable (users_of c.args.self.now) (state_of c.args.self.now) (kept_change change)) c.in-Acl.is c.requires.acceptable in
    accepted_acl (users_of c.args.self.now) (state_of c.args.self.now) sound c.in-Acl.home c.in-Acl.name c.in-Acl.grants c.in-Acl.size ok

pub returns-in-DeleteObject-clause-origins : goal.returns-in-DeleteObject-clause-origins
returns-in-DeleteObject-clause-origins c home calendar object =
    let same : delete_object c.deref-in-DeleteObject.result.now.path.home c.as_slice-in-DeleteObject.result.now c.as_slice-in-DeleteObject-2.result.now ≡ kept_change c.args.change.now =
    (λ i. delete_object c.deref-in-DeleteObject.result.now.path.home (c.as_slice-in-DeleteObject.ensures i) (c.as_slice-in-DeleteObject-2.ensures i))
    ∙ (ap (λ (s : Stored). delete_object s.path.home s.path.calendar s.path.object) c.deref-in-DeleteObject.ensures ∙ sym (ap kept_change c.in-DeleteObject.is)) in
    c.take_object-deleted.ensures.origins home calendar object c.args.origin ∙ ap (λ (change : Change). origins_after change c.args.origin (origins_of c.args.self.now) home calendar object) same

pub returns-in-DeleteCalendar-clause-origins : goal.returns-in-DeleteCalendar-clause-origins
returns-in-DeleteCalendar-clause-origins c home calendar object =
    let same : delete_calendar c.in-DeleteCalendar.home c.as_slice-in-DeleteCalendar.result.now ≡ kept_change c.args.change.now =
    ap (delete_calendar c.in-DeleteCalendar.home) (c.as_slice-in-DeleteCalendar.ensures ∙ c.deref-in-DeleteCalendar.ensures) ∙ sym (ap kept_change c.in-DeleteCalendar.is) in
    c.take_calendar-deleted.ensures.origins home calendar object c.args.origin ∙ ap (λ (change : Change). origins_after change c.args.origin (origins_of c.args.self.now) home calendar object) same
