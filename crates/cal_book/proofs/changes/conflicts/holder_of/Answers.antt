use Rattle.std.proofs.Common.{◌≡◌, Some, None, sym, ap, ◌∙◌, if◌then◌else◌}
use Rattle.std.specs.Prelude.{bytes_eq, option_and_then}
use Rattle.cal_model.specs.declared.stored.Stored.{Stored}
use Rattle.cal_model.specs.State.ServerState.{Calendar, calendar_at}
use Rattle.cal_book.specs.Showing.ShownStates.{shown_state}
use Rattle.collections.specs.UidHolders.{with_uid}
use Rattle.cal_book.proofs.Checking.HolderLemmas.{holder_some, holder_none}
use Rattle.cal_book.proofs.changes.conflicts.holder_of.Goals as goal

pub returns-in-Some : goal.returns-in-Some
returns-in-Some c within octets into own =
    let target = c.args.target.now in
    let there = ap (calendar_at (shown_state c.args.view.now) target.place.home) c.as_slice.ensures ∙ into.there in
    let stored = c.in-Some.stored.now in
    let found : with_uid within.objects c.args.uid.now ≡ Some (stored.path.object, stored.octets) =
    sym (ap (option_and_then (λ (k : Calendar). with_uid k.objects c.args.uid.now)) there) ∙ sym c.in-Some.ensures.object in
    let named : c.as_slice-in-Some.result.now ≡ stored.path.object = c.as_slice-in-Some.ensures ∙ ap (λ (s : Stored). s.path.object) c.deref.ensures in
    c.unless_own.ensures
    ∙ (λ i. if bytes_eq (named i) (c.as_slice-own.ensures i) then None else Some (named i))
    ∙ sym (holder_some within.objects into.in_order target.object.now c.args.uid.now octets own (stored.path.object, stored.octets) found (c.in-Some.ensures.alone within there))

pub returns-in-None : goal.returns-in-None
returns-in-None c within octets into own =
    let target = c.args.target.now in
    let there = ap (calendar_at (shown_state c.args.view.now) target.place.home) c.as_slice.ensures ∙ into.there in
    let nobody : with_uid within.objects c.args.uid.now ≡ None =
    sym (ap (option_and_then (λ (k : Calendar). with_uid k.objects c.args.uid.now)) there) ∙ sym c.in-None.ensures.object in
    c.own_if.ensures
    ∙ (λ i. if into.object_is i then Some (c.as_slice-own.ensures i) else None)
    ∙ sym (holder_none within.objects into.in_order target.object.now c.args.uid.now octets own nobody)
