use Rattle.std.proofs.Common.{ℕ, List, Some, sym, ap, subst, ◌∙◌}
use Rattle.cal_model.specs.State.ServerState.{user_number, octets_at}
use Rattle.cal_model.specs.State.StoredData.{data_at}
use Rattle.cal_model.specs.declared.path.Path.TheVariants.{Object as ObjectPath}
use Rattle.cal_model.specs.declared.stored.Stored.{Stored}
use Rattle.dav_props.specs.declared.subjects.Subject.TheVariants as subject
use Rattle.dav_props.specs.Subjects.{IsSeenAs}
use Rattle.cal_model.proofs.Sight.CalendarSights.{groups_known}
use Rattle.dav_props.proofs.SeenLemmas.{no_user_of_object, not_there_of_object, unread_object, no_object, found_object}
use Rattle.dav_props.proofs.subjects.object_at.Goals as goal

pub returns-in_err-owner : goal.returns-in_err-owner
returns-in_err-owner g c =
    let directory = g.V.View.directory c.args.seen.now.view.now in
    let state = g.V.View.state c.args.seen.now.view.now in
    rw c.from_residual.ensures (no_user_of_object directory state c.args.seen.now.who c.args.user.now c.args.calendar.now c.args.name.now
    (c.in_err-owner.ensures.number ∙ ap (user_number directory) c.as_slice.ensures))

pub returns-in_err-data : goal.returns-in_err-data
returns-in_err-data g c =
    let directory = g.V.View.directory c.args.seen.now.view.now in
    let state = g.V.View.state c.args.seen.now.view.now in
    rw c.from_residual-in_err-data.ensures (not_there_of_object directory state c.args.seen.now.who c.args.user.now c.args.calendar.now c.args.name.now c.in_ok-owner.owner c.calendar.ensures.sound
    (c.in_ok-owner.ensures.number ∙ ap (user_number directory) c.as_slice.ensures) (c.in_err-data.ensures.«data» ∙ ap (data_at state c.in_ok-owner.owner) c.as_slice-2.ensures))

pub held-held-requires-clause-groups : goal.held-held-requires-clause-groups
held-held-requires-clause-groups g c =
    let state = g.V.View.state c.args.seen.now.view.now in
    groups_known (g.V.View.directory c.args.seen.now.view.now) state c.in_ok-owner.owner c.args.calendar.now c.in_ok-data.data.now c.calendar.ensures.sound
    (c.in_ok-data.ensures.«data» ∙ ap (data_at state c.in_ok-owner.owner) c.as_slice-2.ensures)

pub returns-then-not-has_all : goal.returns-then-not-has_all
returns-then-not-has_all g c =
    let directory = g.V.View.directory c.args.seen.now.view.now in
    let state = g.V.View.state c.args.seen.now.view.now in
    unread_object directory state c.args.seen.now.who c.args.user.now c.args.calendar.now c.args.name.now c.in_ok-owner.owner c.in_ok-data.data.now c.held-held.result.0 c.calendar.ensures.sound
    (c.in_ok-owner.ensures.number ∙ ap (user_number directory) c.as_slice.ensures) (c.in_ok-data.ensures.«data» ∙ ap (data_at state c.in_ok-owner.owner) c.as_slice-2.ensures) c.held-held.ensures (sym c.if-not-has_all.ensures)

pub returns-in_err-stored : goal.returns-in_err-stored
returns-in_err-stored g c =
    let directory = g.V.View.directory c.args.seen.now.view.now in
    let state = g.V.View.state c.args.seen.now.view.now in
    rw c.from_residual-in_err-stored.ensures (no_object directory state c.args.seen.now.who c.args.user.now c.args.calendar.now c.args.name.now c.in_ok-owner.owner c.in_ok-data.data.now c.held-held.result.0 c.calendar.ensures.sound
    (c.in_ok-owner.ensures.number ∙ ap (user_number directory) c.as_slice.ensures) (c.in_ok-data.ensures.«data» ∙ ap (data_at state c.in_ok-owner.owner) c.as_slice-2.ensures) c.held-held.ensures (sym c.if-not-has_all.ensures)
    (c.in_err-stored.ensures.octets ∙ (λ i. octets_at state c.in_ok-owner.owner (c.as_slice-3.ensures i) (c.as_slice-4.ensures i))))

pub returns : goal.returns
returns g c =
    let directory = g.V.View.directory c.args.seen.now.view.now in
    let state = g.V.View.state c.args.seen.now.view.now in
    let there = found_object directory state c.args.seen.now.who c.as_slice-5.result c.args.calendar.now c.args.name.now c.in_ok-owner.owner c.in_ok-data.data.now c.held-held.result.0 c.deref.result c.calendar.ensures.sound
    (c.in_ok-owner.ensures.number ∙ ap (user_number directory) (c.as_slice.ensures ∙ sym c.as_slice-5.ensures)) (c.in_ok-data.ensures.«data» ∙ ap (data_at state c.in_ok-owner.owner) c.as_slice-2.ensures) c.held-held.ensures (sym c.if-not-has_all.ensures)
    (ap (λ (stored : Stored). Some stored.octets) c.deref.ensures ∙ c.in_ok-stored.ensures.octets ∙ (λ i. octets_at state c.in_ok-owner.owner (c.as_slice-3.ensures i) (c.as_slice-4.ensures i))) in
    subst (λ (user : List ℕ). IsSeenAs directory state c.args.seen.now.who (ObjectPath user c.args.calendar.now c.args.name.now) (subject.Object c.as_slice-5.result c.held-held.result.0 c.deref.result))
    c.as_slice-5.ensures there
