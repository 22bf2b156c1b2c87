use Rattle.std.proofs.Common.{ℕ, List, sym, ap, subst, ◌∙◌}
use Rattle.cal_model.specs.State.ServerState.{user_number}
use Rattle.cal_model.specs.State.StoredData.{data_at}
use Rattle.cal_model.specs.declared.path.Path.TheVariants.{Calendar as CalendarPath}
use Rattle.dav_props.specs.declared.subjects.Subject.TheVariants as subject
use Rattle.dav_props.specs.Subjects.{IsSeenAs}
use Rattle.cal_model.proofs.Sight.CalendarSights.{groups_known}
use Rattle.dav_props.proofs.SeenLemmas.{no_user, not_there, hidden, found}
use Rattle.dav_props.proofs.subjects.calendar_at.Goals as goal

pub returns-in_err-owner : goal.returns-in_err-owner
returns-in_err-owner g c =
    let directory = g.V.View.directory c.args.seen.now.view.now in
    rw c.from_residual.ensures (no_user directory (g.V.View.state c.args.seen.now.view.now) c.args.seen.now.who c.args.user.now c.args.name.now
    (c.in_err-owner.ensures.number ∙ ap (user_number directory) c.as_slice.ensures))

pub returns-in_err-calendar : goal.returns-in_err-calendar
returns-in_err-calendar g c =
    let directory = g.V.View.directory c.args.seen.now.view.now in
    let state = g.V.View.state c.args.seen.now.view.now in
    rw c.from_residual-in_err-calendar.ensures (not_there directory state c.args.seen.now.who c.args.user.now c.args.name.now c.in_ok-owner.owner c.calendar.ensures.sound
    (c.in_ok-owner.ensures.number ∙ ap (user_number directory) c.as_slice.ensures) (c.in_err-calendar.ensures.«data» ∙ ap (data_at state c.in_ok-owner.owner) c.as_slice-2.ensures))

pub held-held-requires-clause-groups : goal.held-held-requires-clause-groups
held-held-requires-clause-groups g c =
    let state = g.V.View.state c.args.seen.now.view.now in
    groups_known (g.V.View.directory c.args.seen.now.view.now) state c.in_ok-owner.owner c.args.name.now c.in_ok-calendar.calendar.now c.calendar.ensures.sound
    (c.in_ok-calendar.ensures.«data» ∙ ap (data_at state c.in_ok-owner.owner) c.as_slice-2.ensures)

pub returns-then-held-eq0 : goal.returns-then-held-eq0
returns-then-held-eq0 g c =
    let directory = g.V.View.directory c.args.seen.now.view.now in
    let state = g.V.View.state c.args.seen.now.view.now in
    hidden directory state c.args.seen.now.who c.args.user.now c.args.name.now c.in_ok-owner.owner c.in_ok-calendar.calendar.now c.held-held.result.0 c.calendar.ensures.sound
    (c.in_ok-owner.ensures.number ∙ ap (user_number directory) c.as_slice.ensures) (c.in_ok-calendar.ensures.«data» ∙ ap (data_at state c.in_ok-owner.owner) c.as_slice-2.ensures)
    c.held-held.ensures c.if-held-eq0.true

pub returns-else-held-eq0 : goal.returns-else-held-eq0
returns-else-held-eq0 g c =
    let directory = g.V.View.directory c.args.seen.now.view.now in
    let state = g.V.View.state c.args.seen.now.view.now in
    let there = found directory state c.args.seen.now.who c.as_slice-else-held-eq0.result c.args.name.now c.in_ok-owner.owner c.in_ok-calendar.calendar c.held-held.result.0 c.calendar.ensures.sound
    (c.in_ok-owner.ensures.number ∙ ap (user_number directory) (c.as_slice.ensures ∙ sym c.as_slice-else-held-eq0.ensures)) (c.in_ok-calendar.ensures.«data» ∙ ap (data_at state c.in_ok-owner.owner) c.as_slice-2.ensures)
    c.held-held.ensures c.if-held-eq0.false in
    subst (λ (user : List ℕ). IsSeenAs directory state c.args.seen.now.who (CalendarPath user c.args.name.now) (subject.Calendar c.as_slice-else-held-eq0.result c.held-held.result.0 c.in_ok-calendar.calendar))
    c.as_slice-else-held-eq0.ensures there
