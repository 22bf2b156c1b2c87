use Rattle.std.proofs.Common.{◌++◌, sym, ap, ◌∙◌}
use Rattle.std.specs.Prelude.{flat_map}
use Rattle.dav_write.proofs.Appending.{on_ok_then}
use Rattle.cal_model.specs.declared.path.Path.TheVariants.{Calendar as CalendarPath}
use Rattle.cal_model.specs.Refusals.RequestLimits.{answer_limit}
use Rattle.cal_model.specs.State.ServerState.{user_number}
use Rattle.cal_model.specs.State.StoredData.{data_at}
use Rattle.object_walk.specs.WalkedObjects.{objects_at}
use Rattle.dav_props.specs.Finding.{members_text, object_text}
use Rattle.dav_props.proofs.MemberLemmas.{members_of_calendar, no_members_of_no_user, no_members_of_none, no_members_unread, nothing_more, up_to_as}
use Rattle.cal_model.proofs.Sight.CalendarSights.{groups_known}
use Rattle.dav_props.proofs.members.push_calendar_members.Goals as goal

pub returns-in_default : goal.returns-in_default
returns-in_default g c =
    let directory = g.V.View.directory c.args.seen.now.view.now in
    let state = g.V.View.state c.args.seen.now.view.now in
    let who = c.args.seen.now.who in
    let user = c.args.user.now in
    let within = c.args.calendar.now in
    nothing_more answer_limit c.args.out.now (members_text directory state who c.args.props.now (CalendarPath user within))
    (no_members_of_no_user directory state who c.args.props.now user within (c.in_default.ensures.number ∙ ap (user_number directory) c.as_slice.ensures))

pub returns-in_default-calendar : goal.returns-in_default-calendar
returns-in_default-calendar g c =
    let directory = g.V.View.directory c.args.seen.now.view.now in
    let state = g.V.View.state c.args.seen.now.view.now in
    let who = c.args.seen.now.who in
    let user = c.args.user.now in
    let within = c.args.calendar.now in
    let owner = c.in-Some.owner in
    nothing_more answer_limit c.args.out.now (members_text directory state who c.args.props.now (CalendarPath user within))
    (no_members_of_none directory state who c.args.props.now user within owner c.calendar.ensures.sound (c.in-Some.ensures.number ∙ ap (user_number directory) c.as_slice.ensures)
    (c.in_default-calendar.ensures.«data» ∙ ap (data_at state owner) c.as_slice-2.ensures))

pub held-held-requires-clause-groups : goal.held-held-requires-clause-groups
held-held-requires-clause-groups g c =
    let state = g.V.View.state c.args.seen.now.view.now in
    groups_known (g.V.View.directory c.args.seen.now.view.now) state c.in-Some.owner c.args.calendar.now c.in-Some-calendar.kept.now c.calendar.ensures.sound
    (c.in-Some-calendar.ensures.«data» ∙ ap (data_at state c.in-Some.owner) c.as_slice-2.ensures)

pub returns-then-not-has_all : goal.returns-then-not-has_all
returns-then-not-has_all g c =
    let directory = g.V.View.directory c.args.seen.now.view.now in
    let state = g.V.View.state c.args.seen.now.view.now in
    let who = c.args.seen.now.who in
    let user = c.args.user.now in
    let within = c.args.calendar.now in
    let owner = c.in-Some.owner in
    nothing_more answer_limit c.args.out.now (members_text directory state who c.args.props.now (CalendarPath user within))
    (no_members_unread directory state who c.args.props.now user within owner c.in-Some-calendar.kept.now c.held-held.result.0 c.calendar.ensures.sound (c.in-Some.ensures.number ∙ ap (user_number directory) c.as_slice.ensures)
    (c.in-Some-calendar.ensures.«data» ∙ ap (data_at state owner) c.as_slice-2.ensures) c.held-held.ensures (sym c.if-not-has_all.ensures))

pub returns : goal.returns
returns g c =
    let directory = g.V.View.directory c.args.seen.now.view.now in
    let state = g.V.View.state c.args.seen.now.view.now in
    let who = c.args.seen.now.who in
    let user = c.args.user.now in
    let within = c.args.calendar.now in
    let owner = c.in-Some.owner in
    let props = c.args.props.now in
    let seen = members_of_calendar directory state who props user within owner c.in-Some-calendar.kept.now c.held-held.result.0 c.calendar.ensures.sound (c.in-Some.ensures.number ∙ ap (user_number directory) c.as_slice.ensures)
    (c.in-Some-calendar.ensures.«data» ∙ ap (data_at state owner) c.as_slice-2.ensures) c.held-held.ensures (sym c.if-not-has_all.ensures) in
    on_ok_then c.push_read_members.result
    (λ up.
    up_to_as answer_limit c.push_read_members.new.out (c.args.out.now ++ flat_map (object_text directory who props user within seen.0) (objects_at state owner within)) (c.args.out.now ++ members_text directory state who props (CalendarPath user within))
    (ap (λ text. c.args.out.now ++ text) seen.2) (up seen.0 seen.1))
    c.push_read_members.ensures
