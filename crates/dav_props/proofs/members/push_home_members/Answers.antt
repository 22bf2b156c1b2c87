use Rattle.std.proofs.Common.{ℕ, ◌++◌, List, ap, ◌∙◌}
use Rattle.std.specs.Prelude.{flat_map}
use Rattle.dav_write.proofs.Appending.{on_ok_then}
use Rattle.cal_model.specs.declared.path.Path.TheVariants.{Home as HomePath}
use Rattle.cal_model.specs.Refusals.RequestLimits.{answer_limit}
use Rattle.cal_model.specs.State.ServerState.{user_number}
use Rattle.dav_props.specs.Finding.{calendar_text, calendars_of, members_text}
use Rattle.dav_props.proofs.MemberLemmas.{members_of_home, no_members_of_no_home, nothing_more, up_to_as}
use Rattle.dav_props.proofs.members.push_home_members.Goals as goal

pub returns-in_default : goal.returns-in_default
returns-in_default g c =
    let directory = g.V.View.directory c.args.seen.now.view.now in
    let state = g.V.View.state c.args.seen.now.view.now in
    let who = c.args.seen.now.who in
    let user = c.args.user.now in
    nothing_more answer_limit c.args.out.now (members_text directory state who c.args.props.now (HomePath user))
    (no_members_of_no_home directory state who c.args.props.now user (c.in_default.ensures.number ∙ ap (user_number directory) c.as_slice.ensures))

pub returns : goal.returns
returns g c =
    let directory = g.V.View.directory c.args.seen.now.view.now in
    let state = g.V.View.state c.args.seen.now.view.now in
    let who = c.args.seen.now.who in
    let user = c.args.user.now in
    let props = c.args.props.now in
    let owner = c.in-Some.owner in
    on_ok_then c.push_calendars.result
    (λ up.
    up_to_as answer_limit c.push_calendars.new.out (c.args.out.now ++ flat_map (calendar_text directory who props owner c.as_slice-3.result.now) (calendars_of state owner)) (c.args.out.now ++ members_text directory state who props (HomePath user))
    (ap (λ (name : List ℕ). c.args.out.now ++ flat_map (calendar_text directory who props owner name) (calendars_of state owner)) c.as_slice-3.ensures
    ∙ ap (λ text. c.args.out.now ++ text) (members_of_home directory state who props user owner (c.in-Some.ensures.number ∙ ap (user_number directory) c.as_slice.ensures))) up)
    c.push_calendars.ensures
