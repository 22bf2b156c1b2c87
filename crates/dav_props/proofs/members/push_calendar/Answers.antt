use Rattle.std.proofs.Common.{[], ◌++◌, ap, ◌∙◌}
use Rattle.dav_write.proofs.Appending.{on_ok_then}
use Rattle.cal_model.specs.Replies.Hrefs.{href as href_of}
use Rattle.cal_model.proofs.State.NameWalkLaws.{have_groups}
use Rattle.dav_props.proofs.MemberLemmas.{calendar_written}
use Rattle.dav_props.proofs.SeenLemmas.{unseen_of}
use Rattle.dav_props.proofs.members.push_calendar.Goals as goal

pub held-held-requires-clause-groups : goal.held-held-requires-clause-groups
held-held-requires-clause-groups g c = have_groups (g.V.View.directory c.args.seen.now.view.now) c.args.kept.now.acl.grants c.requires.users

pub returns-clause-text : goal.returns-clause-text
returns-clause-text g c =
    let directory = g.V.View.directory c.args.seen.now.view.now in
    let state = g.V.View.state c.args.seen.now.view.now in
    let who = c.args.seen.now.who in
    let name = c.args.name.now in
    on_ok_then c.push_resource.result
    (λ written shown is.
    written (unseen_of directory state who c.args.owner name [] shown) (c.as_slice.ensures ∙ c.in_ok-write_member.ensures.href ∙ ap href_of (c.requires.member name))
    ∙ ap (λ text. c.args.out.now ++ text)
    (calendar_written directory state who c.args.props.now c.args.user.now name c.args.owner c.held-held.result.0 c.args.kept.now shown c.held-held.ensures c.if-held-eq0.false is))
    c.push_resource.ensures
