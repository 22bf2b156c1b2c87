use Rattle.std.proofs.Common.{◌++◌, []}
use Rattle.std.specs.Prelude.{flat_map, if◌then◌else◌}
use Rattle.dav_write.proofs.Appending.{on_ok_then}
use Rattle.cal_model.specs.Properties.PropertyReplies.{resource_response}
use Rattle.cal_model.specs.Refusals.RequestLimits.{answer_limit}
use Rattle.cal_model.specs.Serving.ReadingReplies.{members_at}
use Rattle.cal_model.specs.Serving.SeenResources.{resources_seen, scene_seen}
use Rattle.dav_props.specs.Finding.{asking, members_text}
use Rattle.dav_props.proofs.FindLemmas.{whole_deep, whole_flat}
use Rattle.dav_props.proofs.MemberLemmas.{up_to_as, up_to_whole}
use Rattle.dav_props.proofs.replies.push_all.Goals as goal

pub returns-then-deep : goal.returns-then-deep
returns-then-deep g c =
    let directory = g.V.View.directory c.args.seen.now.view.now in
    let state = g.V.View.state c.args.seen.now.view.now in
    let who = c.args.seen.now.who in
    let path = c.args.path.now in
    let props = c.args.props.now in
    let resources = resources_seen directory state who path in
    let members = members_at (scene_seen directory state who path) path in
    on_ok_then c.push_members.result
    (λ up.
    up_to_as answer_limit c.push_members.new.out (c.push_itself.new.out ++ members_text directory state who props path)
    (c.args.out.now ++ flat_map (resource_response (asking directory who) props) (resources ++ (if c.args.deep then members else [])))
    (whole_deep (resource_response (asking directory who) props) resources members c.args.deep c.args.out.now c.push_itself.new.out c.in_ok-push_itself.ensures c.if-deep.true) up)
    c.push_members.ensures

pub returns : goal.returns
returns g c =
    let directory = g.V.View.directory c.args.seen.now.view.now in
    let state = g.V.View.state c.args.seen.now.view.now in
    let who = c.args.seen.now.who in
    let path = c.args.path.now in
    let props = c.args.props.now in
    let resources = resources_seen directory state who path in
    let members = members_at (scene_seen directory state who path) path in
    up_to_whole answer_limit c.push_itself.new.out (c.args.out.now ++ flat_map (resource_response (asking directory who) props) (resources ++ (if c.args.deep then members else [])))
    (whole_flat (resource_response (asking directory who) props) resources members c.args.deep c.args.out.now c.push_itself.new.out c.in_ok-push_itself.ensures c.if-deep.false)
