use Rattle.std.proofs.Common.{◌∙◌}
use Rattle.cal_model.specs.Properties.PropertyReplies.{resource_response}
use Rattle.cal_model.specs.Serving.SeenResources.{resources_seen}
use Rattle.dav_props.specs.Finding.{asking}
use Rattle.dav_props.proofs.FindLemmas.{itself_written, no_resource}
use Rattle.dav_props.proofs.replies.push_itself.Goals as goal

pub push_resource-requires-clause-users : goal.push_resource-requires-clause-users
push_resource-requires-clause-users g c = c.in-Some.ensures.some.users

pub returns-in_ok-write_href-in-Some : goal.returns-in_ok-write_href-in-Some
returns-in_ok-write_href-in-Some g c =
    let directory = g.V.View.directory c.args.seen.now.view.now in
    let state = g.V.View.state c.args.seen.now.view.now in
    let who = c.args.seen.now.who in
    itself_written c.push_resource.result directory state who c.args.path.now c.args.props.now c.in-Some.subject c.in-Some.ensures.some c.as_slice.result.now c.args.out.now c.push_resource.new.out
    (c.as_slice.ensures ∙ c.in_ok-write_href-in-Some.ensures) c.push_resource.ensures

pub returns-in-None : goal.returns-in-None
returns-in-None g c =
    let directory = g.V.View.directory c.args.seen.now.view.now in
    let state = g.V.View.state c.args.seen.now.view.now in
    let who = c.args.seen.now.who in
    no_resource (resource_response (asking directory who) c.args.props.now) (resources_seen directory state who c.args.path.now) c.args.out.now c.in-None.ensures.none
