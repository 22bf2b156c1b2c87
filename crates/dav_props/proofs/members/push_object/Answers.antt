use Rattle.std.proofs.Common.{ℕ, List, [], ◌++◌, ap, ◌∙◌}
use Rattle.dav_write.proofs.Appending.{on_ok_then}
use Rattle.cal_model.specs.declared.path.Path.TheVariants.{Object as ObjectPath}
use Rattle.cal_model.specs.Replies.Hrefs.{href as href_of}
use Rattle.dav_props.proofs.MemberLemmas.{object_written}
use Rattle.dav_props.proofs.members.push_object.Goals as goal

pub returns-clause-text : goal.returns-clause-text
returns-clause-text g c =
    let directory = g.V.View.directory c.args.seen.now.view.now in
    let state = g.V.View.state c.args.seen.now.view.now in
    let who = c.args.seen.now.who in
    let user = c.args.user.now in
    let within = c.args.calendar.now in
    let name = c.args.stored.now.path.object in
    on_ok_then c.push_resource.result
    (λ written sight is.
    written (record { calendar = within; name = name; objects = []; sight = sight })
    (c.as_slice-2.ensures ∙ c.in_ok-write_member.ensures.href ∙ ap href_of (c.requires.member c.as_slice.result.now ∙ ap (λ (n : List ℕ). ObjectPath user within n) c.as_slice.ensures))
    ∙ ap (λ text. c.args.out.now ++ text) (object_written directory state who c.args.props.now user within name c.args.stored.now.octets c.args.held sight is))
    c.push_resource.ensures
