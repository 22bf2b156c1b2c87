use Rattle.std.proofs.Common.{◌≡◌, ◌++◌}
use Rattle.cal_model.specs.Properties.PropertyReplies.{answers, propstats}
use Rattle.cal_model.specs.Replies.XmlText.{response}
use Rattle.dav_props.specs.Finding.{asking}
use Rattle.dav_props.specs.Subjects.{Unseen, resource_of}
use Rattle.dav_props.proofs.TellingLemmas.{on_ok_each}
use Rattle.dav_props.proofs.telling.push_properties.Goals as goal

pub returns : goal.returns
returns g c =
    let asker = asking (g.V.View.directory c.args.seen.now.view.now) c.args.seen.now.who in
    let href = c.args.href.now in
    on_ok_each (λ (unseen : Unseen). c.end.new.out ≡ c.args.out.now ++ response href (propstats (answers asker (resource_of c.args.subject.now unseen) c.args.props.now))) c.end.result
    (λ unseen. c.end.ensures.text c.args.out.now href (answers asker (resource_of c.args.subject.now unseen) c.args.props.now) (c.in_ok-tell_asked.ensures unseen c.args.out.now href c.in_ok-response.ensures.begun))
