use Rattle.std.proofs.Common.{◌++◌, sym, ap, ◌∙◌}
use Rattle.std.specs.Prelude.{flat_map}
use Rattle.dav_write.proofs.Appending.{on_ok_then}
use Rattle.cal_model.specs.Properties.PropertyReplies.{propstats}
use Rattle.cal_model.specs.Replies.Hrefs.{href}
use Rattle.cal_model.specs.Replies.XmlText.{response}
use Rattle.cal_model.specs.Sight.Resources.{path_of_resource}
use Rattle.dav_reports.proofs.SaidLemmas.{response_said}
use Rattle.dav_reports.specs.AskedProperties.{said_of}
use Rattle.dav_reports.specs.ShownObjects.{asker_of}
use Rattle.dav_reports.proofs.shown_response.push_object.Goals as goal

pub returns : goal.returns
returns g c = record {
  response = λ shown resource shows path.
      let asker = asker_of (g.V.View.directory c.args.seen.now.view.now) c.args.seen.now.who shown in
      let said = flat_map (said_of c.args.props.now asker resource) in
      let names = c.as_slice-in_default-2.ensures ∙ c.requires.names in
      let at = c.as_slice-in_default.ensures ∙ c.in_ok-href.ensures.text ∙ ap href (sym path) in
      on_ok_then c.push_named.result
      (λ e. e ∙ ap (λ h. c.args.out.now ++ response h (propstats (said c.as_slice-in_default-2.result.now))) at
      ∙ ap (λ ns. c.args.out.now ++ response (href (path_of_resource resource)) (propstats (said ns))) names
      ∙ ap (λ r. c.args.out.now ++ r) (response_said c.args.props.now asker resource shows.is_object c.in_default.not-None))
      (c.push_named.ensures.response shown resource shows);
}
