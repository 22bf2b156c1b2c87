use Rattle.std.proofs.Common.{◌≡◌, ℕ, List, sym, ap, ◌∙◌, subst}
use Rattle.cal_model.specs.Selections.ShownData.{shown as shown_by}
use Rattle.cal_model.specs.Serving.ReportReplies.{shown_octets}
use Rattle.dav_reports.specs.ShownObjects.{IsShown}
use Rattle.dav_reports.proofs.SeenObjects.{shown_all, shown_is}
use Rattle.dav_reports.proofs.query.push_at.Goals as goal

pub returns-then-takes_all : goal.returns-then-takes_all
returns-then-takes_all g c = record {
  response = λ resource enough is at.
      let directory = g.V.View.directory c.args.seen.now.view.now in
      let state = g.V.View.state c.args.seen.now.view.now in
      let stored = c.args.stored.now in
      let select = c.args.asked.2.now in
      let zone = c.args.asked.3.now in
      let text = c.as_slice-text.result.now in
      let text_is : shown_octets select zone stored.octets ≡ text =
      shown_is select zone stored.octets stored.object stored.stored.reading ∙ sym enough ∙ shown_all stored.octets stored.object c.args.rows.now select zone (sym c.takes_all.ensures ∙ c.if-takes_all.true) ∙ sym c.as_slice-text.ensures in
      c.push_object.ensures.response (shown_octets select zone) resource (subst (λ (t : List ℕ). IsShown directory state c.args.seen.now.who c.args.path.now t (shown_octets select zone) resource) text_is is) at;
}

pub returns : goal.returns
returns g c = record {
  response = λ resource enough is at.
      let directory = g.V.View.directory c.args.seen.now.view.now in
      let state = g.V.View.state c.args.seen.now.view.now in
      let stored = c.args.stored.now in
      let select = c.args.asked.2.now in
      let zone = c.args.asked.3.now in
      let text = c.as_slice-2.result.now in
      let given = c.in_ok-text.ensures.given ∙ ap (λ octets. shown_by octets stored.object c.args.rows.now select zone) c.as_slice.ensures in
      let text_is : shown_octets select zone stored.octets ≡ text =
      shown_is select zone stored.octets stored.object stored.stored.reading ∙ sym enough ∙ sym given ∙ sym c.as_slice-2.ensures in
      c.push_object-2.ensures.response (shown_octets select zone) resource (subst (λ (t : List ℕ). IsShown directory state c.args.seen.now.who c.args.path.now t (shown_octets select zone) resource) text_is is) at;
}
