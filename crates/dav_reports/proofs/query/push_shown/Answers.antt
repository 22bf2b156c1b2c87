use Rattle.std.proofs.Common.{◌≡◌, refl, sym, ◌∙◌, subst}
use Rattle.cal_model.specs.declared.path.Path.{Path}
use Rattle.cal_model.specs.declared.path.Path.TheVariants.{Object as ObjectPath}
use Rattle.cal_model.specs.Serving.ReportReplies.{shown_octets}
use Rattle.cal_model.specs.Sight.Resources.{object}
use Rattle.cal_model.specs.Sight.Views.{sight_of}
use Rattle.cal_model.specs.State.ServerState.{user_name}
use Rattle.dav_reports.specs.ShownObjects.{IsShown}
use Rattle.dav_reports.proofs.SeenObjects.{is_shown}
use Rattle.dav_reports.proofs.query.push_shown.Goals as goal

pub returns : goal.returns
returns g c = record {
  response = λ k may found enough.
      let directory = g.V.View.directory c.args.seen.now.view.now in
      let state = g.V.View.state c.args.seen.now.view.now in
      let who = c.args.seen.now.who in
      let stored = c.args.stored.now in
      let shows = shown_octets c.args.select.now c.args.zone.now in
      let owner = user_name directory c.args.home in
      let at = ObjectPath owner c.args.calendar.now stored.path.object in
      let resource = object owner c.args.calendar.now stored.path.object (sight_of directory c.args.home who k) stored.octets in
      let path_is : c.in_ok-path.path ≡ at = c.in_ok-path.ensures ∙ (λ i. ObjectPath (c.user_name-owner.ensures.name i) c.args.calendar.now (c.as_slice.ensures i)) in
      let is = is_shown directory state who c.args.home c.args.calendar.now k stored.path.object stored.octets (shows stored.octets) shows c.requires.sound c.user_name-owner.ensures.told may found refl in
      c.push_at.ensures.response resource enough (subst (λ (p : Path). IsShown directory state who p (shows stored.octets) shows resource) (sym path_is) is) (sym path_is);
}
