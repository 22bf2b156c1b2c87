use Rattle.std.proofs.Common.{◌&&◌, sym, ap, ◌∙◌, refl}
use Rattle.cal_model.specs.Sight.Scenes.{scene_at, at_both, calendar_in, object_in, octets_seen}
use Rattle.request_checks.specs.Sightings.{calendar_seen, held_on_sight, home_shows, names_home}
use Rattle.request_checks.specs.declared.scenes.Scene.{Scene}
use Rattle.request_checks.proofs.HomeLemmas.{user_known}
use Rattle.request_checks.proofs.NameLemmas.{short_names}
use Rattle.request_checks.proofs.scenes.scene_at.Goals as goal

pub object_at-object-requires-clause-held : goal.object_at-object-requires-clause-held
object_at-object-requires-clause-held g c = c.calendar_at-calendar.ensures.held c.args.look

pub returns-clause-scene : goal.returns-clause-scene
unfolding scene_at
returns-clause-scene g c =
    let directory = g.V.View.directory c.args.seen.now.view.now in
    let state = g.V.View.state c.args.seen.now.view.now in
    let who = c.args.seen.now.who in
    let path = c.args.path.now in
    let known = c.user_at-user.ensures.user in
    record {
      who = refl;
      path = refl;
      user = known;
      group = c.is_group.ensures;
      home = c.home_at-home.ensures c.args.look ∙ ap (λ user. names_home path && home_shows c.args.look directory state who user) known;
      calendar = c.calendar_at-calendar.ensures.held c.args.look ∙ ap (λ user. held_on_sight (calendar_seen c.args.look directory state who user (calendar_in path))) known;
      object = c.object_at-object.ensures.octets ∙ ap (λ user. at_both (octets_seen (calendar_seen c.args.look directory state who user (calendar_in path))) (object_in path)) known;
    }

pub returns-clause-known : goal.returns-clause-known
returns-clause-known g c = λ there.
    user_known c.args.look (g.V.View.directory c.args.seen.now.view.now) (g.V.View.state c.args.seen.now.view.now) c.args.seen.now.who (names_home c.args.path.now) c.user_at-user.result
    (sym (c.home_at-home.ensures c.args.look) ∙ there)

pub returns-clause-names : goal.returns-clause-names
returns-clause-names g c = λ short is there.
    let shown : Scene = record {
      who = c.args.seen.now.who;
      path = c.args.path;
      user = c.user_at-user.result;
      group = c.is_group.result;
      home = c.home_at-home.result;
      calendar = c.calendar_at-calendar.result;
      object = c.object_at-object.result;
    } in
    short_names (g.V.View.directory c.args.seen.now.view.now) shown c.args.path.now short c.user_at-user.ensures.user
    (λ home. user_known c.args.look (g.V.View.directory c.args.seen.now.view.now) (g.V.View.state c.args.seen.now.view.now) c.args.seen.now.who (names_home c.args.path.now) c.user_at-user.result
    (sym (c.home_at-home.ensures c.args.look) ∙ home)) c.is_group.ensures is there
