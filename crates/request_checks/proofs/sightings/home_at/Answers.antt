use Rattle.std.proofs.Common.{◌&&◌, sym, ◌∙◌}
use Rattle.cal_model.specs.Sight.Scenes.{calendar_in}
use Rattle.request_checks.specs.Sightings.{home_shows}
use Rattle.request_checks.proofs.HomeLemmas.{home_of_calendar}
use Rattle.request_checks.proofs.sightings.home_at.Goals as goal

pub returns-then-is_some : goal.returns-then-is_some
returns-then-is_some g c = λ look.
    let named = sym c.if-not-names_home.false ∙ c.names_home.ensures in
    let seen = home_of_calendar look (g.V.View.directory c.args.view.now) (g.V.View.state c.args.view.now) c.args.who c.args.user (calendar_in c.args.path.now) c.args.calendar.now (c.requires.calendar look)
    (sym c.if-is_some.true ∙ c.is_some.ensures) in
    λ i. named i && seen i

pub returns-in-Some : goal.returns-in-Some
returns-in-Some g c = λ look.
    let shows = home_shows look (g.V.View.directory c.args.view.now) (g.V.View.state c.args.view.now) c.args.who in
    let named = sym c.if-not-names_home.false ∙ c.names_home.ensures in
    c.shows_home.ensures look ∙ (λ i. named i && shows (sym c.in-Some.is i))
