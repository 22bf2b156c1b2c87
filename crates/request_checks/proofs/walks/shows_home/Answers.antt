use Rattle.std.proofs.Common.{◌||◌, ◌==◌, sym, ap, ◌∙◌}
use Rattle.request_checks.proofs.HomeLemmas.{home_where}
use Rattle.request_checks.proofs.walks.shows_home.Goals as goal

pub returns-then-shows_a_calendar : goal.returns-then-shows_a_calendar
returns-then-shows_a_calendar g c = λ look.
    c.if-shows_a_calendar.true ∙ sym (ap (λ b. b || (c.args.owner == c.args.who)) c.if-shows_a_calendar.true)
    ∙ home_where look (g.V.View.directory c.args.view.now) (g.V.View.state c.args.view.now) c.args.owner c.args.who c.shows_a_calendar.result c.shows_a_calendar.ensures.sound c.requires.owner c.shows_a_calendar.ensures.any

pub returns-else-shows_a_calendar : goal.returns-else-shows_a_calendar
returns-else-shows_a_calendar g c = λ look.
    sym (ap (λ b. b || (c.args.owner == c.args.who)) c.if-shows_a_calendar.false)
    ∙ home_where look (g.V.View.directory c.args.view.now) (g.V.View.state c.args.view.now) c.args.owner c.args.who c.shows_a_calendar.result c.shows_a_calendar.ensures.sound c.requires.owner c.shows_a_calendar.ensures.any
