use Rattle.std.proofs.Common.{sym, ap, ◌∙◌}
use Rattle.std.specs.Option.{option_copied}
use Rattle.request_checks.specs.Sightings.{held_on_sight, calendar_seen}
use Rattle.request_checks.proofs.sightings.calendar_at.Goals as goal

pub returns-in-Some-calendar_name-clause-held : goal.returns-in-Some-calendar_name-clause-held
returns-in-Some-calendar_name-clause-held g c = λ look.
    let user = sym c.in-Some.is in
    let name = ap option_copied (sym c.in-Some-calendar_name.is) ∙ c.calendar_name.ensures in
    c.look_up.ensures.held look
    ∙ (λ i. held_on_sight (calendar_seen look (g.V.View.directory c.args.view.now) (g.V.View.state c.args.view.now) c.args.who (user i) (name i)))
