use Rattle.std.proofs.Common.{sym, ap}
use Rattle.request_checks.specs.Sightings.{held_on_sight}
use Rattle.cal_model.proofs.Sight.CalendarSights.{groups_known}
use Rattle.request_checks.proofs.SightingLemmas.{not_there, hidden, visible}
use Rattle.request_checks.proofs.sightings.look_up.Goals as goal

pub held-held-requires-clause-groups : goal.held-held-requires-clause-groups
held-held-requires-clause-groups g c = groups_known (g.V.View.directory c.args.view.now) (g.V.View.state c.args.view.now) c.args.owner c.args.name.now c.in-Some.kept.now c.calendar.ensures.sound c.in-Some.ensures.«data»

pub returns-in_default-clause-held : goal.returns-in_default-clause-held
returns-in_default-clause-held g c = λ look.
    sym (ap held_on_sight (not_there look (g.V.View.directory c.args.view.now) (g.V.View.state c.args.view.now) c.args.who c.args.owner c.args.name.now c.calendar.ensures.sound c.in_default.ensures.«data»))

pub returns-then-held-eq0-clause-held : goal.returns-then-held-eq0-clause-held
returns-then-held-eq0-clause-held g c = λ look.
    sym (ap held_on_sight (hidden look (g.V.View.directory c.args.view.now) (g.V.View.state c.args.view.now) c.args.who c.args.owner c.args.name.now c.in-Some.kept.now c.held-held.result.0 c.calendar.ensures.sound
    c.in-Some.ensures.«data» c.held-held.ensures c.if-held-eq0.true))

pub returns-else-held-eq0-clause-held : goal.returns-else-held-eq0-clause-held
returns-else-held-eq0-clause-held g c = λ look.
    visible look (g.V.View.directory c.args.view.now) (g.V.View.state c.args.view.now) c.args.who c.args.owner c.args.name.now c.in-Some.kept.now c.held-held.result.0 c.calendar.ensures.sound
    c.in-Some.ensures.«data» c.held-held.ensures c.if-held-eq0.false
