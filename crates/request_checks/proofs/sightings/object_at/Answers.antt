use Rattle.std.proofs.Common.{true, false, sym, ◌∙◌}
use Rattle.cal_model.specs.State.ServerState.{octets_at}
use Rattle.request_checks.proofs.SightingLemmas.{object_answer}
use Rattle.request_checks.proofs.sightings.object_at.Goals as goal

pub returns-then-shows_objects-clause-octets : goal.returns-then-shows_objects-clause-octets
returns-then-shows_objects-clause-octets g c =
    let state = g.V.View.state c.args.view.now in
    c.object.ensures.octets
    ∙ (λ i. octets_at state c.in-Some.owner (c.as_slice.ensures i) (c.as_slice-then-shows_objects.ensures i))
    ∙ object_answer c.args.look (g.V.View.directory c.args.view.now) state c.args.who c.args.user c.args.path.now c.args.calendar.now c.in-Some.owner c.in-Object.field-0 c.in-Object.within c.in-Object.name
    c.held_on.result true c.in-Some.is c.in-Object.is c.requires.sound c.requires.held c.held_on.ensures (sym c.if-shows_objects.true ∙ c.shows_objects.ensures)

pub returns-else-shows_objects-clause-octets : goal.returns-else-shows_objects-clause-octets
returns-else-shows_objects-clause-octets g c =
    object_answer c.args.look (g.V.View.directory c.args.view.now) (g.V.View.state c.args.view.now) c.args.who c.args.user c.args.path.now c.args.calendar.now c.in-Some.owner c.in-Object.field-0 c.in-Object.within c.in-Object.name
    c.held_on.result false c.in-Some.is c.in-Object.is c.requires.sound c.requires.held c.held_on.ensures (sym c.if-shows_objects.false ∙ c.shows_objects.ensures)
