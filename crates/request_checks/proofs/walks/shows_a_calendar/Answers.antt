use Rattle.std.proofs.Common.{◌||◌, sym, ap, ◌∙◌}
use Rattle.cal_model.specs.State.NameWalks.{calendars_above}
use Rattle.request_checks.specs.Walks.{any_held}
use Rattle.request_checks.proofs.HomeLemmas.{step_known, end_known, grants_of_next}
use Rattle.request_checks.proofs.walks.shows_a_calendar.Goals as goal

pub holds_something-requires-clause-groups : goal.holds_something-requires-clause-groups
holds_something-requires-clause-groups g c =
    grants_of_next (g.V.View.directory c.args.view.now) (g.V.View.state c.args.view.now) c.args.owner c.calendars.last.now c.in-Some.name.now c.in-Some.kept.now c.calendar_after.ensures.sound (sym c.in-Some.ensures.next)

pub returns-then-holds_something-clause-any : goal.returns-then-holds_something-clause-any
returns-then-holds_something-clause-any g c =
    let state = g.V.View.state c.args.view.now in
    let step = step_known (g.V.View.directory c.args.view.now) state c.args.owner c.args.who c.calendars.last.now c.in-Some.name.now c.in-Some.kept.now c.calendar_after.ensures.sound (sym c.in-Some.ensures.next) in
    ap (λ b. b || any_held (g.V.View.directory c.args.view.now) c.args.owner c.args.who (calendars_above state c.args.owner c.in-Some.name.now)) (sym c.if-holds_something.true ∙ c.holds_something.ensures)
    ∙ sym step.any ∙ sym c.calendars.invariant

pub calendars-smaller : goal.calendars-smaller
calendars-smaller g c =
    let state = g.V.View.state c.args.view.now in
    let step = step_known (g.V.View.directory c.args.view.now) state c.args.owner c.args.who c.calendars.last.now c.in-Some.name.now c.in-Some.kept.now c.calendar_after.ensures.sound (sym c.in-Some.ensures.next) in
    step.shorter

pub calendars-preserved : goal.calendars-preserved
calendars-preserved g c =
    let state = g.V.View.state c.args.view.now in
    let step = step_known (g.V.View.directory c.args.view.now) state c.args.owner c.args.who c.calendars.last.now c.in-Some.name.now c.in-Some.kept.now c.calendar_after.ensures.sound (sym c.in-Some.ensures.next) in
    c.calendars.invariant ∙ step.any
    ∙ ap (λ b. b || any_held (g.V.View.directory c.args.view.now) c.args.owner c.args.who (calendars_above state c.args.owner c.in-Some.name.now)) (sym c.holds_something.ensures ∙ c.if-holds_something.false)

pub returns-clause-any : goal.returns-clause-any
returns-clause-any g c =
    sym (c.calendars.invariant ∙ end_known (g.V.View.directory c.args.view.now) (g.V.View.state c.args.view.now) c.args.owner c.args.who c.calendars.last.now (sym c.in_default.ensures.next))
