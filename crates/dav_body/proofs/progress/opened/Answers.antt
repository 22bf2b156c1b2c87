use Rattle.std.proofs.Common.{sym, subst, ◌∙◌}
use Rattle.dav_body.specs.Kept.{IsResolved}
use Rattle.dav_body.proofs.TagSteps.{opened_step, empty_step}
use Rattle.dav_body.proofs.progress.opened.Goals as goal

pub returns-in_ok-closed-in-Ok-Open-clause-step : goal.returns-in_ok-closed-in-Ok-Open-clause-step
returns-in_ok-closed-in-Ok-Open-clause-step c =
    empty_step c.args.around c.args.tag c.in-Ok-Open.inner _ (sym c.is_empty-is_empty.ensures ∙ c.if-is_empty.true) (subst (IsResolved c.args.around c.args.tag) c.in-Ok-Open.field-0-is c.in-Ok-Open.ensures) c.in_ok-closed-in-Ok-Open.ensures

pub returns-else-is_empty-clause-step : goal.returns-else-is_empty-clause-step
returns-else-is_empty-clause-step c =
    opened_step c.args.around c.args.tag c.in-Ok-Open.inner (sym c.is_empty-is_empty.ensures ∙ c.if-is_empty.false) (subst (IsResolved c.args.around c.args.tag) c.in-Ok-Open.field-0-is c.in-Ok-Open.ensures)
