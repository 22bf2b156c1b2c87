use Rattle.std.proofs.Common.{sym, ap, ◌∙◌}
use Rattle.request_checks.specs.Scenes.{least_of}
use Rattle.request_checks.specs.SharedReplies.{unmet_set}
use Rattle.request_checks.proofs.LeastScenes.{first-missing, first-lacked, first-absent, first-bad, first-condition, found, no_room, faultless_fault}
use Rattle.request_checks.proofs.refusals.first_refusal.Goals as goal

pub returns-then-is_missing-clause-row : goal.returns-then-is_missing-clause-row
returns-then-is_missing-clause-row c = first-missing (least_of c.args.scene.now) c.args.request.now (sym c.if-is_missing.true ∙ c.is_missing.ensures)

pub returns-in-Some-clause-row : goal.returns-in-Some-clause-row
returns-in-Some-clause-row c =
    first-lacked (least_of c.args.scene.now) c.args.request.now c.in-Some.set (sym c.if-is_missing.false ∙ c.is_missing.ensures)
    (sym c.in-Some.is ∙ c.unmet.ensures ∙ ap (unmet_set (least_of c.args.scene.now)) c.need_at-needed.ensures)

pub returns-then-is_object_missing-clause-row : goal.returns-then-is_object_missing-clause-row
returns-then-is_object_missing-clause-row c =
    first-absent (least_of c.args.scene.now) c.args.request.now (sym c.if-is_missing.false ∙ c.is_missing.ensures)
    (sym c.in_default.is ∙ c.unmet.ensures ∙ ap (unmet_set (least_of c.args.scene.now)) c.need_at-needed.ensures)
    (sym c.if-is_object_missing.true ∙ c.is_object_missing.ensures)

pub returns-in-Bad-clause-row : goal.returns-in-Bad-clause-row
returns-in-Bad-clause-row c =
    first-bad (least_of c.args.scene.now) c.args.request.now c.in-Bad.refusal (sym c.if-is_missing.false ∙ c.is_missing.ensures)
    (sym c.in_default.is ∙ c.unmet.ensures ∙ ap (unmet_set (least_of c.args.scene.now)) c.need_at-needed.ensures)
    (sym c.if-is_object_missing.false ∙ c.is_object_missing.ensures) c.in-Bad.is

pub returns-clause-row : goal.returns-clause-row
returns-clause-row c =
    c.failed_condition.ensures.rows
    ∙ first-condition (least_of c.args.scene.now) c.args.request.now (sym c.if-is_missing.false ∙ c.is_missing.ensures)
    (sym c.in_default.is ∙ c.unmet.ensures ∙ ap (unmet_set (least_of c.args.scene.now)) c.need_at-needed.ensures)
    (sym c.if-is_object_missing.false ∙ c.is_object_missing.ensures) c.in_default-content.not-Bad

pub returns-in-Some-clause-found : goal.returns-in-Some-clause-found
returns-in-Some-clause-found c = λ takes. found c.args.request.now.method c.args.scene.now c.args.scene.now.path.now (sym c.if-is_missing.false ∙ c.is_missing.ensures)

pub returns-clause-found : goal.returns-clause-found
returns-clause-found c = no_room _ c.failed_condition.result c.failed_condition.ensures.roomless

pub returns-clause-fault : goal.returns-clause-fault
returns-clause-fault c = faultless_fault c.args.request.now.content c.failed_condition.result c.failed_condition.ensures.faultless
