use Rattle.std.proofs.Common.{sym, ap, ◌∙◌}
use Rattle.std.specs.Prelude.{option_map}
use Rattle.cal_model.specs.Objects.ObjectReading.{first_there}
use Rattle.request_checks.specs.SharedReplies.{shared_reply}
use Rattle.request_checks.proofs.LeastScenes.{rows-least}
use Rattle.request_checks.proofs.refusals.shared_refusal.Goals as goal

pub returns-clause-row : goal.returns-clause-row
returns-clause-row c = λ sighted is.
    ap (λ path. option_map (shared_reply path) c.first_refusal.result) (sym is.path)
    ∙ c.first_refusal.ensures.row
    ∙ ap first_there (rows-least c.args.scene.now sighted c.args.request.now is)
