use Rattle.std.proofs.Common.{◌∙◌}
use Rattle.cal_model.specs.State.ServerState.{user_number}
use Rattle.slot_times.specs.SlotAnswers.{asked_in}
use Rattle.slot_times.proofs.SlotFound.{no_user}
use Rattle.slot_times.proofs.slot_view.text_in_view.Goals as goal

pub returns-in_default-clause-answer : goal.returns-in_default-clause-answer
returns-in_default-clause-answer g c =
    let directory = g.V.View.directory c.args.view.now in
    no_user directory (g.V.View.state c.args.view.now) (asked_in c.args.question.now)
    (c.in_default.ensures.number ∙ (λ i. user_number directory (c.as_bytes.ensures.value i)))
