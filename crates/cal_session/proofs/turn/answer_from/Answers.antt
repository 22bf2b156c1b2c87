use Rattle.cal_session.proofs.AskingLemmas.{told_by_look}
use Rattle.cal_session.proofs.turn.answer_from.Goals as goal

pub returns : goal.returns
returns g c core at =
    let said = c.answer-reply.ensures in
    told_by_look c.readings_enter_nothing.ensures core c.args.event.now c.args.look c.answer-reply.result at said.reply said.busy said.alike
