use Rattle.std.proofs.Common.{◌≡◌, sym, ap, subst}
use Rattle.std.specs.Prelude.{IfOk}
use Rattle.cal_model.specs.declared.reply.Reply.{Reply}
use Rattle.cal_model.specs.Serving.EventReplies.{reply_of}
use Rattle.cal_model.proofs.Sight.LookingAlikeLaws.{outcome-reading}
use Rattle.cal_book.proofs.reading.read_shown.Goals as goal

pub returns-clause-reply : goal.returns-clause-reply
returns-clause-reply g c =
    let view = c.args.view.now in
    let event = c.args.event.now in
    let answered = sym (ap (reply_of event.request) (outcome-reading (g.V.View.directory view) (g.V.View.state view) event c.requires.reading)) in
    subst (λ told. IfOk c.answer_reading-answer.result (λ (reply : Reply). reply ≡ told)) answered c.answer_reading-answer.ensures.reply
