use Rattle.std.proofs.Common.{sym, ap, ◌∙◌, subst}
use Rattle.cal_model.specs.Replies.ReplyForms.{options_reply}
use Rattle.cal_model.specs.Requests.MethodContents.{Suits}
use Rattle.cal_model.specs.Serving.SeenResources.{scene_seen}
use Rattle.cal_book.specs.Answering.OwnReplies.{own_reply}
use Rattle.cal_book.specs.Answering.ReadingCost.{report_in}
use Rattle.cal_book.proofs.Answering.AskedContents.{plain-rows, report-asked}
use Rattle.cal_book.proofs.Answering.OwnAnswers.{options-same}
use Rattle.cal_book.proofs.Answering.OwnRows.{unrefused-good}
use Rattle.cal_book.proofs.Answering.ReportPlaces.{path-seen}
use Rattle.cal_book.proofs.Answering.SameReplies.{if_ok_same}
use Rattle.cal_book.proofs.reads.reading.answer_unrefused.Goals as goal

pub answer_find-requires-clause-good : goal.answer_find-requires-clause-good
answer_find-requires-clause-good g c =
    let scene = scene_seen (g.V.View.directory c.args.seen.now.view.now) (g.V.View.state c.args.seen.now.view.now) c.args.seen.now.who c.args.request.now.path in
    unrefused-good scene c.args.request.now c.requires.unrefused

pub returns-in-Options-clause-reply : goal.returns-in-Options-clause-reply
returns-in-Options-clause-reply g c =
    let directory = g.V.View.directory c.args.seen.now.view.now in
    let state = g.V.View.state c.args.seen.now.view.now in
    let who = c.args.seen.now.who in
    let path = c.args.request.now.path in
    let none = plain-rows c.args.request.now.content c.args.request.now.method c.requires.suits (λ is. let never = sym c.in-Options.is ∙ is in absurd cc) in
    if_ok_same c.options_reply.result (options_reply path) (own_reply (scene_seen directory state who path) c.args.moment c.args.request.now)
    (options-same (scene_seen directory state who path) c.args.moment c.args.request.now path (path-seen directory state who path) c.in-Options.is none) c.options_reply.ensures

pub returns-in-Report-clause-no_steps : goal.returns-in-Report-clause-no_steps
returns-in-Report-clause-no_steps g c = λ none.
    let scene = scene_seen (g.V.View.directory c.args.seen.now.view.now) (g.V.View.state c.args.seen.now.view.now) c.args.seen.now.who c.args.request.now.path in
    absurd
    (report-asked c.args.request.now.content (subst (λ method. Suits method c.args.request.now.content) c.in-Report.is c.requires.suits) (unrefused-good scene c.args.request.now c.requires.unrefused)
    (λ report is. let never = sym (ap report_in is) ∙ none in absurd cc))
