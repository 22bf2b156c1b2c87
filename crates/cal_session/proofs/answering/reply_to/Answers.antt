use Rattle.std.proofs.Common.{rules, ℕ, ap, subst, to_z, of_z, to_z-of_z, FitsSigned, w64}
use Rattle.std.specs.Prelude.{ℤ}
use Rattle.turn_lock.specs.Passes.{PassState}
use Rattle.cal_model.specs.History.Journal.{Entry}
use Rattle.cal_model.specs.Users.UsersFile.{Users}
use Rattle.cal_session.specs.AskedTurns.{AskedAt}
use Rattle.cal_session.specs.Turns.{event_of}
use Rattle.cal_session.proofs.ReplyLemmas.{replied, replied_known}
use Rattle.cal_session.proofs.answering.reply_to.Goals as goal

pub returns-in-Reply-clause-answered : goal.returns-in-Reply-clause-answered
returns-in-Reply-clause-answered g c =
    let users = c.args.context.now.users.now in
    let pass = c.args.pass.now in
    let next = c.ask_once-at.new.pass in
    let at = c.ask_once-at.result.0 in
    let who = c.in-Request.who in
    let request = c.in-Request.request in
    let fits : FitsSigned w64 c.args.moment = search (rules, c.ranges.moment) in
    let own = subst (λ (n : ℕ). AskedAt users pass at (event_of n who (to_z w64 (of_z w64 c.args.moment)) request) c.ask_once-at.result.1 next.seen) c.number.ensures c.ask_once-at.ensures.turn in
    let dated = subst (λ (m : ℤ). AskedAt users pass at (event_of pass.number who m request) c.ask_once-at.result.1 next.seen) (to_z-of_z fits) own in
    let turn = rw c.in-Reply.is at dated in
    replied users pass next c.args.wire.now c.args.moment who request at c.in-Reply.reply c.in-Request.ensures.asked turn
    (ap (λ (p : PassState Entry Users). p.looks) c.ask_once-at.ensures.pass)

pub returns-in-Reply-clause-known : goal.returns-in-Reply-clause-known
returns-in-Reply-clause-known g c =
    let users = c.args.context.now.users.now in
    let pass = c.args.pass.now in
    let next = c.ask_once-at.new.pass in
    let at = c.ask_once-at.result.0 in
    let who = c.in-Request.who in
    let request = c.in-Request.request in
    let fits : FitsSigned w64 c.args.moment = search (rules, c.ranges.moment) in
    let own = subst (λ (n : ℕ). AskedAt users pass at (event_of n who (to_z w64 (of_z w64 c.args.moment)) request) c.ask_once-at.result.1 next.seen) c.number.ensures c.ask_once-at.ensures.turn in
    let dated = subst (λ (m : ℤ). AskedAt users pass at (event_of pass.number who m request) c.ask_once-at.result.1 next.seen) (to_z-of_z fits) own in
    let turn = rw c.in-Reply.is at dated in
    replied_known users pass next c.args.wire.now c.args.moment who request at c.in-Reply.reply turn c.in-Request.ensures.bookable c.replies_have_reasons.ensures
