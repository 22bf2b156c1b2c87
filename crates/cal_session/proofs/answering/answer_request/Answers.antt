use Rattle.std.proofs.Common.{rules, ◌≡◌, ◌++◌, ◌∷◌, [], ℕ, List, refl, sym, ap, subst, to_z-of_z, FitsSigned, w64, Some}
use Rattle.std.specs.Prelude.{ℤ}
use Rattle.cal_base.specs.Lists.Reserved.{Reserved}
use Rattle.cal_base.specs.World.Outside.{Adds}
use Rattle.cal_model.specs.Replies.WireReplies.{answer_octets}
use Rattle.cal_session.specs.AskedTurns.{AnsweredAt, BrokeAt, answer_of}
use Rattle.cal_session.specs.SessionStates.{Environment, SessionState, environment_of, link_told, session_state}
use Rattle.cal_session.specs.Turns.{Answer}
use Rattle.cal_session.specs.UnderWay.{IsReached, EndsIn, StopsSo, GoesOnOrStops}
use Rattle.cal_session.specs.WrittenReplies.{IsSent, GoesOnBehind}
use Rattle.cal_session.specs.declared.served.Served.{Served}
use Rattle.cal_session.proofs.AnswerLaws.{broke, stops_short, goes_behind}
use Rattle.cal_session.proofs.answering.answer_request.Goals as goal

pub returns-in-Err-clause-session : goal.returns-in-Err-clause-session
returns-in-Err-clause-session g c before stream rest behind r begins =
    let users = c.args.context.now.users.now in
    let now = c.args.pass.now in
    let next = c.reply_to.new.pass in
    let wire = c.args.wire.now in
    let fits : FitsSigned w64 c.now-moment.result = search (rules, c.now-moment.type_inv) in
    let broken = subst (λ (moment : ℤ). BrokeAt users now next wire moment) (to_z-of_z fits) c.in-Err.ensures.answered in
    broke _ before _ (session_state g.L.Link next c.args.link.now) c.args.turns.now.items stream rest behind r wire c.now-moment.result begins broken c.now-moment.ensures.told refl refl

pub returns-in-Some-clause-session : goal.returns-in-Some-clause-session
returns-in-Some-clause-session g c before stream rest behind r begins =
    let users = c.args.context.now.users.now in
    let now = c.args.pass.now in
    let next = c.reply_to.new.pass in
    let wire = c.args.wire.now in
    let turns = c.args.turns.now.items in
    let environment : Environment = environment_of g.C.Clock users c.args.clock.now in
    let after : SessionState = session_state g.L.Link next c.send_reply-sent.new.link in
    let fits : FitsSigned w64 c.now-moment.result = search (rules, c.now-moment.type_inv) in
    let moment_is = to_z-of_z fits in
    let a : Answer = answer_of wire c.now-moment.result (c.in-Ok.at, c.in-Ok.reply) in
    let answered = subst (λ (moment : ℤ). AnsweredAt users now next (answer_of wire moment (c.in-Ok.at, c.in-Ok.reply))) moment_is c.in-Ok.ensures.answered in
    let pushed = ap (λ (kept : Reserved Served). kept.items) c.push.ensures in
    let noted : c.push.new.self.items ≡ turns ++ record { at = c.in-Ok.at; moment = c.now-moment.result; status = c.in-Ok.reply.status } ∷ [] = cc (pushed, moment_is) in
    let written = subst (λ (moment : ℤ). IsSent (answer_octets c.len-before.result wire c.in-Ok.reply moment) (link_told g.L.Link c.args.link.now) (link_told g.L.Link c.send_reply-sent.new.link) (Some c.in-Some.how)) moment_is c.in-Some.ensures.sent in
    let sent = subst (λ (n : ℕ). IsSent (answer_octets n wire c.in-Ok.reply c.now-moment.result) (link_told g.L.Link c.args.link.now) (link_told g.L.Link c.send_reply-sent.new.link) (Some c.in-Some.how)) c.len-before.ensures written in
    subst (λ (all : List Served). EndsIn environment before after all c.in-Some.how) (sym noted)
    (stops_short environment before _ after turns stream rest behind r a c.in-Some.how begins answered c.now-moment.ensures.told c.send_reply-sent.ensures.left_kept sent c.send_reply-sent.ensures.never_falls)

pub returns-in-None-clause-session : goal.returns-in-None-clause-session
returns-in-None-clause-session g c before stream rest behind r begins =
    let users = c.args.context.now.users.now in
    let now = c.args.pass.now in
    let next = c.reply_to.new.pass in
    let wire = c.args.wire.now in
    let turns = c.args.turns.now.items in
    let environment : Environment = environment_of g.C.Clock users c.args.clock.now in
    let after : SessionState = session_state g.L.Link next c.send_reply-sent.new.link in
    let fits : FitsSigned w64 c.now-moment.result = search (rules, c.now-moment.type_inv) in
    let moment_is = to_z-of_z fits in
    let a : Answer = answer_of wire c.now-moment.result (c.in-Ok.at, c.in-Ok.reply) in
    let answered = subst (λ (moment : ℤ). AnsweredAt users now next (answer_of wire moment (c.in-Ok.at, c.in-Ok.reply))) moment_is c.in-Ok.ensures.answered in
    let pushed = ap (λ (kept : Reserved Served). kept.items) c.push.ensures in
    let noted : c.push.new.self.items ≡ turns ++ record { at = c.in-Ok.at; moment = c.now-moment.result; status = c.in-Ok.reply.status } ∷ [] = cc (pushed, moment_is) in
    let written = subst (λ (moment : ℤ). Adds (g.L.Link.written c.args.link.now) (answer_octets c.len-before.result wire c.in-Ok.reply moment) (g.L.Link.written c.send_reply-sent.new.link)) moment_is c.in-None.ensures.sent in
    let added = subst (λ (n : ℕ). Adds (g.L.Link.written c.args.link.now) (answer_octets n wire c.in-Ok.reply c.now-moment.result) (g.L.Link.written c.send_reply-sent.new.link)) c.len-before.ensures written in
    let goes = subst (λ (n : ℕ). GoesOnBehind n wire c.go_on_behind.result) c.len-before.ensures c.go_on_behind.ensures in
    subst (λ (all : List Served). GoesOnOrStops (IsReached environment before after all stream behind) (StopsSo environment before after all) c.go_on_behind.result) (sym noted)
    (goes_behind environment before _ after turns stream rest behind r a c.go_on_behind.result c.reply_to.ensures.pass begins answered c.now-moment.ensures.told c.send_reply-sent.ensures.left_kept added c.send_reply-sent.ensures.never_falls goes)
