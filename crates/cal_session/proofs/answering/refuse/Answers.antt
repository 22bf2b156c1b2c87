use Rattle.std.proofs.Common.{rules, to_z-of_z, FitsSigned, w64, subst, Some}
use Rattle.std.specs.Prelude.{ℤ}
use Rattle.cal_model.specs.Replies.WireReplies.{fault_octets}
use Rattle.cal_session.specs.SessionStates.{link_told, session_state}
use Rattle.cal_session.specs.WrittenReplies.{IsSent}
use Rattle.cal_session.proofs.AnswerLaws.{refused_in_part}
use Rattle.cal_session.proofs.SessionLaws.{refused_whole}
use Rattle.cal_session.proofs.answering.refuse.Goals as goal

pub returns-in-None-clause-session : goal.returns-in-None-clause-session
returns-in-None-clause-session g c before pass turns stream rest r is =
    let fits : FitsSigned w64 c.now-moment.result = search (rules, c.now-moment.type_inv) in
    let sent = rw (to_z-of_z fits) at c.in-None.ensures.sent in
    refused_whole _ before (session_state g.L.Link pass c.args.link.now) (link_told g.L.Link c.send_fault.new.link) turns stream rest c.args.why c.now-moment.result r is c.now-moment.ensures.told c.send_fault.ensures.left_kept sent

pub returns-in-Some-clause-session : goal.returns-in-Some-clause-session
returns-in-Some-clause-session g c before pass turns stream rest r is =
    let fits : FitsSigned w64 c.now-moment.result = search (rules, c.now-moment.type_inv) in
    let sent = subst (λ (moment : ℤ). IsSent (fault_octets c.args.why moment) (link_told g.L.Link c.args.link.now) (link_told g.L.Link c.send_fault.new.link) (Some c.in-Some.how)) (to_z-of_z fits) c.in-Some.ensures.sent in
    refused_in_part _ before (session_state g.L.Link pass c.args.link.now) (link_told g.L.Link c.send_fault.new.link) turns stream rest c.args.why c.now-moment.result c.in-Some.how r is c.now-moment.ensures.told c.send_fault.ensures.left_kept sent c.send_fault.ensures.never_falls
