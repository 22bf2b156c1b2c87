use Rattle.cal_session.specs.SessionStates.{link_told}
use Rattle.cal_session.proofs.WritingLaws.{sent_in_head, sent_behind_head}
use Rattle.cal_session.proofs.writing.send_both.Goals as goal

pub returns-in-Ok-clause-sent : goal.returns-in-Ok-clause-sent
returns-in-Ok-clause-sent g c =
    sent_behind_head c.args.head.now c.args.content.now (link_told g.L.Link c.args.link.now) (link_told g.L.Link c.send_all.new.link) (link_told g.L.Link c.send.new.link) c.send.result c.in-Ok.ensures.whole c.send_all.ensures.never_falls
    c.send.ensures.never_falls c.send.ensures.sent

pub returns-in-Err-clause-sent : goal.returns-in-Err-clause-sent
returns-in-Err-clause-sent g c = sent_in_head c.args.head.now c.args.content.now (link_told g.L.Link c.args.link.now) (link_told g.L.Link c.send_all.new.link) (link_told g.L.Link c.send_all.new.link) c.in-Err.ensures.short c.in-Err.ensures.failed
