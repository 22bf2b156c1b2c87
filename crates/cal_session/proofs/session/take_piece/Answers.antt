use Rattle.std.proofs.Common.{ℕ, [], take, subst}
use Rattle.cal_base.specs.World.Outside.{Takes}
use Rattle.cal_session.specs.SessionStates.{link_told, session_state}
use Rattle.cal_session.proofs.SessionLaws.{read_failed, read_ended, read_fed, read_wanting}
use Rattle.cal_session.proofs.session.take_piece.Goals as goal

pub returns-in-Err-clause-session : goal.returns-in-Err-clause-session
returns-in-Err-clause-session g c environment before pass turns w =
    read_failed environment before (session_state g.L.Link pass c.args.link.now) (link_told g.L.Link c.read.new.self) turns c.args.wire.now w c.in-Err.ensures.nothing_read c.in-Err.ensures.written_kept c.in-Err.ensures.never_falls c.in-Err.ensures.failed

pub returns-in-Ok-eq0-clause-session : goal.returns-in-Ok-eq0-clause-session
returns-in-Ok-eq0-clause-session g c environment before pass turns w =
    let none : Takes (g.L.Link.left c.args.link.now) [] (g.L.Link.left c.read.new.self) = subst (λ (n : ℕ). Takes (g.L.Link.left c.args.link.now) (take n c.read.new.into) (g.L.Link.left c.read.new.self)) c.in-Ok-eq0.field-0-test c.in-Ok-eq0.ensures.taken in
    read_ended environment before (session_state g.L.Link pass c.args.link.now) (link_told g.L.Link c.read.new.self) turns c.args.wire.now c.end_of.result w none c.in-Ok-eq0.ensures.written_kept (c.in-Ok-eq0.ensures.at_end c.in-Ok-eq0.field-0-test c.requires) c.end_of.ensures

pub returns-in-Ok-feed-clause-session : goal.returns-in-Ok-feed-clause-session
returns-in-Ok-feed-clause-session g c environment before pass turns w =
    read_fed environment before (session_state g.L.Link pass c.args.link.now) (link_told g.L.Link c.read.new.self) turns c.args.wire.now c.feed.new.self (take c.in-Ok.n c.read.new.into) w c.in-Ok.ensures.taken c.in-Ok.ensures.written_kept c.in-Ok.ensures.never_falls c.in-Ok-feed.ensures.ok

pub returns-in-Err-feed-clause-session : goal.returns-in-Err-feed-clause-session
returns-in-Err-feed-clause-session g c environment before pass turns w =
    read_wanting environment before (session_state g.L.Link pass c.args.link.now) (link_told g.L.Link c.read.new.self) turns c.args.wire.now (take c.in-Ok.n c.read.new.into) w c.in-Ok.ensures.taken c.in-Ok.ensures.written_kept
