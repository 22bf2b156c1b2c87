use Rattle.std.proofs.Common.{ap, ◌∙◌}
use Rattle.turn_lock.specs.Passes.{PassState}
use Rattle.cal_model.specs.History.Journal.{Entry}
use Rattle.cal_model.specs.Users.UsersFile.{Users}
use Rattle.cal_session.specs.SessionStates.{SessionState, environment_of, session_state}
use Rattle.cal_session.proofs.EndLaws.{stops_later}
use Rattle.cal_session.proofs.SessionLaws.{seen_further}
use Rattle.cal_session.proofs.StartLaws.{ended_on}
use Rattle.cal_session.proofs.session.serve_under.Goals as goal

pub tell_at_end-requires-clause-same : goal.tell_at_end-requires-clause-same
tell_at_end-requires-clause-same g c κs within = ap (λ (p : PassState Entry Users). p.lock) c.serve_new-stop.ensures.pass ∙ c.requires.same

pub tell_at_end-requires-clause-free : goal.tell_at_end-requires-clause-free
tell_at_end-requires-clause-free g c κs within = ap (λ (p : PassState Entry Users). p.holds_turn) c.serve_new-stop.ensures.pass ∙ c.requires.free

pub returns-clause-pass : goal.returns-clause-pass
returns-clause-pass g c = seen_further c.args.pass.now c.serve_new-stop.new.pass c.tell_at_end.new.pass c.serve_new-stop.ensures.pass c.tell_at_end.ensures.pass

pub returns-clause-session : goal.returns-clause-session
returns-clause-session g c =
    let environment = environment_of g.C.Clock c.args.context.now.users.now c.args.clock.now in
    let before : SessionState = session_state g.L.Link c.args.pass.now c.args.link.now in
    let now : SessionState = session_state g.L.Link c.serve_new-stop.new.pass c.serve_new-stop.new.link in
    let turns = c.serve_new-stop.new.turns.items in
    let stop = c.serve_new-stop.result in
    let later = stops_later environment before now c.tell_at_end.new.pass turns c.serve_new-stop.ensures.pass stop c.tell_at_end.ensures.last c.serve_new-stop.ensures.session in
    ended_on environment before (session_state g.L.Link c.tell_at_end.new.pass c.serve_new-stop.new.link) turns stop c.end_with.result later c.end_with.ensures
