use Rattle.std.proofs.Common.{◌∙◌, sym, subst, List}
use Rattle.cal_session.specs.SessionStates.{SessionState, environment_of, session_state}
use Rattle.cal_session.specs.UnderWay.{EndsIn}
use Rattle.cal_session.specs.declared.served.Served.{Served}
use Rattle.cal_session.specs.declared.served.How.TheVariants.{NoMemory}
use Rattle.cal_session.proofs.StartLaws.{not_begun}
use Rattle.cal_session.proofs.session.serve_new.Goals as goal

pub returns-in-Err-clause-session : goal.returns-in-Err-clause-session
returns-in-Err-clause-session g c =
    let environment = environment_of g.C.Clock c.args.context.now.users.now c.args.clock.now in
    let start : SessionState = session_state g.L.Link c.args.pass.now c.args.link.now in
    subst (λ (turns : List Served). EndsIn environment start start turns NoMemory) (sym (c.prepare.ensures.turns ∙ c.requires.none)) (not_begun environment start)
