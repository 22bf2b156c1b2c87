use Rattle.std.proofs.Common.{◌∙◌, ap, sym}
use Rattle.turn_lock.specs.Passes.{PassState}
use Rattle.cal_model.specs.History.Journal.{Entry}
use Rattle.cal_model.specs.State.ServerState.{directory_of}
use Rattle.cal_model.specs.Users.UsersFile.{Users}
use Rattle.cal_session.proofs.session.serve_behind.Goals as goal

pub returns-clause-legal : goal.returns-clause-legal
returns-clause-legal g c =
    let users = c.args.users.now in
    let seen = c.serve_under-end.new.pass.seen in
    let base = ap (λ (p : PassState Entry Users). p.base) c.serve_under-end.ensures.pass ∙ c.requires.users in
    c.journals_are_told.ensures.is (directory_of users) seen (sym (g.met.B.Desk.tests users seen) ∙ c.seen_len-seen.ensures.lawful users base)
