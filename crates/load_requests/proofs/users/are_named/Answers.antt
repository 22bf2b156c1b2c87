use Rattle.std.proofs.Common.{◌∙◌, arith}
use Rattle.std.proofs.lemmas.List.{length-map}
use Rattle.cal_model.specs.State.ServerState.{directory_of}
use Rattle.cal_model.specs.Users.UsersFile.{User}
use Rattle.load_requests.proofs.NameLemmas.{named}
use Rattle.load_requests.proofs.users.are_named.Goals as goal

pub returns-clause-named : goal.returns-clause-named
returns-clause-named c = λ yes.
    named (directory_of c.args.users.now) c.args.sessions
    (length-map c.args.users.now.people (λ (user : User). user.name) ∙ omega arith)
    (omega arith)
    (λ k less. c.names.invariant.named k (omega arith))
