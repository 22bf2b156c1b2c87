use Rattle.std.proofs.Common.{◌∙◌, ap, arith, length}
use Rattle.std.proofs.lemmas.List.{length-map}
use Rattle.cal_model.specs.State.ServerState.{directory_of, user_name}
use Rattle.cal_model.specs.Users.UsersFile.{Users}
use Rattle.privileges.specs.ShownUsers.{shown_user}
use Rattle.privileges.proofs.KeptUsers.{user_name-shown}
use Rattle.privileges.proofs.users.Users.name.Goals as goal

pub returns : goal.returns
returns c =
    c.as_slice.ensures
    ∙ user_name-shown c.self.inside.users c.self.inside.groups c.args.who c.index.result.now
    (omega (arith, c.requires, ap (λ (users : Users). length users.people) c.self.view_is, length-map c.self.inside.users shown_user)) c.index.ensures
    ∙ ap (λ users. user_name (directory_of users) c.args.who) c.self.view_is
