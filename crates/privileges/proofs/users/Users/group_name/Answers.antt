use Rattle.std.proofs.Common.{◌∙◌, ap, arith, length}
use Rattle.std.proofs.lemmas.List.{length-map}
use Rattle.cal_model.specs.State.ServerState.{directory_of, group_name}
use Rattle.cal_model.specs.Users.UsersFile.{Users}
use Rattle.privileges.specs.ShownUsers.{shown_group}
use Rattle.privileges.proofs.KeptUsers.{group_name-shown}
use Rattle.privileges.proofs.users.Users.group_name.Goals as goal

pub returns : goal.returns
returns c =
    c.as_slice.ensures
    ∙ group_name-shown c.self.inside.users c.self.inside.groups c.args.group c.index.result.now
    (omega (arith, c.requires, ap (λ (users : Users). length users.groups) c.self.view_is, length-map c.self.inside.groups shown_group)) c.index.ensures
    ∙ ap (λ users. group_name (directory_of users) c.args.group) c.self.view_is
