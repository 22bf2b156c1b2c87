use Rattle.std.proofs.Common.{◌∙◌, ap}
use Rattle.cal_model.specs.State.ServerState.{directory_of, user_number}
use Rattle.privileges.specs.ShownUsers.{shown}
use Rattle.privileges.proofs.UserNumbers.{number_of-directory}
use Rattle.privileges.proofs.users.Users.find.Goals as goal

pub returns-clause-in_directory : goal.returns-clause-in_directory
returns-clause-in_directory c =
    c.copied.ensures ∙ c.get.ensures ∙ c.self.invariant.agree c.args.name.now ∙ number_of-directory (shown c.self.inside.users c.self.inside.groups) c.args.name.now
    ∙ ap (λ users. user_number (directory_of users) c.args.name.now) c.self.view_is
