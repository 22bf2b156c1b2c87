use Rattle.std.proofs.Common.{◌<◌, ◌∙◌, ap, arith, length}
use Rattle.std.proofs.lemmas.List.{length-map}
use Rattle.cal_model.specs.State.ServerState.{directory_of, is_member}
use Rattle.cal_model.specs.Users.UsersFile.{Users}
use Rattle.privileges.specs.ShownUsers.{shown_group}
use Rattle.privileges.proofs.KeptUsers.{is_member-shown}
use Rattle.privileges.proofs.users.Users.is_member.Goals as goal

pub returns : goal.returns
returns c =
    let people = ap (λ (users : Users). length users.people) c.self.view_is in
    let groups = ap (λ (users : Users). length users.groups) c.self.view_is in
    let marked : c.args.who < length c.index.result.now.members = omega (arith, people, c.self.invariant.few, c.requires.known) in
    is_member-shown c.self.inside.users c.self.inside.groups c.args.group c.args.who c.index.result.now
    (omega (arith, c.requires.group, groups, length-map c.self.inside.groups shown_group)) c.index.ensures marked
    ∙ ap (λ users. is_member (directory_of users) c.args.group c.args.who) c.self.view_is
