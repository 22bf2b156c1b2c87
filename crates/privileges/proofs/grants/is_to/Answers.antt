use Rattle.std.proofs.Common.{sym, ap, ◌∙◌}
use Rattle.cal_model.specs.Access.Privileges.{fits_user}
use Rattle.cal_model.specs.State.ServerState.{groups_of}
use Rattle.privileges.proofs.GroupMembers.{fits_user-group}
use Rattle.privileges.proofs.grants.is_to.Goals as goal

pub returns-in-Group : goal.returns-in-Group
returns-in-Group g c =
    let directory = g.V.View.directory c.args.view.now in
    c.is_member.ensures ∙ fits_user-group directory c.args.who c.in-Group.group ∙ ap (fits_user (groups_of directory c.args.who) c.args.who) (sym c.in-Group.is)
