use Rattle.std.proofs.Common.{◌≡◌, ◌++◌}
use Rattle.cal_model.specs.State.ServerState.{directory_of}
use Rattle.cal_keeper.proofs.UserTexts.{members_below}
use Rattle.cal_keeper.proofs.header.add_group.Given as goal

abbrev pub invariant-members : goal.invariant-members
invariant-members l = l.text ≡ l.initial.text ++ members_below (directory_of l.users) l.group l.who
