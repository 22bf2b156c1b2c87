use Rattle.cal_model.specs.State.ServerState.{directory_of}
use Rattle.cal_model.specs.State.SoundStates.{HaveGroups}
use Rattle.tests_state.proofs.users.granted.Given as goal

abbrev pub invariant-grants : goal.invariant-grants
invariant-grants l = HaveGroups (directory_of l.view) l.list
