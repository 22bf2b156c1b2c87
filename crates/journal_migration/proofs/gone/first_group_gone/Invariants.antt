use Rattle.std.proofs.Common.{ℕ, ◌<◌}
use Rattle.std.specs.Prelude.{IsSome}
use Rattle.cal_model.specs.State.ServerState.{directory_of, group_number, group_name}
use Rattle.journal_migration.proofs.gone.first_group_gone.Given as goal

abbrev pub invariant-loop-group : goal.invariant-loop-group
invariant-loop-group l = (group : ℕ) → group < l.group → IsSome (group_number (directory_of l.new_users) (group_name (directory_of l.old_users) group))
