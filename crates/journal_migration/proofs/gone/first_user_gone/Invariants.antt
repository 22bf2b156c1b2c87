use Rattle.std.proofs.Common.{ℕ, ◌<◌}
use Rattle.std.specs.Prelude.{IsSome}
use Rattle.cal_model.specs.State.ServerState.{directory_of, user_number, user_name}
use Rattle.journal_migration.proofs.gone.first_user_gone.Given as goal

abbrev pub invariant-loop-user : goal.invariant-loop-user
invariant-loop-user l = (user : ℕ) → user < l.user → IsSome (user_number (directory_of l.new_users) (user_name (directory_of l.old_users) user))
