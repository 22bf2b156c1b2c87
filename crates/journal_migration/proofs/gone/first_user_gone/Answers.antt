use Rattle.std.proofs.Common.{ℕ, rules, below_more}
use Rattle.std.specs.Prelude.{IsSome}
use Rattle.cal_model.specs.State.ServerState.{directory_of, user_number, user_name}
use Rattle.journal_migration.proofs.gone.first_user_gone.Goals as goal

pub loop-user-preserved : goal.loop-user-preserved
loop-user-preserved c =
    let last : IsSome (user_number (directory_of c.args.new_users.now) (user_name (directory_of c.args.old_users.now) c.loop-user.user)) = search rules in
    below_more (λ (n : ℕ). IsSome (user_number (directory_of c.args.new_users.now) (user_name (directory_of c.args.old_users.now) n))) c.loop-user.user c.loop-user.invariant last
