use Rattle.std.proofs.Common.{ℕ, rules, below_more}
use Rattle.std.specs.Prelude.{IsSome}
use Rattle.cal_model.specs.State.ServerState.{directory_of, group_number, group_name}
use Rattle.journal_migration.proofs.gone.first_group_gone.Goals as goal

pub loop-group-preserved : goal.loop-group-preserved
loop-group-preserved c =
    let last : IsSome (group_number (directory_of c.args.new_users.now) (group_name (directory_of c.args.old_users.now) c.loop-group.group)) = search rules in
    below_more (λ (n : ℕ). IsSome (group_number (directory_of c.args.new_users.now) (group_name (directory_of c.args.old_users.now) n))) c.loop-group.group c.loop-group.invariant last
