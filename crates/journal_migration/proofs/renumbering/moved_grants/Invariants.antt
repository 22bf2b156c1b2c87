use Rattle.std.proofs.Common.{◌≡◌, map, take}
use Rattle.journal_migration.specs.Renumbering.{moved_grant}
use Rattle.journal_migration.proofs.renumbering.moved_grants.Given as goal

abbrev pub invariant-loop-grant : goal.invariant-loop-grant
invariant-loop-grant l = l.moved ≡ map (moved_grant l.old_users l.new_users) (take l.grant-index l.grants)
