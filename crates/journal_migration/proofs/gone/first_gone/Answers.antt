use Rattle.std.proofs.Common.{refl}
use Rattle.journal_migration.proofs.gone.first_gone.Goals as goal

pub returns-in-None-clause-all : goal.returns-in-None-clause-all
returns-in-None-clause-all c = λ none. record { users = c.in_default.ensures.all refl; groups = c.in-None.ensures.all refl }
