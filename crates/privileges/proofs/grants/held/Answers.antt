use Rattle.std.proofs.lemmas.Bool.Decides.{nat_tests}
use Rattle.std.proofs.Common.{arith}
use Rattle.cal_model.specs.Access.Privileges.{privileges_held}
use Rattle.privileges.proofs.grants.held.Goals as goal

pub returns-then-owner-who : goal.returns-then-owner-who
unfolding privileges_held
returns-then-owner-who g c = grind (arith, nat_tests)

pub returns-else-owner-who : goal.returns-else-owner-who
unfolding privileges_held
returns-else-owner-who g c = grind (arith, nat_tests)
