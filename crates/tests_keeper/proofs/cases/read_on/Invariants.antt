use Rattle.std.proofs.Common.{◌≡◌}
use Rattle.cal_keeper.specs.Principals.{counts_of}
use Rattle.tests_keeper.proofs.cases.read_on.Given as goal

abbrev pub invariant-reading : goal.invariant-reading
invariant-reading g l = counts_of l.users ≡ l.reader.principals
