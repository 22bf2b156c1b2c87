use Rattle.std.proofs.Common.{◌≡◌, take}
use Rattle.cal_base.proofs.copies.copy_each.Given as goal

-- what was copied
abbrev pub invariant-values : goal.invariant-values
invariant-values g l = l.copies ≡ take l.value-index l.values
