use Rattle.std.proofs.Common.{◌≡◌, ◌≤◌, false, length}
use Rattle.std.specs.Prelude.{ℤ, int_lt}
use Rattle.std.specs.List.{AllWithin}
use Rattle.freebusy.proofs.left.count_back.Given as goal

abbrev pub invariant-back : goal.invariant-back
invariant-back l = (l.count ≤ length l.moments) × AllWithin (λ (x : ℤ). int_lt x l.fn.upper ≡ false) l.moments l.count (length l.moments)

abbrev pub decreases-back : goal.decreases-back
decreases-back l = l.count
