-- Shares of connections.
use Rattle.std.proofs.Common.{ℕ, ◌+◌, ◌*◌, ◌/◌, ◌%◌, ◌<◌, ◌≤◌, arith}
use Rattle.std.proofs.Math.Nat.{mul-le-mul_right, div-add-mod}

-- one more than a share is still not more than all, where something is left over
pub share_fits : (n s i : ℕ) → 0 < s → i < n % s → n / s + 1 ≤ n
share_fits n s i some within =
    let more : 1 * (n / s) ≤ s * (n / s) = mul-le-mul_right (n / s) (omega arith) in
    omega (arith, div-add-mod n s, more)
