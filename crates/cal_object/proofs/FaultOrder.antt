-- The order in which the parts of a fault are joined does not matter.
use Rattle.std.proofs.Common.{◌≡◌, Bool, true, false, ◌||◌, refl}

pub grouped : (a b c d e f : Bool) → a || b || (c || d || e) || f ≡ a || b || c || d || e || f
grouped false false false d e f = refl
grouped false false true d e f = refl
grouped false true c d e f = refl
grouped true b c d e f = refl
