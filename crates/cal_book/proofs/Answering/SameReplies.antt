-- A reply that is one that equals another is that other.
use Rattle.std.proofs.Common.{◌≡◌, ◌∙◌}
use Rattle.std.specs.Prelude.{IfOk, Result, Ok, Err}

pub if_ok_same : {X E : Type 0} (result : Result X E) (one other : X) → one ≡ other → IfOk result (λ x. x ≡ one) → IfOk result (λ x. x ≡ other)
if_ok_same (Ok x) one other same is = is ∙ same
if_ok_same (Err e) one other same is = is
