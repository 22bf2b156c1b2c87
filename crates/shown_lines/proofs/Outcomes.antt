-- Clauses on a result, one from another.
use Rattle.std.specs.Prelude.{Result, Ok, Err, IfOk}

pub IfOk-then : {X E : Type 0} (P Q : X → Type 0) (result : Result X E) → ((x : X) → P x → Q x) → IfOk result P → IfOk result Q
IfOk-then P Q (Ok x) f h = f x h
IfOk-then P Q (Err e) f h = tt
