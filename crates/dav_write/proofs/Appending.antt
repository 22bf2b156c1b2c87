-- A buffer to which one piece after another is appended.
use Rattle.std.proofs.Common.{◌≡◌, ℕ, List, ◌++◌, Result, Ok, Err, ap, ◌∙◌, append_assoc}
use Rattle.std.specs.Prelude.{OnOk}

-- one piece and then a rest
pub then_more : (old piece rest : List ℕ) {mid new : List ℕ} → mid ≡ old ++ piece → new ≡ mid ++ rest → new ≡ old ++ (piece ++ rest)
then_more old piece rest first more = more ∙ ap (λ text. text ++ rest) first ∙ append_assoc old piece rest

pub on_ok_then : {E : Type 0} {X P Q : Type 0} (result : Result X E) → (P → Q) → OnOk result P → OnOk result Q
on_ok_then (Ok x) next holds = next holds
on_ok_then (Err e) next holds = holds
