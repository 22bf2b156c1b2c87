-- One part more behind others, as at a step of a loop.
use Rattle.std.proofs.Common.{◌≡◌, List, ◌∷◌, ◌++◌, ap, ◌∙◌, append_assoc}
use Rattle.std.specs.Prelude.{flat_map}

pub put_next : {X Y : Type 0} (f : X → List Y) (out new all : List Y) (x : X) (xs : List X) → new ≡ out ++ f x → out ++ flat_map f (x ∷ xs) ≡ all → new ++ flat_map f xs ≡ all
put_next f out new all x xs e so_far = ap (λ ys. ys ++ flat_map f xs) e ∙ append_assoc out (f x) (flat_map f xs) ∙ so_far
