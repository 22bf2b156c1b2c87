-- The values of pairs, whatever is made of their names, and of some pairs behind others.
use Rattle.std.proofs.Common.{◌≡◌, List, [], ◌∷◌, ◌++◌, map, refl, ap}
use Rattle.std.specs.Map.{values_of}

pub values_named : {K L V : Type 0} (f : K → L) (pairs : List (K × V)) → values_of (map (λ (pair : K × V). (f pair.0, pair.1)) pairs) ≡ values_of pairs
values_named f [] = refl
values_named f (pair ∷ pairs) = ap (λ values. pair.1 ∷ values) (values_named f pairs)

pub values_of-append : {K V : Type 0} (pairs others : List (K × V)) → values_of (pairs ++ others) ≡ values_of pairs ++ values_of others
values_of-append [] others = refl
values_of-append (pair ∷ pairs) others = ap (λ values. pair.1 ∷ values) (values_of-append pairs others)
