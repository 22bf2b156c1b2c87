-- The name of a property as one text, by which it is looked up: before each octet of the namespace stands 1, and before the local name 0. So two names have one text only where they are the same.
use Rattle.std.specs.Prelude.{ℕ, List, [], ◌∷◌, ◌++◌, flat_map}
use Rattle.cal_model.specs.declared.property.PropName.{PropName}

-- each octet behind an octet 1
unfoldable pub marked : List ℕ → List ℕ
marked octets = flat_map (λ octet. 1 ∷ octet ∷ []) octets

abbrev pub key : PropName → List ℕ
key name = marked name.space ++ 0 ∷ name.name
