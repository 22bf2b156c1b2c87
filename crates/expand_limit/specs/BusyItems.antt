-- Items of a value with commas between them.
use Rattle.std.specs.Prelude.{ℕ, List, [], ◌∷◌, ◌++◌, Option, Some, None}
use Rattle.std.specs.List.{join_with_byte}
use Rattle.cal_base.specs.Texts.Octets.{comma}

abbrev pub joined_items : List (List ℕ) → Option (List ℕ)
joined_items [] = None
joined_items (item ∷ items) = Some (join_with_byte comma (item ∷ items))

-- one more item behind others that are joined
abbrev pub with_item : Option (List ℕ) → List ℕ → Option (List ℕ)
with_item None item = Some item
with_item (Some text) item = Some (text ++ comma ∷ item)

-- several more
abbrev pub more_items : Option (List ℕ) → List (List ℕ) → Option (List ℕ)
more_items joined [] = joined
more_items joined (item ∷ items) = more_items (with_item joined item) items
