-- What some picks of one component say, name by name.
use Rattle.std.specs.Prelude.{◌≡◌, ℕ, Bool, true, false, not, List, [], ◌∷◌, map, filter, bytes_eq, Option, Some, None}
use Rattle.std.specs.List.{list_any}
use Rattle.std.specs.Borrow.{Bor}
use Rattle.cal_base.specs.Lists.NameMap.{Named, value_at}
use Rattle.cal_model.specs.declared.selection.PropPick.{PropPick}
use Rattle.cal_model.specs.declared.selection.CompPick.{CompPick, out-CompPick}
use Rattle.cal_model.specs.Words.Lists.{is_empty}
use Rattle.expand_limit.specs.declared.kept.Kept.{Kept}

abbrev pub is_prop : List ℕ → PropPick → Bool
is_prop name prop = bytes_eq prop.name name

abbrev pub is_comp : List ℕ → CompPick → Bool
is_comp name comp = bytes_eq (out-CompPick comp).name name

-- the properties and the components of a name that a pick names
abbrev pub named_props : List ℕ → CompPick → List PropPick
named_props name pick = filter (is_prop name) (out-CompPick pick).props

abbrev pub named_comps : List ℕ → CompPick → List CompPick
named_comps name pick = filter (is_comp name) (out-CompPick pick).comps

-- whether lines are kept whole, where it was said before, and one more pick says so
abbrev pub with_prop : Option Bool → Bool → Bool
with_prop (Some true) no_value = true
with_prop (Some false) no_value = not no_value
with_prop None no_value = not no_value

-- what is said of a property after some more picks of it
abbrev pub said_by : Option Bool → List PropPick → Option Bool
said_by before [] = before
said_by before (prop ∷ props) = said_by (Some (with_prop before prop.no_value)) props

-- the picks that are asked of a component
abbrev pub asked_at : Option (List (Bor CompPick)) → List CompPick
asked_at None = []
asked_at (Some group) = map (λ (b : Bor CompPick). b.now) group

-- the names are those of which something is asked
abbrev pub IsCovered : List (List ℕ) → Named (List (Bor CompPick)) → Type 0
IsCovered names groups = (name : List ℕ) → list_any (bytes_eq name) names ≡ not (is_empty (asked_at (value_at groups name)))

-- what is kept of the components of a name, where it is there exactly for some names
abbrev pub IsNamed : (Kept → List CompPick → Type 0) → Option Kept → Bool → List CompPick → Type 0
IsNamed Says None there picks = there ≡ false
IsNamed Says (Some kept) there picks = (there ≡ true) × Says kept picks
