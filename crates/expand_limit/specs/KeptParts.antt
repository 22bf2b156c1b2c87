-- What is kept of a component, beside the picks of it.
use Rattle.std.specs.Prelude.{◌≡◌, ℕ, zero, suc, Bool, true, false, not, ◌&&◌, if◌then◌else◌, List, [], flat_map, slice_get, Option, Some, None, is_none, option_and_then, option_map}
use Rattle.std.specs.List.{list_any}
use Rattle.std.specs.Borrow.{Bor}
use Rattle.cal_base.specs.Lists.NameMap.{Named, value_at}
use Rattle.cal_model.specs.declared.selection.PropPick.{PropPick}
use Rattle.cal_model.specs.declared.selection.CompPick.{CompPick, out-CompPick}
use Rattle.cal_model.specs.Selections.Picks.{prop_picks, comp_picks}
use Rattle.cal_model.specs.Words.Lists.{is_empty}
use Rattle.expand_limit.specs.declared.kept.Kept.{Kept, out-Kept}
use Rattle.shown_lines.specs.declared.portion.Portion.{Portion}
use Rattle.shown_lines.specs.declared.portion.Portion.TheVariants.{Nothing, Header, Whole}

-- how much some picks of a property keep of its lines
abbrev pub portion_by : List PropPick → Portion
portion_by picks =
    if is_empty picks then Nothing
    else (if list_any (λ (prop : PropPick). not prop.no_value) picks then Whole else Header)

-- how much is kept of a property of which this is said
abbrev pub portion_said : Option Bool → Portion
portion_said None = Nothing
portion_said (Some false) = Header
portion_said (Some true) = Whole

abbrev pub portion_in : Kept → List ℕ → Portion
portion_in kept name = if (out-Kept kept).all_props then Whole else portion_said (value_at (out-Kept kept).props name)

-- what stands at the place of a name
abbrev pub kept_at : Named ℕ → List Kept → List ℕ → Option Kept
kept_at places comps name = option_and_then (λ place. slice_get comps place) (value_at places name)

-- what is kept of the components of a name, where not all is
abbrev pub named_in : Kept → List ℕ → Option Kept
named_in kept name = kept_at (out-Kept kept).places (out-Kept kept).comps name

-- the same, with none for all
abbrev pub inner_in : Kept → List ℕ → Option Kept
inner_in kept name = if (out-Kept kept).all_comps then None else named_in kept name

abbrev pub now_of : Option (Bor Kept) → Option Kept
now_of = option_map (λ (b : Bor Kept). b.now)

-- some pick keeps all that is in a component
abbrev pub keeps_all : List CompPick → Bool
keeps_all picks = list_any (λ pick. (out-CompPick pick).all_props && (out-CompPick pick).all_comps) picks

-- what is kept of the components of a name, where they are asked for by these picks
abbrev pub IsInner : (Kept → List CompPick → Type 0) → Bool → Option Kept → List CompPick → Type 0
IsInner Says true kept picks = keeps_all picks ≡ true
IsInner Says false None picks = picks ≡ []
IsInner Says false (Some kept) picks = (is_empty picks ≡ false) × Says kept picks

-- What is kept says what picks say, of a component with so many levels: of each property, and of each component in it.
abbrev pub IsKeptBy : ℕ → Kept → List CompPick → Type 0
IsKeptBy zero kept picks = Unit {0}
IsKeptBy (suc levels) kept picks =
    ((name : List ℕ) → portion_in kept name ≡ portion_by (flat_map (prop_picks name) picks))
    × ((name : List ℕ) → IsInner (IsKeptBy levels) ((out-Kept kept).all_comps) (named_in kept name) (flat_map (comp_picks name) picks))

-- the same where none stands for all
abbrev pub IsKeptAs : ℕ → Option Kept → List CompPick → Type 0
IsKeptAs levels None picks = keeps_all picks ≡ true
IsKeptAs levels (Some kept) picks = IsKeptBy levels kept picks

abbrev pub IsKept : ℕ → Option (Bor Kept) → List CompPick → Type 0
IsKept levels kept picks = IsKeptAs levels (now_of kept) picks

abbrev pub inner_as : Option Kept → List ℕ → Option Kept
inner_as None name = None
inner_as (Some kept) name = inner_in kept name

abbrev pub leaves_out_as : Option Kept → List ℕ → Bool
leaves_out_as None name = false
leaves_out_as (Some kept) name = not (out-Kept kept).all_comps && is_none (named_in kept name)
