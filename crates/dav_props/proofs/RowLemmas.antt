-- What a name finds in the code's table is what the definition's table says of it.
use Rattle.std.proofs.Common.{◌≡◌, ℕ, Bool, true, false, cond, List, [], ◌∷◌, map, Option, Some, None, refl, sym, ap, ◌∙◌}
use Rattle.std.specs.Prelude.{find, option_map, unwrap_or, bytes_eq}
use Rattle.std.proofs.lemmas.Bool.{false≢true, and_parts}
use Rattle.std.proofs.lemmas.Slice.Eq.{bytes_eq-Decides}
use Rattle.cal_model.specs.declared.property.PropName.{PropName}
use Rattle.cal_model.specs.Access.Privileges.{same_name}
use Rattle.cal_model.specs.Properties.PropertyTable.{Property, properties, listed_row, row_of, text_row, in_both, text}
use Rattle.dav_props.specs.declared.rows.Row.{Row}
use Rattle.dav_props.specs.declared.rows.Row.TheVariants as rows
use Rattle.cal_model.specs.Serving.SeenResources.{calendar_data}
use Rattle.dav_props.specs.Contents.{IsShownHere}
use Rattle.dav_props.specs.Rows.{name_of, property_of, listed_rows, IsOwnName}

find_passes : {X : Type 0} (p : X → Bool) (xs : List X) (x : X) → find p xs ≡ Some x → p x ≡ true
find_passes p [] x e = absurd cc
find_passes p (y ∷ xs) x e = by (p y) refl (find_passes p xs x) e where
  by : (test : Bool) → p y ≡ test → (find p xs ≡ Some x → p x ≡ true) → cond test (Some y) (find p xs) ≡ Some x → p x ≡ true
  by true passes later e = let same : y ≡ x = cc in ap p (sym same) ∙ passes
  by false passes later e = later e

find_map : {X Y : Type 0} (p : Y → Bool) (q : X → Bool) (f : X → Y) → ((x : X) → p (f x) ≡ q x) → (xs : List X) → find p (map f xs) ≡ option_map f (find q xs)
find_map p q f same [] = refl
find_map p q f same (x ∷ xs) = ap (λ test. cond test (Some (f x)) (find p (map f xs))) (same x) ∙ by (q x) (find_map p q f same xs) where
  by : (test : Bool) → find p (map f xs) ≡ option_map f (find q xs) → cond test (Some (f x)) (find p (map f xs)) ≡ option_map f (cond test (Some x) (find q xs))
  by true later = refl
  by false later = later

pub name_kept : (row : Row) (name : PropName) → (property_of row name).name ≡ name
name_kept rows.ResourceType name = refl
name_kept rows.AskingPrincipal name = refl
name_kept rows.Owner name = refl
name_kept rows.HeldPrivileges name = refl
name_kept rows.DisplayName name = refl
name_kept rows.PrincipalUrl name = refl
name_kept rows.CalendarHome name = refl
name_kept rows.GroupMembers name = refl
name_kept rows.GroupMemberships name = refl
name_kept rows.Etag name = refl
name_kept rows.ContentType name = refl
name_kept rows.ContentLength name = refl
name_kept rows.CalendarData name = refl
name_kept rows.Description name = refl
name_kept rows.Timezone name = refl
name_kept rows.Kinds name = refl
name_kept rows.DataType name = refl
name_kept rows.MaxSize name = refl
name_kept rows.MinDate name = refl
name_kept rows.MaxDate name = refl
name_kept rows.MaxInstances name = refl
name_kept rows.Reports name = refl
name_kept rows.Acl name = refl
name_kept rows.Text name = refl

pub properties_are : properties ≡ map (λ row. property_of row (name_of row)) listed_rows
unfolding properties
properties_are = refl

pub same_name-true : (a b : PropName) → same_name a b ≡ true → a ≡ b
same_name-true a b e =
    let both = and_parts (bytes_eq a.space b.space) (bytes_eq a.name b.name) e in
    let space : a.space ≡ b.space = (bytes_eq-Decides a.space b.space).0 both.0 in
    let name : a.name ≡ b.name = (bytes_eq-Decides a.name b.name).0 both.1 in
    λ i. record { space = space i; name = name i }

-- the definition's look-up is the code's
pub looked_up : (name : PropName) → listed_row name ≡ option_map (λ row. property_of row (name_of row)) (find (λ row. same_name (name_of row) name) listed_rows)
looked_up name =
    ap (find (λ (p : Property). same_name p.name name)) properties_are
    ∙ find_map (λ (p : Property). same_name p.name name) (λ row. same_name (name_of row) name) (λ row. property_of row (name_of row))
    (λ row. ap (λ (other : PropName). same_name other name) (name_kept row (name_of row))) listed_rows

pub row_found : (name : PropName) (row : Row) → Some row ≡ find (λ row. same_name (name_of row) name) listed_rows → row_of name ≡ property_of row name
row_found name row e =
    let there = looked_up name ∙ ap (option_map (λ row. property_of row (name_of row))) (sym e) in
    let same : name_of row ≡ name = same_name-true (name_of row) name (find_passes (λ row. same_name (name_of row) name) listed_rows row (sym e)) in
    ap (λ found. unwrap_or found (text_row name in_both text)) there ∙ ap (property_of row) same

pub row_not_found : (name : PropName) → None ≡ find (λ row. same_name (name_of row) name) listed_rows → row_of name ≡ property_of rows.Text name
row_not_found name e =
    ap (λ found. unwrap_or found (text_row name in_both text)) (looked_up name ∙ ap (option_map (λ row. property_of row (name_of row))) (sym e))

own_name : (row : Row) (name : PropName) → name_of row ≡ name → IsOwnName row name
own_name rows.ResourceType name e = tt
own_name rows.AskingPrincipal name e = tt
own_name rows.Owner name e = tt
own_name rows.HeldPrivileges name e = tt
own_name rows.DisplayName name e = tt
own_name rows.PrincipalUrl name e = tt
own_name rows.CalendarHome name e = tt
own_name rows.GroupMembers name e = tt
own_name rows.GroupMemberships name e = tt
own_name rows.Etag name e = tt
own_name rows.ContentType name e = tt
own_name rows.ContentLength name e = tt
own_name rows.CalendarData name e = e
own_name rows.Description name e = tt
own_name rows.Timezone name e = tt
own_name rows.Kinds name e = tt
own_name rows.DataType name e = tt
own_name rows.MaxSize name e = tt
own_name rows.MinDate name e = tt
own_name rows.MaxDate name e = tt
own_name rows.MaxInstances name e = tt
own_name rows.Reports name e = tt
own_name rows.Acl name e = tt
own_name rows.Text name e = tt

pub own_found : (name : PropName) (row : Row) → Some row ≡ find (λ row. same_name (name_of row) name) listed_rows → IsOwnName row name
own_found name row e = own_name row name (same_name-true (name_of row) name (find_passes (λ row. same_name (name_of row) name) listed_rows row (sym e)))

-- a name that is not that of calendar-data is of a property whose answer does not hang on what a report shows
pub shown_anywhere : (row : Row) (name : PropName) (shown : Option (List ℕ → List ℕ)) → IsOwnName row name → same_name name calendar_data ≡ false → IsShownHere row shown
shown_anywhere rows.ResourceType name shown own other = tt
shown_anywhere rows.AskingPrincipal name shown own other = tt
shown_anywhere rows.Owner name shown own other = tt
shown_anywhere rows.HeldPrivileges name shown own other = tt
shown_anywhere rows.DisplayName name shown own other = tt
shown_anywhere rows.PrincipalUrl name shown own other = tt
shown_anywhere rows.CalendarHome name shown own other = tt
shown_anywhere rows.GroupMembers name shown own other = tt
shown_anywhere rows.GroupMemberships name shown own other = tt
shown_anywhere rows.Etag name shown own other = tt
shown_anywhere rows.ContentType name shown own other = tt
shown_anywhere rows.ContentLength name shown own other = tt
shown_anywhere rows.CalendarData name shown own other = absurd (false≢true (sym other ∙ ap (λ (n : PropName). same_name n calendar_data) (sym own)))
shown_anywhere rows.Description name shown own other = tt
shown_anywhere rows.Timezone name shown own other = tt
shown_anywhere rows.Kinds name shown own other = tt
shown_anywhere rows.DataType name shown own other = tt
shown_anywhere rows.MaxSize name shown own other = tt
shown_anywhere rows.MinDate name shown own other = tt
shown_anywhere rows.MaxDate name shown own other = tt
shown_anywhere rows.MaxInstances name shown own other = tt
shown_anywhere rows.Reports name shown own other = tt
shown_anywhere rows.Acl name shown own other = tt
shown_anywhere rows.Text name shown own other = tt
