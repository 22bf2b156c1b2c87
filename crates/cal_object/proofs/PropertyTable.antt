-- The table of the names that are looked at, as the code tells their properties apart.
use Rattle.std.proofs.Common.{◌≡◌, ℕ, Bool, true, false, List, [], ◌∷◌, map, refl, sym, ap, ◌∙◌, eq-eqb}
use Rattle.std.specs.Prelude.{◌==◌, if◌then◌else◌, find, bytes_eq, slice_get, Option, Some, None, option_map, unwrap_or}
use Rattle.std.specs.List.{list_any, AllByRecursion as Each}
use Rattle.std.proofs.lemmas.Bool.{false≢true, eqb-true}
use Rattle.std.proofs.lemmas.Option.{none-some}
use Rattle.std.proofs.lemmas.Slice.Eq.{bytes_eq-Decides}
use Rattle.cal_base.specs.declared.line.Line.{Line}
use Rattle.cal_model.specs.Objects.ComponentLines.{has_name}
use Rattle.cal_model.specs.Objects.LineValues.{repeatable, cannot_stand, has_own_fault}
use Rattle.cal_object.specs.declared.property.Property.{Property}
use Rattle.cal_object.specs.declared.property.Property.TheVariants.{Start}
use Rattle.cal_object.specs.Properties.{properties, named_in, property_named, test_of, is_repeatable, number_of, name_of, all_properties, first_named}
use Rattle.cal_object.specs.OwnFaults.{property_of}
use Rattle.cal_object.proofs.ListSteps.{find-map}
use Rattle.cal_object.proofs.NamedLemmas.{bytes_eq_sym}

-- two tests that hold together are one
pub alike : (a b : Bool) → (a ≡ true → b ≡ true) → (b ≡ true → a ≡ true) → a ≡ b
alike true b to from = sym (to refl)
alike false true to from = from refl
alike false false to from = refl

-- Names

named_again : (property : Property) → property_named (name_of property) ≡ Some property
named_again Start = refl
named_again other = refl

numbered_again : (property : Property) → slice_get (map (λ (row : List ℕ × Property). row.1) properties) (number_of property) ≡ Some property
numbered_again Start = refl
numbered_again other = refl

repeatable_by_name : (property : Property) → list_any (bytes_eq (name_of property)) repeatable ≡ is_repeatable property
repeatable_by_name Start = refl
repeatable_by_name other = refl

some_is : {X : Type 0} (x y : X) → Some x ≡ Some y → x ≡ y
some_is x y same = ap (λ found. unwrap_or found x) same

name_step : (row : List ℕ × Property) (name : List ℕ) (property : Property) (found : Option (List ℕ × Property)) (b : Bool) → row.0 ≡ name_of row.1 → bytes_eq name row.0 ≡ b →
    (option_map (λ (one : List ℕ × Property). one.1) found ≡ Some property → name ≡ name_of property) → option_map (λ (one : List ℕ × Property). one.1) (if b then Some row else found) ≡ Some property → name ≡ name_of property
name_step row name property found true named same later is = (bytes_eq-Decides name row.0).0 same ∙ (named ∙ ap name_of (some_is row.1 property is))
name_step row name property found false named same later is = later is

found_name : (rows : List (List ℕ × Property)) (name : List ℕ) (property : Property) → Each (λ (row : List ℕ × Property). row.0 ≡ name_of row.1) rows →
    named_in rows name ≡ Some property → name ≡ name_of property
found_name [] name property are found = absurd (none-some property found)
found_name (row ∷ rows) name property are found =
    name_step row name property (find (λ (one : List ℕ × Property). bytes_eq name one.0) rows) (bytes_eq name row.0) are.0 refl (found_name rows name property are.1) found

-- the name of a property
pub name_is : (name : List ℕ) (property : Property) → property_named name ≡ Some property → name ≡ name_of property
name_is name property found =
    found_name properties name property (refl, (refl, (refl, (refl, (refl, (refl, (refl, (refl, (refl, (refl, (refl, (refl, (refl, (refl, (refl, (refl, (refl, tt))))))))))))))))) found

number_is : (a b : Property) → number_of a ≡ number_of b → a ≡ b
number_is a b same =
    some_is a b (sym (numbered_again a) ∙ (ap (slice_get (map (λ (row : List ℕ × Property). row.1) properties)) same ∙ numbered_again b))

own_row : (found : Option Property) → option_map (λ (row : List ℕ × Property). row.1) (option_map (λ (property : Property). (name_of property, property)) found) ≡ found
own_row None = refl
own_row (Some property) = refl

-- the first property of a name among all is that of the table
pub first_of_table : (name : List ℕ) → property_named name ≡ first_named all_properties name
first_of_table name =
    ap (option_map (λ (row : List ℕ × Property). row.1)) (find-map (λ (row : List ℕ × Property). bytes_eq name row.0) (λ property. bytes_eq name (name_of property)) (λ property. (name_of property, property)) (λ property. refl) all_properties)
    ∙ own_row (first_named all_properties name)

-- Lines of a property

-- whether what was found is this property
abbrev pub is_property : Property → Option Property → Bool
is_property property None = false
is_property property (Some other) = number_of property == number_of other

abbrev pub is_of : Property → Line → Bool
is_of property line = is_property property (property_of line)

named_as : (name : List ℕ) (property : Property) (found : Option Property) → property_named name ≡ found → bytes_eq name (name_of property) ≡ is_property property found
named_as name property None is =
    alike (bytes_eq name (name_of property)) false
    (λ same. absurd (none-some property (sym is ∙ (ap property_named ((bytes_eq-Decides name (name_of property)).0 same) ∙ named_again property))))
    (λ never. absurd (false≢true never))
named_as name property (Some other) is =
    alike (bytes_eq name (name_of property)) (number_of property == number_of other)
    (λ same. let one = some_is property other (sym (named_again property) ∙ (ap property_named (sym ((bytes_eq-Decides name (name_of property)).0 same)) ∙ is)) in eq-eqb (number_of property) (number_of other) (ap number_of one))
    (λ same. (bytes_eq-Decides name (name_of property)).1 (name_is name other is ∙ ap name_of (sym (number_is property other (eqb-true (number_of property) (number_of other) same)))))

-- lines that have the name of a line of a property are those of the property
pub has_name-is_of : (line other : Line) (property : Property) → property_of line ≡ Some property → has_name line.name other ≡ is_of property other
has_name-is_of line other property is =
    ap (λ name. bytes_eq other.name name) (name_is line.name property is) ∙ named_as other.name property (property_of other) refl

-- The table

abbrev as_row : List ℕ × Property → List ℕ × (Line → Bool)
as_row row = (row.0, test_of row.1)

row_step : (row : List ℕ × Property) (rows : List (List ℕ × (Line → Bool))) (name : List ℕ) (found : Option (List ℕ × Property)) (b : Bool) →
    find (λ (one : List ℕ × (Line → Bool)). bytes_eq one.0 name) rows ≡ option_map as_row found →
    (if b then Some (as_row row) else find (λ (one : List ℕ × (Line → Bool)). bytes_eq one.0 name) rows) ≡ option_map as_row (if b then Some row else found)
row_step row rows name found true on = refl
row_step row rows name found false on = on

found_rows : (rows : List (List ℕ × Property)) (name : List ℕ) →
    find (λ (row : List ℕ × (Line → Bool)). bytes_eq row.0 name) (map as_row rows) ≡ option_map as_row (find (λ (row : List ℕ × Property). bytes_eq name row.0) rows)
found_rows [] name = refl
found_rows (row ∷ rows) name =
    ap (λ b. if b then Some (as_row row) else find (λ (one : List ℕ × (Line → Bool)). bytes_eq one.0 name) (map as_row rows)) (bytes_eq_sym row.0 name)
    ∙ row_step row (map as_row rows) name (find (λ (one : List ℕ × Property). bytes_eq name one.0) rows) (bytes_eq name row.0) (found_rows rows name)

-- the fault of a line by its row, and by its property
abbrev fault_by_row : List Line → ℕ → Line → Option (List ℕ × (Line → Bool)) → Bool
fault_by_row lines number line row = elim row [ None ↦ false | Some found ↦ cannot_stand lines number line found.1 ]

abbrev pub fault_by_property : List Line → ℕ → Line → Option Property → Bool
fault_by_property lines number line property = elim property [ None ↦ false | Some found ↦ cannot_stand lines number line (test_of found) ]

own_fault_of : (lines : List Line) (number : ℕ) (line : Line) (found : Option (List ℕ × Property)) →
    fault_by_row lines number line (option_map as_row found) ≡ fault_by_property lines number line (option_map (λ (row : List ℕ × Property). row.1) found)
own_fault_of lines number line None = refl
own_fault_of lines number line (Some row) = refl

-- a line's own fault by its property
pub has_own_fault-by_property : (lines : List Line) (number : ℕ) (line : Line) → has_own_fault lines number line ≡ fault_by_property lines number line (property_of line)
has_own_fault-by_property lines number line =
    ap (fault_by_row lines number line) (found_rows properties line.name)
    ∙ own_fault_of lines number line (find (λ (row : List ℕ × Property). bytes_eq line.name row.0) properties)

-- whether the name of a line of a property may stand again
pub may_repeat : (line : Line) (property : Property) → property_of line ≡ Some property → list_any (bytes_eq line.name) repeatable ≡ is_repeatable property
may_repeat line property is = ap (λ name. list_any (bytes_eq name) repeatable) (name_is line.name property is) ∙ repeatable_by_name property
