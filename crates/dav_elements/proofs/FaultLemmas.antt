-- What is wrong with a filter, gone over once, against the tests that the definition makes of all elements of a kind.
use Rattle.std.proofs.Common.{◌≡◌, ℕ, zero, suc, ◌-◌, Bool, true, false, not, ◌&&◌, ◌||◌, List, [], ◌∷◌, ◌++◌, refl, sym, ap, ◌∙◌, arith}
use Rattle.std.specs.Prelude.{filter, flat_map, bytes_eq, codes}
use Rattle.std.specs.List.{list_any}
use Rattle.std.proofs.lemmas.List.Folds.{list_any-append}
use Rattle.cal_base.specs.declared.element.Element.{Element}
use Rattle.cal_base.specs.Xml.XmlFaults.{greatest_depth}
use Rattle.cal_model.specs.Words.Lists.{is_empty}
use Rattle.cal_model.specs.Bodies.ElementParts.{lacks_name, name_of, each, only, has, nested_to}
use Rattle.cal_model.specs.Bodies.RangeElements.{is_bad_range}
use Rattle.cal_model.specs.Bodies.FilterElements.{is_absent, is_named_in, ranged_components, dated_properties, has_other_collation, is_crowded_comp, is_crowded_prop, is_crowded_param, has_range_without_time, is_unsupported_filter, is_invalid_filter, has_nameless_filter, is_time, prop_tests, prop_filters, filter_texts}
use Rattle.cal_model.proofs.Words.ListTests.{any_agree_all, any_filter}
use Rattle.dav_elements.specs.declared.filter_faults.FilterFaults.{FilterFaults}
use Rattle.dav_elements.specs.FilterFaults.{no_fault, either, each_fault, param_faults, own_prop_faults, prop_test_faults, prop_faults, own_comp_faults, comp_faults_to, top_faults}
use Rattle.dav_elements.proofs.AnyLemmas.{or_assoc, or_false, any_never, any_or, any_flat, any_within}
use Rattle.dav_elements.proofs.FirstLemmas.{some_from_first, none_from_first}
use Rattle.dav_elements.proofs.ListSteps.{More}

-- Faults side by side

either_assoc : (a b c : FilterFaults) → either (either a b) c ≡ either a (either b c)
either_assoc a b c = λ i. record {
  nameless = or_assoc a.nameless b.nameless c.nameless i;
  invalid = or_assoc a.invalid b.invalid c.invalid i;
  unsupported = or_assoc a.unsupported b.unsupported c.unsupported i;
  collation = or_assoc a.collation b.collation c.collation i;
}

either_none : (a : FilterFaults) → either a no_fault ≡ a
either_none a = λ i. record {
  nameless = or_false a.nameless i;
  invalid = or_false a.invalid i;
  unsupported = or_false a.unsupported i;
  collation = or_false a.collation i;
}

each_fault-append : (faults : Element → FilterFaults) (xs ys : List Element) → each_fault faults (xs ++ ys) ≡ either (each_fault faults xs) (each_fault faults ys)
each_fault-append faults [] ys = refl
each_fault-append faults (x ∷ xs) ys = ap (either (faults x)) (each_fault-append faults xs ys) ∙ sym (either_assoc (faults x) (each_fault faults xs) (each_fault faults ys))

-- those of one filter, and of none
pub each_one : (faults : Element → FilterFaults) (one : Element) (xs : List Element) → (one ∷ []) ≡ xs → each_fault faults xs ≡ faults one
each_one faults one xs e = ap (each_fault faults) (sym e) ∙ either_none (faults one)

pub each_none : (faults : Element → FilterFaults) (xs : List Element) → [] ≡ xs → each_fault faults xs ≡ record { nameless = false; invalid = false; unsupported = false; collation = false }
each_none faults xs e = ap (each_fault faults) (sym e)

-- with those of one item more
pub faults_more : (faults : Element → FilterFaults) {before piece after : List Element} {old these new : FilterFaults} → More before piece after → old ≡ each_fault faults before → these ≡ each_fault faults piece → new ≡ either old these
    → new ≡ each_fault faults after
faults_more faults {before} {piece} {after} {old} {these} {new} more so_far here now =
    now ∙ (λ i. either (so_far i) (here i)) ∙ sym (each_fault-append faults before piece) ∙ ap (each_fault faults) (sym more.is)

-- a comp-filter above the depth where nothing is looked at
pub comp_faults_at : (depth : ℕ) (element : Element) → (depth ≡ 0 → ⊥)
    → comp_faults_to depth element
    ≡ either (own_comp_faults element)
    (either (each_fault prop_faults (each (codes "prop-filter") element)) (each_fault (comp_faults_to (depth - 1)) (each (codes "comp-filter") element)))
comp_faults_at zero element some = absurd (some refl)
comp_faults_at (suc depth) element some =
    let less : depth ≡ suc depth - 1 = omega arith in
    ap (λ d. either (own_comp_faults element) (either (each_fault prop_faults (each (codes "prop-filter") element)) (each_fault (comp_faults_to d) (each (codes "comp-filter") element)))) less

-- What a filter has by itself

abbrev faults_of : Bool → Bool → Bool → Bool → FilterFaults
faults_of nameless invalid unsupported collation = record { nameless = nameless; invalid = invalid; unsupported = unsupported; collation = collation }

and_some : (a b : Bool) → b ≡ true → a ≡ (a && b)
and_some true b e = sym e
and_some false b e = refl

and_none : (a b : Bool) → b ≡ false → false ≡ (a && b)
and_none true b e = sym e
and_none false b e = refl

-- a prop-filter of a property that has a date, or has none, with these tests
abbrev test_faults : Bool → List Element → FilterFaults
test_faults dated tests =
    faults_of false (list_any (λ test. is_time test && is_bad_range test) tests) (list_any is_time tests && not dated) (list_any (λ test. not (is_time test) && has_other_collation test) tests)

time_faults : (dated time bad other : Bool) → time ≡ true → faults_of false bad (not dated) false ≡ faults_of false ((time && bad) || false) ((time || false) && not dated) ((not time && other) || false)
time_faults dated true bad other e = λ i. faults_of false (sym (or_false bad) i) (not dated) false
time_faults dated false bad other e = absurd cc

text_faults : (dated time bad other : Bool) → time ≡ false → faults_of false false false other ≡ faults_of false ((time && bad) || false) ((time || false) && not dated) ((not time && other) || false)
text_faults dated false bad other e = λ i. faults_of false false false (sym (or_false other) i)
text_faults dated true bad other e = absurd cc

pub prop_test_time : (filter test : Element) → (test ∷ []) ≡ prop_tests filter → is_time test ≡ true
    → prop_test_faults filter ≡ record { nameless = false; invalid = is_bad_range test; unsupported = not (is_named_in dated_properties filter); collation = false }
unfolding prop_test_faults
prop_test_time filter test one time =
    let dated = is_named_in dated_properties filter in
    sym (time_faults dated (is_time test) (is_bad_range test) (has_other_collation test) time ∙ ap (test_faults dated) one)

pub prop_test_text : (filter test : Element) → (test ∷ []) ≡ prop_tests filter → is_time test ≡ false
    → prop_test_faults filter ≡ record { nameless = false; invalid = false; unsupported = false; collation = has_other_collation test }
unfolding prop_test_faults
prop_test_text filter test one text =
    let dated = is_named_in dated_properties filter in
    sym (text_faults dated (is_time test) (is_bad_range test) (has_other_collation test) text ∙ ap (test_faults dated) one)

pub prop_test_none : (filter : Element) → [] ≡ prop_tests filter → prop_test_faults filter ≡ record { nameless = false; invalid = false; unsupported = false; collation = false }
unfolding prop_test_faults
prop_test_none filter none = sym (ap (test_faults (is_named_in dated_properties filter)) none)

pub param_one : (filter text : Element) → (text ∷ []) ≡ only (codes "text-match") filter
    → param_faults filter ≡ record { nameless = lacks_name filter; invalid = is_absent filter; unsupported = false; collation = has_other_collation text }
unfolding param_faults
param_one filter text one =
    let crowded = and_some (is_absent filter) (has (codes "text-match") filter) (some_from_first text (each (codes "text-match") filter) one) in
    let texts = sym (or_false (has_other_collation text)) ∙ ap (list_any has_other_collation) one in
    λ i. faults_of (lacks_name filter) (sym crowded i) false (sym texts i)

pub param_none : (filter : Element) → [] ≡ only (codes "text-match") filter
    → param_faults filter ≡ record { nameless = lacks_name filter; invalid = false; unsupported = false; collation = false }
unfolding param_faults
param_none filter none =
    let crowded = and_none (is_absent filter) (has (codes "text-match") filter) (ap (λ those. not (is_empty those)) (none_from_first (each (codes "text-match") filter) none)) in
    let texts = ap (list_any has_other_collation) none in
    λ i. faults_of (lacks_name filter) (sym crowded i) false (sym texts i)

pub range_one : (filter range : Element) → (range ∷ []) ≡ only (codes "time-range") filter
    → (is_bad_range range || not (is_named_in ranged_components filter)) ≡ (list_any is_bad_range (only (codes "time-range") filter) || has_range_without_time filter)
range_one filter range one =
    let bad = sym (or_false (is_bad_range range)) ∙ ap (list_any is_bad_range) one in
    let untimed = ap (λ b. b && not (is_named_in ranged_components filter)) (sym (some_from_first range (each (codes "time-range") filter) one)) in
    λ i. bad i || untimed i

pub range_none : (filter : Element) → [] ≡ only (codes "time-range") filter → false ≡ (list_any is_bad_range (only (codes "time-range") filter) || has_range_without_time filter)
range_none filter none =
    let bad = ap (list_any is_bad_range) none in
    let untimed = ap (λ those. not (is_empty those) && not (is_named_in ranged_components filter)) (sym (none_from_first (each (codes "time-range") filter) none)) in
    λ i. bad i || untimed i

-- One kind of fault

record IsKind (kind : FilterFaults → Bool) : Type 0 where
  none : kind no_fault ≡ false
  both : (one other : FilterFaults) → kind (either one other) ≡ (kind one || kind other)

kind_each : (kind : FilterFaults → Bool) → IsKind kind → (faults : Element → FilterFaults) (xs : List Element) → kind (each_fault faults xs) ≡ list_any (λ x. kind (faults x)) xs
kind_each kind is faults [] = is.none
kind_each kind is faults (x ∷ xs) = is.both (faults x) (each_fault faults xs) ∙ ap (λ t. kind (faults x) || t) (kind_each kind is faults xs)

-- in a prop-filter, aside from its param-filters
abbrev of_prop : (FilterFaults → Bool) → Element → Bool
of_prop kind filter = kind (own_prop_faults filter) || kind (prop_test_faults filter)

kind_prop : (kind : FilterFaults → Bool) → IsKind kind → (prop : Element) → kind (prop_faults prop) ≡ (of_prop kind prop || list_any (λ param. kind (param_faults param)) (each (codes "param-filter") prop))
kind_prop kind is prop =
    let params = each_fault param_faults (each (codes "param-filter") prop) in
    is.both (own_prop_faults prop) (either (prop_test_faults prop) params)
    ∙ ap (λ t. kind (own_prop_faults prop) || t) (is.both (prop_test_faults prop) params ∙ ap (λ t. kind (prop_test_faults prop) || t) (kind_each kind is param_faults (each (codes "param-filter") prop)))
    ∙ sym (or_assoc (kind (own_prop_faults prop)) (kind (prop_test_faults prop)) (list_any (λ param. kind (param_faults param)) (each (codes "param-filter") prop)))

-- in a comp-filter, aside from the comp-filters in it
abbrev of_comp : (FilterFaults → Bool) → Element → Bool
of_comp kind filter = kind (own_comp_faults filter) || list_any (λ prop. kind (prop_faults prop)) (each (codes "prop-filter") filter)

kind_comp : (kind : FilterFaults → Bool) → IsKind kind → (depth : ℕ) (comp : Element) → kind (comp_faults_to depth comp) ≡ list_any (of_comp kind) (nested_to depth (each (codes "comp-filter")) comp)
kind_comp kind is zero comp = is.none
kind_comp kind is (suc depth) comp =
    let props = each_fault prop_faults (each (codes "prop-filter") comp) in
    let comps = each_fault (comp_faults_to depth) (each (codes "comp-filter") comp) in
    let inner = nested_to depth (each (codes "comp-filter")) in
    is.both (own_comp_faults comp) (either props comps)
    ∙ ap (λ t. kind (own_comp_faults comp) || t) (is.both props comps)
    ∙ ap (λ t. kind (own_comp_faults comp) || (t || kind comps)) (kind_each kind is prop_faults (each (codes "prop-filter") comp))
    ∙ sym (or_assoc (kind (own_comp_faults comp)) (list_any (λ prop. kind (prop_faults prop)) (each (codes "prop-filter") comp)) (kind comps))
    ∙ ap (λ t. of_comp kind comp || t) (
    kind_each kind is (comp_faults_to depth) (each (codes "comp-filter") comp)
    ∙ any_agree_all (λ x. kind (comp_faults_to depth x)) (λ x. list_any (of_comp kind) (inner x)) (kind_comp kind is depth) (each (codes "comp-filter") comp)
    ∙ sym (any_flat (of_comp kind) inner (each (codes "comp-filter") comp))
    )

-- in a comp-filter and all within it
kind_all : (kind : FilterFaults → Bool) → IsKind kind → (depth : ℕ) (top : Element) →
    let comps = nested_to depth (each (codes "comp-filter")) top in
    let props = flat_map (each (codes "prop-filter")) comps in
    let params = flat_map (each (codes "param-filter")) props in
    kind (comp_faults_to depth top) ≡ (list_any (λ comp. kind (own_comp_faults comp)) comps || (list_any (of_prop kind) props || list_any (λ param. kind (param_faults param)) params))
kind_all kind is depth top =
    let comps = nested_to depth (each (codes "comp-filter")) top in
    let props = flat_map (each (codes "prop-filter")) comps in
    let of_param : Element → Bool = λ param. kind (param_faults param) in
    kind_comp kind is depth top
    ∙ any_within (λ comp. kind (own_comp_faults comp)) (λ prop. kind (prop_faults prop)) (each (codes "prop-filter")) comps
    ∙ ap (λ t. list_any (λ comp. kind (own_comp_faults comp)) comps || t) (
    any_agree_all (λ prop. kind (prop_faults prop)) (λ prop. of_prop kind prop || list_any of_param (each (codes "param-filter") prop)) (kind_prop kind is) props
    ∙ any_within (of_prop kind) of_param (each (codes "param-filter")) props
    )

-- The four kinds

nameless_all : (depth : ℕ) (top : Element) →
    let comps = nested_to depth (each (codes "comp-filter")) top in
    let props = flat_map (each (codes "prop-filter")) comps in
    let params = flat_map (each (codes "param-filter")) props in
    (comp_faults_to depth top).nameless ≡ list_any lacks_name (comps ++ props ++ params)
unfolding own_comp_faults prop_test_faults param_faults
nameless_all depth top =
    let comps = nested_to depth (each (codes "comp-filter")) top in
    let props = flat_map (each (codes "prop-filter")) comps in
    let params = flat_map (each (codes "param-filter")) props in
    kind_all (λ f. f.nameless) (record { none = refl; both = λ one other. refl }) depth top
    ∙ ap (λ t. list_any lacks_name comps || (t || list_any lacks_name params)) (any_agree_all (λ prop. lacks_name prop || false) lacks_name (λ prop. or_false (lacks_name prop)) props)
    ∙ sym (or_assoc (list_any lacks_name comps) (list_any lacks_name props) (list_any lacks_name params))
    ∙ ap (λ t. t || list_any lacks_name params) (sym (list_any-append lacks_name comps props))
    ∙ sym (list_any-append lacks_name (comps ++ props) params)

unsupported_all : (depth : ℕ) (top : Element) →
    let comps = nested_to depth (each (codes "comp-filter")) top in
    (comp_faults_to depth top).unsupported ≡ list_any is_unsupported_filter (flat_map (each (codes "prop-filter")) comps)
unfolding own_comp_faults prop_test_faults param_faults
unsupported_all depth top =
    let comps = nested_to depth (each (codes "comp-filter")) top in
    let props = flat_map (each (codes "prop-filter")) comps in
    let params = flat_map (each (codes "param-filter")) props in
    kind_all (λ f. f.unsupported) (record { none = refl; both = λ one other. refl }) depth top
    ∙ ap (λ t. t || (list_any is_unsupported_filter props || list_any (λ param. false) params)) (any_never comps)
    ∙ ap (λ t. list_any is_unsupported_filter props || t) (any_never params)
    ∙ or_false (list_any is_unsupported_filter props)

-- a text-match with a collation that is not known
abbrev other_text : Element → Bool
other_text test = not (is_time test) && has_other_collation test

collation_all : (depth : ℕ) (top : Element) →
    let comps = nested_to depth (each (codes "comp-filter")) top in
    let props = flat_map (each (codes "prop-filter")) comps in
    let params = flat_map (each (codes "param-filter")) props in
    (comp_faults_to depth top).collation
    ≡ list_any has_other_collation (filter (λ test. not (is_time test)) (flat_map prop_tests props) ++ flat_map (only (codes "text-match")) params)
unfolding own_comp_faults prop_test_faults param_faults
collation_all depth top =
    let comps = nested_to depth (each (codes "comp-filter")) top in
    let props = flat_map (each (codes "prop-filter")) comps in
    let params = flat_map (each (codes "param-filter")) props in
    let of_param : Element → Bool = λ param. list_any has_other_collation (only (codes "text-match") param) in
    kind_all (λ f. f.collation) (record { none = refl; both = λ one other. refl }) depth top
    ∙ ap (λ t. t || (list_any (λ prop. list_any other_text (prop_tests prop)) props || list_any of_param params)) (any_never comps)
    ∙ ap (λ t. t || list_any of_param params) (sym (any_filter has_other_collation (λ test. not (is_time test)) (flat_map prop_tests props) ∙ any_flat other_text prop_tests props))
    ∙ ap (λ t. list_any has_other_collation (filter (λ test. not (is_time test)) (flat_map prop_tests props)) || t) (sym (any_flat has_other_collation (only (codes "text-match")) params))
    ∙ sym (list_any-append has_other_collation (filter (λ test. not (is_time test)) (flat_map prop_tests props)) (flat_map (only (codes "text-match")) params))

-- a time-range that is none
abbrev bad_time : Element → Bool
bad_time test = is_time test && is_bad_range test

seven : (a b c d e f g : Bool) → (a || (((b || c) || d) || ((e || f) || g))) ≡ (((((a || (b || f)) || c) || d) || e) || g)
seven true b c d e f g = refl
seven false true c d e f g = refl
seven false false true d e true g = refl
seven false false true d e false g = refl
seven false false false true e true g = refl
seven false false false true e false g = refl
seven false false false false true true g = refl
seven false false false false true false g = refl
seven false false false false false true g = refl
seven false false false false false false g = refl

invalid_all : (bad_top : Bool) (depth : ℕ) (top : Element) →
    let comps = nested_to depth (each (codes "comp-filter")) top in
    let props = flat_map (each (codes "prop-filter")) comps in
    let params = flat_map (each (codes "param-filter")) props in
    (bad_top || (comp_faults_to depth top).invalid)
    ≡ (bad_top
    || list_any is_bad_range (flat_map (only (codes "time-range")) comps ++ filter is_time (flat_map prop_tests props))
    || list_any has_range_without_time comps
    || list_any is_crowded_comp comps
    || list_any is_crowded_prop props
    || list_any is_crowded_param params)
unfolding own_comp_faults prop_test_faults param_faults
invalid_all bad_top depth top =
    let comps = nested_to depth (each (codes "comp-filter")) top in
    let props = flat_map (each (codes "prop-filter")) comps in
    let params = flat_map (each (codes "param-filter")) props in
    let own_range : Element → Bool = λ comp. list_any is_bad_range (only (codes "time-range") comp) in
    let test_range : Element → Bool = λ prop. list_any bad_time (prop_tests prop) in
    let crowded = list_any is_crowded_param params in
    ap (λ t. bad_top || t) (
    kind_all (λ f. f.invalid) (record { none = refl; both = λ one other. refl }) depth top
    ∙ ap (λ t. t || (list_any (λ prop. is_crowded_prop prop || test_range prop) props || crowded)) (
    any_or (λ comp. own_range comp || has_range_without_time comp) is_crowded_comp comps
    ∙ ap (λ t. t || list_any is_crowded_comp comps) (any_or own_range has_range_without_time comps)
    )
    ∙ ap (λ t. ((list_any own_range comps || list_any has_range_without_time comps) || list_any is_crowded_comp comps) || (t || crowded)) (any_or is_crowded_prop test_range props)
    )
    ∙ seven bad_top (list_any own_range comps) (list_any has_range_without_time comps) (list_any is_crowded_comp comps) (list_any is_crowded_prop props) (list_any test_range props) crowded
    ∙ ap (λ t. (((((bad_top || t) || list_any has_range_without_time comps) || list_any is_crowded_comp comps) || list_any is_crowded_prop props) || crowded)) (
    (λ i. sym (any_flat is_bad_range (only (codes "time-range")) comps) i || sym (any_filter is_bad_range is_time (flat_map prop_tests props) ∙ any_flat bad_time prop_tests props) i)
    ∙ sym (list_any-append is_bad_range (flat_map (only (codes "time-range")) comps) (filter is_time (flat_map prop_tests props)))
    )

-- An outermost filter

pub top_nameless : (top : Element) → (top_faults top).nameless ≡ has_nameless_filter top
top_nameless top = nameless_all greatest_depth top

pub top_unsupported : (top : Element) → (top_faults top).unsupported ≡ list_any is_unsupported_filter (prop_filters top)
top_unsupported top = unsupported_all greatest_depth top

pub top_collation : (top : Element) → (top_faults top).collation ≡ list_any has_other_collation (filter_texts top)
top_collation top = collation_all greatest_depth top

pub top_invalid : (top : Element) → (top_faults top).invalid ≡ is_invalid_filter top
top_invalid top = invalid_all (not (bytes_eq (name_of top) (codes "VCALENDAR"))) greatest_depth top
