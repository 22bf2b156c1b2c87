-- A text is looked for by its name among settings that are kept in their order.
use Rattle.std.proofs.Common.{◌≡◌, ℕ, Bool, true, false, cond, List, [], ◌∷◌, Some, refl, ap, ◌∙◌}
use Rattle.std.specs.Prelude.{find, option_map, unwrap_or, bytes_eq, ◌&&◌}
use Rattle.std.specs.declared.cmp.Ordering.{Ordering}
use Rattle.std.specs.declared.cmp.Ordering.TheVariants.{Less, Equal, Greater}
use Rattle.std.specs.Ordering.{is_eq, ordering_then}
use Rattle.std.specs.BTreeMap.{is_at}
use Rattle.std.proofs.lemmas.Cmp.{nat_list_eq_equiv}
use Rattle.std.proofs.lemmas.Map.Text.{is_eq-slice_cmp}
use Rattle.cal_base.specs.Lists.NameMap.{name_order}
use Rattle.cal_model.specs.declared.property.PropName.{PropName}
use Rattle.cal_model.specs.declared.property.PropSet.{PropSet}
use Rattle.cal_model.specs.Access.Privileges.{same_name}
use Rattle.cal_model.specs.State.PropertyTexts.{Texts, prop_order, text_at, as_settings}
use Rattle.dav_props.specs.Subjects.{texts_of}

both_equal : (a b : Ordering) → is_eq (ordering_then a b) ≡ (is_eq a && is_eq b)
both_equal Less b = refl
both_equal Equal b = refl
both_equal Greater b = refl

symmetric : (a b : List ℕ) → bytes_eq a b ≡ bytes_eq b a
symmetric a b = nat_list_eq_equiv.symm a b

-- two names are at one place where they are the same
pub is_at-same_name : (name other : PropName) → is_at (prop_order name) other ≡ same_name other name
is_at-same_name name other =
    both_equal (name_order name.space other.space) (name_order name.name other.name)
    ∙ ap (λ b. b && is_eq (name_order name.name other.name)) (is_eq-slice_cmp name.space other.space ∙ symmetric name.space other.space)
    ∙ ap (λ b. bytes_eq other.space name.space && b) (is_eq-slice_cmp name.name other.name ∙ symmetric name.name other.name)

abbrev value_in : PropSet → List ℕ
value_in set = unwrap_or set.value []

pub text_found : (sets : List PropSet) (name : PropName) → text_at (texts_of sets) name ≡ option_map value_in (find (λ (set : PropSet). same_name set.name name) sets)
text_found [] name = refl
text_found (set ∷ sets) name =
    ap (λ test. cond test (Some (value_in set)) (text_at (texts_of sets) name)) (is_at-same_name name set.name) ∙ by (same_name set.name name) (text_found sets name) where
      by : (test : Bool) → text_at (texts_of sets) name ≡ option_map value_in (find (λ (set : PropSet). same_name set.name name) sets)
          → cond test (Some (value_in set)) (text_at (texts_of sets) name) ≡ option_map value_in (cond test (Some set) (find (λ (set : PropSet). same_name set.name name) sets))
      by true later = refl
      by false later = later

-- texts that were kept as settings
pub texts_back : (texts : Texts) → texts_of (as_settings texts) ≡ texts
texts_back [] = refl
texts_back (text ∷ texts) = ap (λ rest. text ∷ rest) (texts_back texts)
