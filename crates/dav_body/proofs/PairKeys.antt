-- Pairs of texts that stand twice, told by their keys.
use Rattle.std.proofs.Common.{◌≡◌, ℕ, Bool, true, false, List, [], ◌∷◌, ◌++◌, map, refl, sym, ap, ap₂, ◌∙◌, append_assoc}
use Rattle.std.specs.Prelude.{◌&&◌, ◌||◌, nat_eq}
use Rattle.std.specs.List.{list_any}
use Rattle.std.specs.Str.{bytes_eq}
use Rattle.cal_base.specs.declared.element.Attr.{Attr}
use Rattle.cal_base.specs.Xml.XmlMarkup.{WrittenAttribute}
use Rattle.cal_base.specs.Xml.XmlScopes.{has_repeat, is_same_written, is_same_attribute}
use Rattle.dav_body.specs.Pairs.{pair_key, written_key, attribute_key}

-- The key, octet by octet

pub key_step : (key first second all : List ℕ) (octet : ℕ) → key ++ pair_key (octet ∷ first) second ≡ all → ((key ++ 1 ∷ []) ++ octet ∷ []) ++ pair_key first second ≡ all
key_step key first second all octet before = append_assoc (key ++ 1 ∷ []) (octet ∷ []) (pair_key first second) ∙ append_assoc key (1 ∷ []) (octet ∷ pair_key first second) ∙ before

pub key_end : (key second all : List ℕ) → key ++ pair_key [] second ≡ all → (key ++ 0 ∷ []) ++ second ≡ all
key_end key second all before = append_assoc key (0 ∷ []) second ∙ before

-- Two keys are the same exactly where both texts are

and_assoc : (a b c : Bool) → ((a && b) && c) ≡ (a && (b && c))
and_assoc true b c = refl
and_assoc false b c = refl

and_comm : (a b : Bool) → (a && b) ≡ (b && a)
and_comm true true = refl
and_comm true false = refl
and_comm false true = refl
and_comm false false = refl

pub same_keys : (one other second another : List ℕ) → bytes_eq (pair_key one second) (pair_key other another) ≡ (bytes_eq one other && bytes_eq second another)
same_keys [] [] second another = refl
same_keys [] (octet ∷ other) second another = refl
same_keys (octet ∷ one) [] second another = refl
same_keys (octet ∷ one) (next ∷ other) second another =
    ap (λ b. nat_eq octet next && b) (same_keys one other second another) ∙ sym (and_assoc (nat_eq octet next) (bytes_eq one other) (bytes_eq second another))

-- Repeats by keys

module _ {X : Type 0} (key : X → List ℕ) (alike : X → X → Bool) (told : (one other : X) → bytes_eq (key one) (key other) ≡ alike one other) where
  any_of_keys : (one : X) (all : List X) → list_any (bytes_eq (key one)) (map key all) ≡ list_any (alike one) all
  any_of_keys one [] = refl
  any_of_keys one (other ∷ all) = ap₂ (λ a b. a || b) (told one other) (any_of_keys one all)

  pub repeats_of_keys : (all : List X) → has_repeat bytes_eq (map key all) ≡ has_repeat alike all
  repeats_of_keys [] = refl
  repeats_of_keys (one ∷ all) = ap₂ (λ a b. a || b) (any_of_keys one all) (repeats_of_keys all)

pub written_repeats : (attributes : List WrittenAttribute) → has_repeat bytes_eq (map written_key attributes) ≡ has_repeat is_same_written attributes
written_repeats = repeats_of_keys written_key is_same_written (λ one other. same_keys one.name.prefix other.name.prefix one.name.local other.name.local)

pub named_repeats : (attrs : List Attr) → has_repeat bytes_eq (map attribute_key attrs) ≡ has_repeat is_same_attribute attrs
named_repeats = repeats_of_keys attribute_key is_same_attribute (λ one other.
    same_keys one.name other.name one.space other.space ∙ and_comm (bytes_eq one.name other.name) (bytes_eq one.space other.space))
