-- Names are looked up by their keys, and each is kept at its first place.
use Rattle.std.proofs.Common.{◌≡◌, ℕ, Bool, true, false, cond, List, [], ◌∷◌, ◌++◌, filter, Some, refl, sym, ap, ap₂, ◌∙◌, append_assoc, suc, ◌+◌, ◌<◌, length, drop, get_or, add-one}
use Rattle.std.specs.Prelude.{◌&&◌, not, bytes_eq, nat_eq, is_some}
use Rattle.std.proofs.Math.Seq.{drop-cons}
use Rattle.std.proofs.lemmas.Cmp.{nat_list_eq_equiv}
use Rattle.std.proofs.lemmas.Slice.Eq.{bytes_eq-Decides}
use Rattle.cal_base.specs.Lists.NameMap.{Named, value_at, with_value}
use Rattle.cal_base.proofs.Lists.NameMapLemmas.{value_at_with}
use Rattle.cal_model.specs.declared.property.PropName.{PropName}
use Rattle.cal_model.specs.Access.Privileges.{same_name}
use Rattle.cal_model.specs.Properties.PropertyReplies.{once}
use Rattle.multistatus.specs.NameKeys.{marked, key}

and_assoc : (a b c : Bool) → (a && (b && c)) ≡ ((a && b) && c)
and_assoc true b c = refl
and_assoc false b c = refl

key_texts : (a b x y : List ℕ) → bytes_eq (marked a ++ 0 ∷ x) (marked b ++ 0 ∷ y) ≡ (bytes_eq a b && bytes_eq x y)
unfolding marked
key_texts [] [] x y = refl
key_texts [] (c ∷ b) x y = refl
key_texts (c ∷ a) [] x y = refl
key_texts (c ∷ a) (d ∷ b) x y = ap (λ rest. nat_eq c d && rest) (key_texts a b x y) ∙ and_assoc (nat_eq c d) (bytes_eq a b) (bytes_eq x y)

pub same_key : (a b : PropName) → bytes_eq (key a) (key b) ≡ same_name a b
same_key a b = key_texts a.space b.space a.name b.name

-- What is met

abbrev pub is_met : Named Bool → PropName → Bool
is_met met name = is_some (value_at met (key name))

abbrev is_new : Named Bool → PropName → Bool
is_new met name = not (is_met met name)

-- those of some names that were not met
abbrev pub unmet : Named Bool → List PropName → List PropName
unmet met names = filter (is_new met) names

bytes_eq_sym : (a b : List ℕ) → bytes_eq a b ≡ bytes_eq b a
bytes_eq_sym a b = nat_list_eq_equiv.symm a b

same_text : (a b : List ℕ) → bytes_eq a b ≡ true → a ≡ b
same_text a b same = (bytes_eq-Decides a b).0 same

module _ {X : Type 0} where
  keep_all : (p : X → Bool) → ((x : X) → p x ≡ true) → (xs : List X) → filter p xs ≡ xs
  keep_all p all [] = refl
  keep_all p all (x ∷ xs) = ap (λ b. cond b (x ∷ filter p xs) (filter p xs)) (all x) ∙ ap (λ rest. x ∷ rest) (keep_all p all xs)

  keep_both : (p q r : X → Bool) → ((x : X) → r x ≡ (q x && p x)) → (xs : List X) → filter p (filter q xs) ≡ filter r xs
  keep_both p q r both [] = refl
  keep_both p q r both (x ∷ xs) =
      by (q x) ∙ ap₂ (λ b rest. cond b (x ∷ rest) rest) (sym (both x)) (keep_both p q r both xs) where
        by : (a : Bool) → filter p (cond a (x ∷ filter q xs) (filter q xs)) ≡ cond (a && p x) (x ∷ filter p (filter q xs)) (filter p (filter q xs))
        by true = refl
        by false = refl

pub unmet_first : (names : List PropName) → unmet [] names ≡ names
unmet_first names = keep_all (is_new []) (λ name. refl) names

-- the names other than one
abbrev others : PropName → PropName → Bool
others name other = not (same_name name other)

-- a name that was met is passed over
pub unmet_again : (met : Named Bool) (name : PropName) (names : List PropName) → is_met met name ≡ true → unmet met (once (name ∷ names)) ≡ unmet met (once names)
unmet_again met name names again =
    ap (λ b. cond (not b) (name ∷ unmet met (filter (others name) (once names))) (unmet met (filter (others name) (once names)))) again
    ∙ keep_both (is_new met) (others name) (is_new met) both (once names) where
      by : (other : PropName) (same : Bool) → (same ≡ true → is_met met other ≡ true) → is_new met other ≡ (not same && is_new met other)
      by other true known = ap not (known refl)
      by other false known = refl

      both : (other : PropName) → is_new met other ≡ (others name other && is_new met other)
      both other =
          by other (same_name name other)
          (λ same. ap (λ text. is_some (value_at met text)) (sym (same_text (key name) (key other) (same_key name other ∙ same))) ∙ again)

-- a new name is kept, and met
pub unmet_new : (met : Named Bool) (name : PropName) (names : List PropName) → is_met met name ≡ false → unmet met (once (name ∷ names)) ≡ name ∷ unmet (with_value met (key name) true) (once names)
unmet_new met name names new =
    ap (λ b. cond (not b) (name ∷ unmet met (filter (others name) (once names))) (unmet met (filter (others name) (once names)))) new
    ∙ ap (λ rest. name ∷ rest) (keep_both (is_new met) (others name) (is_new (with_value met (key name) true)) both (once names)) where
      by : (same : Bool) (other : PropName) → not (is_some (cond same (Some true) (value_at met (key other)))) ≡ (not same && is_new met other)
      by true other = refl
      by false other = refl

      both : (other : PropName) → is_new (with_value met (key name) true) other ≡ (others name other && is_new met other)
      both other =
          ap (λ value. not (is_some value)) (value_at_with (key name) true (key other) met)
          ∙ ap (λ same. not (is_some (cond same (Some true) (value_at met (key other))))) (bytes_eq_sym (key other) (key name) ∙ same_key name other)
          ∙ by (same_name name other) other

-- one name more: with those to come, the list holds the same
pub names_step : (list after : List PropName) (met seen : Named Bool) (name : PropName) (names : List PropName) → seen ≡ cond (is_met met name) met (with_value met (key name) true) → after ≡ cond (is_met met name) list (list ++ name ∷ [])
    → after ++ unmet seen (once names) ≡ list ++ unmet met (once (name ∷ names))
names_step list after met seen name names seen_is after_is = by (is_met met name) refl seen_is after_is where
  by : (test : Bool) → is_met met name ≡ test → seen ≡ cond test met (with_value met (key name) true) → after ≡ cond test list (list ++ name ∷ []) → after ++ unmet seen (once names) ≡ list ++ unmet met (once (name ∷ names))
  by true is seen_is after_is = ap₂ (λ front known. front ++ unmet known (once names)) after_is seen_is ∙ ap (λ rest. list ++ rest) (sym (unmet_again met name names is))
  by false is seen_is after_is =
      ap₂ (λ front known. front ++ unmet known (once names)) after_is seen_is
      ∙ append_assoc list (name ∷ []) (unmet (with_value met (key name) true) (once names))
      ∙ ap (λ rest. list ++ rest) (sym (unmet_new met name names is))

pub names_behind : (names : List PropName) (place : ℕ) (name : PropName) → place < length names → name ≡ get_or names place name → name ∷ drop (place + 1) names ≡ drop place names
names_behind names place name within here =
    sym (drop-cons names place name within ∙ ap (λ first. first ∷ drop (suc place) names) (sym here) ∙ ap (λ n. name ∷ drop n names) (sym (add-one place)))
