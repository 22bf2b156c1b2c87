-- What is found in an ordered map with a new pair, name by name.
use Rattle.std.proofs.Common.{◌≡◌, ℕ, Bool, true, false, if◌then◌else◌, List, [], ◌∷◌, bytes_eq, Option, Some, None, refl, sym, ap, subst, ◌∙◌, inl, inr}
use Rattle.std.specs.declared.cmp.Ordering.{Ordering}
use Rattle.std.specs.declared.cmp.Ordering.TheVariants.{Less, Equal, Greater}
use Rattle.std.specs.Ordering.{is_eq, ordering_reverse, match_ordering}
use Rattle.std.specs.BTreeMap.{is_at}
use Rattle.std.proofs.lemmas.Bool.{cases_Bool, false≢true, cond-false}
use Rattle.std.proofs.lemmas.Cmp.{nat_list_cmp_total}
use Rattle.std.proofs.lemmas.Map.Lookups.{exact_bytes}
use Rattle.cal_base.specs.Lists.NameMap.{Named, name_order, value_at, with_value, without}
use Rattle.cal_model.proofs.Values.CutLemmas.{same_text, is_same_text}

equal_is : (r : Ordering) → is_eq r ≡ true → r ≡ Equal
equal_is Less e = absurd (cc)
equal_is Equal e = refl
equal_is Greater e = absurd (cc)

self_equal : (r : Ordering) → r ≡ ordering_reverse r → r ≡ Equal
self_equal Less e = absurd (cc)
self_equal Equal e = refl
self_equal Greater e = absurd (cc)

order_same : (name : List ℕ) → name_order name name ≡ Equal
order_same name = self_equal (name_order name name) (nat_list_cmp_total.antisymm name name)

-- names are equal in the map's order where they are octet by octet
same_name : (q k : List ℕ) → is_at (name_order q) k ≡ bytes_eq q k
same_name q k =
    elim (cases_Bool (is_at (name_order q) k)) [
      | inl here ↦ (let same : q ≡ k = exact_bytes q k (equal_is (name_order q k) here) in
          here ∙ sym (subst (λ (n : List ℕ). bytes_eq q n ≡ true) same (same_text q)))
      | inr apart ↦ elim (cases_Bool (bytes_eq q k)) [
        | inl here ↦ (let same : q ≡ k = is_same_text q k here in
            absurd (false≢true (sym apart ∙ subst (λ (n : List ℕ). is_at (name_order q) n ≡ true) same (ap is_eq (order_same q)))))
        | inr other ↦ apart ∙ sym other
      ]
    ]

-- what is found with a new pair
module _ {V : Type 0} (q k : List ℕ) (v : V) where
  abbrev wanted : Option V → Option V
  wanted later = if bytes_eq q k then Some v else later

  abbrev at_pair : Bool → V → Option V → Option V
  at_pair here n later = if here then Some n else later

  by_order : (e : List ℕ × V) (es : Named V) (r : Ordering) → name_order k e.0 ≡ r → value_at (with_value es k v) q ≡ wanted (value_at es q) → value_at (match_ordering r ((k, v) ∷ e ∷ es) ((e.0, v) ∷ es) (e ∷ with_value es k v)) q ≡ wanted (value_at (e ∷ es) q)
  by_order e es Less is later = ap (λ b. at_pair b v (value_at (e ∷ es) q)) (same_name q k)
  by_order e es Equal is later =
      let here : is_at (name_order q) e.0 ≡ bytes_eq q k = same_name q e.0 ∙ ap (bytes_eq q) (sym (exact_bytes k e.0 is)) in
      elim (cases_Bool (bytes_eq q k)) [
        | inl same ↦ ap (λ b. at_pair b v (value_at es q)) (here ∙ same) ∙ sym (ap (λ b. at_pair b v (value_at (e ∷ es) q)) same)
        | inr other ↦ ap (λ b. at_pair b v (value_at es q)) (here ∙ other) ∙ sym (ap (λ b. at_pair b v (value_at (e ∷ es) q)) other ∙ ap (λ b. at_pair b e.1 (value_at es q)) (here ∙ other))
      ]
  by_order e es Greater is later =
      elim (cases_Bool (bytes_eq q k)) [
        | inl same ↦ (let here : is_at (name_order q) e.0 ≡ false = subst (λ (n : List ℕ). is_at (name_order n) e.0 ≡ false) (sym (is_same_text q k same)) (ap is_eq is) in
            ap (λ b. at_pair b e.1 (value_at (with_value es k v) q)) here ∙ (later ∙ (ap (λ b. at_pair b v (value_at es q)) same ∙ sym (ap (λ b. at_pair b v (value_at (e ∷ es) q)) same))))
        | inr other ↦ ap (at_pair (is_at (name_order q) e.0) e.1) (later ∙ ap (λ b. at_pair b v (value_at es q)) other) ∙ sym (ap (λ b. at_pair b v (value_at (e ∷ es) q)) other)
      ]

  pub value_at-with_value : (es : Named V) → value_at (with_value es k v) q ≡ wanted (value_at es q)
  value_at-with_value [] = ap (λ b. at_pair b v None) (same_name q k)
  value_at-with_value (e ∷ es) = by_order e es (name_order k e.0) refl (value_at-with_value es)

-- without a pair the others are found as before
pub value_at-without : {V : Type 0} (q k : List ℕ) → bytes_eq q k ≡ false → (es : Named V) → value_at (without es k) q ≡ value_at es q
value_at-without q k other [] = refl
value_at-without {V} q k other (e ∷ es) =
    let found : Bool → Named V → Option V = λ here rest. value_at (if here then es else e ∷ rest) q in
    elim (cases_Bool (is_at (name_order k) e.0)) [
      | inl here ↦ (let same : k ≡ e.0 = exact_bytes k e.0 (equal_is (name_order k e.0) here) in
          let apart : is_at (name_order q) e.0 ≡ false = same_name q e.0 ∙ ap (bytes_eq q) (sym same) ∙ other in
          ap (λ b. found b (without es k)) here ∙ sym (cond-false (is_at (name_order q) e.0) (Some e.1) (value_at es q) apart))
      | inr later ↦ ap (λ b. found b (without es k)) later ∙ ap (λ rest. if is_at (name_order q) e.0 then Some e.1 else rest) (value_at-without q k other es)
    ]

pub flipped : (a b : List ℕ) → bytes_eq a b ≡ bytes_eq b a
flipped a b =
    elim (cases_Bool (bytes_eq a b)) [
      | inl same ↦ same ∙ sym (subst (λ (t : List ℕ). bytes_eq t a ≡ true) (is_same_text a b same) (same_text a))
      | inr other ↦ elim (cases_Bool (bytes_eq b a)) [
        | inl same ↦ absurd (false≢true (sym other ∙ subst (λ (t : List ℕ). bytes_eq t b ≡ true) (is_same_text b a same) (same_text b)))
        | inr none ↦ other ∙ sym none
      ]
    ]
