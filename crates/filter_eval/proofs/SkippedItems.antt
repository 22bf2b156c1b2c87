-- Lists that are walked by the places of the items with one key: what is skipped, what is met and what is left.
use Rattle.std.proofs.Common.{◌≡◌, ℕ, ◌+◌, ◌<◌, zero, suc, Bool, true, false, ◌&&◌, ◌||◌, cond, List, [], ◌∷◌, length, drop, get_or, map, refl, sym, ap, ◌∙◌, subst, arith, Some, None}
use Rattle.std.specs.Prelude.{◌==◌, filter}
use Rattle.std.specs.List.{list_any, slice_get}
use Rattle.std.proofs.lemmas.Bool.{ne_eqb}
use Rattle.std.proofs.lemmas.List.{length-map}
use Rattle.std.proofs.lemmas.Option.{slice_get_within}
use Rattle.cal_model.specs.declared.object.Component.{Component}
use Rattle.cal_model.specs.Instances.Rows.{Numbered, numbered_from}
use Rattle.filter_eval.specs.Links.{IsNext}
use Rattle.filter_eval.specs.Places.{component_keys}

-- the items with a key from one place on are those from the next place of that key on

abbrev pub has_key : {X : Type 0} → (X → ℕ) → ℕ → X → Bool
has_key key_of key x = key_of x == key

not_kept : {X : Type 0} (b : Bool) (x : X) (xs : List X) → b ≡ false → cond b (x ∷ xs) xs ≡ xs
not_kept b x xs none = ap (λ (b : Bool). cond b (x ∷ xs) xs) none

inner_next : (k : ℕ) (keys : List ℕ) (key from at : ℕ) → IsNext (k ∷ keys) key (suc from) (suc at) → IsNext keys key from at
inner_next k keys key from at next = record {
  ahead = omega (arith, next.ahead);
  within = omega (arith, next.within);
  skipped = λ place behind before is. next.skipped (suc place) (omega (arith, behind)) (omega (arith, before)) is;
}

pub kept_from : {X : Type 0} (key_of : X → ℕ) (xs : List X) (key from at : ℕ) → IsNext (map key_of xs) key from at → filter (has_key key_of key) (drop at xs) ≡ filter (has_key key_of key) (drop from xs)
kept_from key_of xs key zero zero next = refl
kept_from key_of [] key zero (suc at) next = refl
kept_from key_of (x ∷ xs) key zero (suc at) next =
    let zero_first : IsNext (map key_of xs) key 0 at = record {
      ahead = omega arith;
      within = omega (arith, next.within);
      skipped = λ place behind before is. next.skipped (suc place) (omega arith) (omega (arith, before)) is;
    } in
    kept_from key_of xs key zero at zero_first
    ∙ sym (not_kept (key_of x == key) x (filter (has_key key_of key) xs) (ne_eqb (key_of x) key (next.skipped 0 (omega arith) (omega arith))))
kept_from key_of xs key (suc from) zero next = absurd (omega (arith, next.ahead))
kept_from key_of [] key (suc from) (suc at) next = refl
kept_from key_of (x ∷ xs) key (suc from) (suc at) next = kept_from key_of xs key from at (inner_next (key_of x) (map key_of xs) key from at next)

-- the item at a place begins what is left there

pub begins : {X : Type 0} (xs : List X) (place : ℕ) (x : X) → slice_get xs place ≡ Some x → drop place xs ≡ x ∷ drop (place + 1) xs
begins [] place x is = absurd cc
begins (y ∷ ys) zero x is =
    let same : y ≡ x = cc in
    let one : 0 + 1 ≡ suc 0 = refl in
    ap (λ (z : _). z ∷ ys) same ∙ ap (λ (n : ℕ). x ∷ drop n (y ∷ ys)) (sym one)
begins (y ∷ ys) (suc place) x is =
    let longer : suc (place + 1) ≡ suc place + 1 = omega arith in
    begins ys place x is ∙ ap (λ (n : ℕ). x ∷ drop n (y ∷ ys)) longer

pub nothing_left : {X : Type 0} (xs : List X) (place : ℕ) → slice_get xs place ≡ None → drop place xs ≡ []
nothing_left [] zero none = refl
nothing_left [] (suc place) none = refl
nothing_left (y ∷ ys) zero none = absurd cc
nothing_left (y ∷ ys) (suc place) none = nothing_left ys place none

-- a test of what is left, of which the first was met, missed, or not there

any_kept : {X : Type 0} (p q : X → Bool) (x : X) (xs : List X) → list_any p (filter q (x ∷ xs)) ≡ ((q x && p x) || list_any p (filter q xs))
any_kept p q x xs = by_test (q x)
  where
    by_test : (b : Bool) → list_any p (cond b (x ∷ filter q xs) (filter q xs)) ≡ ((b && p x) || list_any p (filter q xs))
    by_test true = refl
    by_test false = refl

pub kept_met : {X : Type 0} (p q : X → Bool) (xs : List X) (place : ℕ) (x : X) (all : Bool) → slice_get xs place ≡ Some x → list_any p (filter q (drop place xs)) ≡ all → (q x && p x) ≡ true → true ≡ all
kept_met p q xs place x all here is met =
    sym (ap (λ (b : Bool). b || list_any p (filter q (drop (place + 1) xs))) met)
    ∙ (sym (any_kept p q x (drop (place + 1) xs)) ∙ (ap (λ (ys : List _). list_any p (filter q ys)) (sym (begins xs place x here)) ∙ is))

pub kept_missed : {X : Type 0} (p q : X → Bool) (xs : List X) (place : ℕ) (x : X) (all : Bool) → slice_get xs place ≡ Some x → list_any p (filter q (drop place xs)) ≡ all → (q x && p x) ≡ false →
    list_any p (filter q (drop (place + 1) xs)) ≡ all
kept_missed p q xs place x all here is missed =
    sym (ap (λ (b : Bool). b || list_any p (filter q (drop (place + 1) xs))) missed)
    ∙ (sym (any_kept p q x (drop (place + 1) xs)) ∙ (ap (λ (ys : List _). list_any p (filter q ys)) (sym (begins xs place x here)) ∙ is))

pub kept_none : {X : Type 0} (p q : X → Bool) (xs : List X) (place : ℕ) (all : Bool) → slice_get xs place ≡ None → list_any p (filter q (drop place xs)) ≡ all → false ≡ all
kept_none p q xs place all none is = ap (λ (ys : List _). list_any p (filter q ys)) (sym (nothing_left xs place none)) ∙ is

-- the key of an item

key_at : {X : Type 0} (key_of : X → ℕ) (xs : List X) (place : ℕ) (x : X) → slice_get xs place ≡ Some x → get_or (map key_of xs) place 0 ≡ key_of x
key_at key_of [] place x is = absurd cc
key_at key_of (y ∷ ys) zero x is =
    let same : y ≡ x = cc in
    ap key_of same
key_at key_of (y ∷ ys) (suc place) x is = key_at key_of ys place x is

-- components with their numbers

pub numbered_keys : (n : ℕ) (components : List Component) → map (λ (numbered : Numbered). numbered.component.child) (numbered_from n components) ≡ component_keys components
numbered_keys n [] = refl
numbered_keys n (c ∷ cs) = ap (λ (keys : List ℕ). c.child ∷ keys) (numbered_keys (n + 1) cs)

pub numbered_at : (n m : ℕ) (components : List Component) (place : ℕ) (component : Component) → slice_get components place ≡ Some component → m ≡ n + place →
    slice_get (numbered_from n components) place ≡ Some (record { number = m; component = component })
numbered_at n m [] place component is sum = absurd cc
numbered_at n m (c ∷ cs) zero component is sum =
    let same : c ≡ component = cc in
    let number : n ≡ m = omega (arith, sum) in
    λ i. Some (record { number = number i; component = same i })
numbered_at n m (c ∷ cs) (suc place) component is sum = numbered_at (n + 1) m cs place component is (omega (arith, sum))

pub numbered_none : (n : ℕ) (components : List Component) (place : ℕ) → slice_get components place ≡ None → slice_get (numbered_from n components) place ≡ None
numbered_none n [] place none = refl
numbered_none n (c ∷ cs) zero none = absurd cc
numbered_none n (c ∷ cs) (suc place) none = numbered_none (n + 1) cs place none

-- the next place of the key of an item

pub next_of_item : {X : Type 0} (key_of : X → ℕ) (xs : List X) (key place at : ℕ) (x : X) → slice_get xs place ≡ Some x → key_of x ≡ key →
    (place < length (map key_of xs) → IsNext (map key_of xs) (get_or (map key_of xs) place 0) (place + 1) at) → IsNext (map key_of xs) key (place + 1) at
next_of_item key_of xs key place at x here is next =
    subst (λ (k : ℕ). IsNext (map key_of xs) k (place + 1) at) (key_at key_of xs place x here ∙ is) (next (omega (arith, length-map xs key_of, slice_get_within xs place x here)))

pub kept_behind : {X : Type 0} (q : X → Bool) (xs : List X) (place : ℕ) (x : X) → slice_get xs place ≡ Some x → q x ≡ false → filter q (drop (place + 1) xs) ≡ filter q (drop place xs)
kept_behind q xs place x here not_it =
    sym (not_kept (q x) x (filter q (drop (place + 1) xs)) not_it) ∙ ap (filter q) (sym (begins xs place x here))
