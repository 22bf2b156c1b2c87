-- The least of some numbers, part by part.
use Rattle.std.proofs.Common.{◌≡◌, ℕ, ◌≤◌, Bool, true, false, cond, ◌||◌, min, nat_le, List, [], ◌∷◌, ◌++◌, map, Option, Some, None, refl, sym, ap, ◌∙◌, arith, ◌⊎◌, inl, inr}
use Rattle.std.specs.Prelude.{filter, if◌then◌else◌}
use Rattle.std.specs.List.{AllByRecursion}
use Rattle.std.proofs.lemmas.Bool.Decides.{nat_tests}
use Rattle.cal_base.specs.Lines.ContentLines.{lesser, least}

-- the lesser of two that may be absent
abbrev pub joined : Option ℕ → Option ℕ → Option ℕ
joined None other = other
joined (Some n) other = lesser n other

lesser-min : (n m : ℕ) → lesser n (Some m) ≡ Some (min n m)
lesser-min n m = grind (arith, nat_tests)

pub lesser-joined : (n : ℕ) (a b : Option ℕ) → lesser n (joined a b) ≡ joined (lesser n a) b
lesser-joined n None b = refl
lesser-joined n (Some m) None = refl
lesser-joined n (Some m) (Some k) =
    ap (lesser n) (lesser-min m k) ∙ lesser-min n (min m k) ∙ ap Some (omega arith) ∙ sym (ap (λ o. joined o (Some k)) (lesser-min n m) ∙ lesser-min (min n m) k)

pub joined-assoc : (a b c : Option ℕ) → joined a (joined b c) ≡ joined (joined a b) c
joined-assoc None b c = refl
joined-assoc (Some n) b c = lesser-joined n b c

pub least-append : (ns ms : List ℕ) → least (ns ++ ms) ≡ joined (least ns) (least ms)
least-append [] ms = refl
least-append (n ∷ ns) ms = ap (lesser n) (least-append ns ms) ∙ lesser-joined n (least ns) (least ms)

lesser-swap : (n m : ℕ) (a : Option ℕ) → lesser n (lesser m a) ≡ lesser m (lesser n a)
lesser-swap n m None = lesser-min n m ∙ ap Some (omega arith) ∙ sym (lesser-min m n)
lesser-swap n m (Some k) =
    ap (lesser n) (lesser-min m k) ∙ lesser-min n (min m k) ∙ ap Some (omega arith) ∙ sym (ap (lesser m) (lesser-min n k) ∙ lesser-min m (min n k))

lesser-right : (n : ℕ) (a b : Option ℕ) → lesser n (joined a b) ≡ joined a (lesser n b)
lesser-right n None b = refl
lesser-right n (Some m) b = lesser-swap n m b

lesser-twice : (n : ℕ) (a : Option ℕ) → lesser n a ≡ lesser n (lesser n a)
lesser-twice n None = ap Some (omega arith) ∙ sym (lesser-min n n)
lesser-twice n (Some m) = lesser-min n m ∙ ap Some (omega arith) ∙ sym (ap (lesser n) (lesser-min n m) ∙ lesser-min n (min n m))

lesser-both : (n : ℕ) (a b : Option ℕ) → lesser n (joined a b) ≡ joined (lesser n a) (lesser n b)
lesser-both n a b = lesser-twice n (joined a b) ∙ ap (lesser n) (lesser-right n a b) ∙ lesser-joined n a (lesser n b)

-- of what passes one of two tests
module _ {X : Type 0} (number : X → ℕ) (p q : X → Bool) where
  one_item : (x : X) (here there : Bool) (xs ps qs : List X) → least (map number xs) ≡ joined (least (map number ps)) (least (map number qs))
      → least (map number (cond (here || there) (x ∷ xs) xs)) ≡ joined (least (map number (cond here (x ∷ ps) ps))) (least (map number (cond there (x ∷ qs) qs)))
  one_item x true true xs ps qs e = ap (lesser (number x)) e ∙ lesser-both (number x) (least (map number ps)) (least (map number qs))
  one_item x true false xs ps qs e = ap (lesser (number x)) e ∙ lesser-joined (number x) (least (map number ps)) (least (map number qs))
  one_item x false true xs ps qs e = ap (lesser (number x)) e ∙ lesser-right (number x) (least (map number ps)) (least (map number qs))
  one_item x false false xs ps qs e = e

  pub least-either : (xs : List X) → least (map number (filter (λ x. p x || q x) xs)) ≡ joined (least (map number (filter p xs))) (least (map number (filter q xs)))
  least-either [] = refl
  least-either (x ∷ xs) = one_item x (p x) (q x) (filter (λ y. p y || q y) xs) (filter p xs) (filter q xs) (least-either xs)

-- Numbers that are no less than one

abbrev pub AtLeast : ℕ → Option ℕ → Type 0
AtLeast n None = Unit {0}
AtLeast n (Some m) = n ≤ m

pub lesser-own : (n : ℕ) (a : Option ℕ) → AtLeast n a → lesser n a ≡ Some n
lesser-own n None past = refl
lesser-own n (Some m) past = lesser-min n m ∙ ap Some (omega (arith, past))

pub AtLeast-lesser : (n m : ℕ) (a : Option ℕ) → n ≤ m → AtLeast n a → AtLeast n (lesser m a)
AtLeast-lesser n m None here past = here
AtLeast-lesser n m (Some k) here past = elim (nat_le m k) as (λ b. n ≤ (if b then m else k)) [ true ↦ here | false ↦ past ]

pub AtLeast-joined : (n : ℕ) (a b : Option ℕ) → AtLeast n a → AtLeast n b → AtLeast n (joined a b)
AtLeast-joined n None b past other = other
AtLeast-joined n (Some m) b past other = AtLeast-lesser n m b past other

-- where one part is that number itself
pub joined-left : (n : ℕ) (a b : Option ℕ) → a ≡ Some n → AtLeast n b → joined a b ≡ Some n
joined-left n a b here past = ap (λ o. joined o b) here ∙ lesser-own n b past

pub joined-right : (n : ℕ) (a b : Option ℕ) → AtLeast n a → b ≡ Some n → joined a b ≡ Some n
joined-right n None b past here = here
joined-right n (Some m) b past here = ap (lesser m) here ∙ lesser-min m n ∙ ap Some (omega (arith, past))

pub least-past : (n : ℕ) (ns : List ℕ) → AllByRecursion (λ m. n ≤ m) ns → AtLeast n (least ns)
least-past n [] past = tt
least-past n (m ∷ ns) past = AtLeast-lesser n m (least ns) past.0 (least-past n ns past.1)

-- Several that may be absent

abbrev pub first_of : List (Option ℕ) → Option ℕ
first_of [] = None
first_of (place ∷ places) = joined place (first_of places)

joined-none : (a : Option ℕ) → joined a None ≡ a
joined-none None = refl
joined-none (Some n) = refl

pub first_of-push : (places : List (Option ℕ)) (place : Option ℕ) → first_of (places ++ place ∷ []) ≡ joined (first_of places) place
first_of-push [] place = joined-none place
first_of-push (first ∷ places) place = ap (joined first) (first_of-push places place) ∙ joined-assoc first (first_of places) place

abbrev pub EachAtLeast : ℕ → List (Option ℕ) → Type 0
EachAtLeast n [] = Unit {0}
EachAtLeast n (place ∷ places) = AtLeast n place × EachAtLeast n places

abbrev pub IsOneOf : ℕ → List (Option ℕ) → Type 0
IsOneOf n [] = ⊥
IsOneOf n (place ∷ places) = (place ≡ Some n) ⊎ IsOneOf n places

first_of-past : (n : ℕ) (places : List (Option ℕ)) → EachAtLeast n places → AtLeast n (first_of places)
first_of-past n [] past = tt
first_of-past n (place ∷ places) past = AtLeast-joined n place (first_of places) past.0 (first_of-past n places past.1)

-- where one is that number, and the others are no less
pub first_of-here : (n : ℕ) (places : List (Option ℕ)) → EachAtLeast n places → IsOneOf n places → first_of places ≡ Some n
first_of-here n [] past here = absurd here
first_of-here n (place ∷ places) past (inl here) = joined-left n place (first_of places) here (first_of-past n places past.1)
first_of-here n (place ∷ places) past (inr there) = joined-right n place (first_of places) past.0 (first_of-here n places past.1 there)
