-- BYSETPOS goes period by period: a filter over the whole list is the picks of each period, one after the other.
use Rattle.std.proofs.Common.{◌≡◌, ◌≢◌, ℕ, zero, suc, ◌+◌, ◌<◌, ◌≤◌, List, [], ◌∷◌, ◌++◌, length, get_or, refl, ap, ◌∙◌, arith, Bool, true, false, inl, inr}
use Rattle.std.specs.Prelude.{filter, count_by, cond, nat_le, ◌==◌, if◌then◌else◌, All}
use Rattle.std.proofs.lemmas.Bool.{cases_Bool}
use Rattle.std.proofs.lemmas.List.Elements.{filter-append}
use Rattle.std.proofs.lemmas.List.Sums.{sum_by-append}
use Rattle.cal_model.specs.declared.rule.Rule.{Rule}
use Rattle.cal_model.specs.Words.Lists.{is_empty}
use Rattle.cal_model.specs.Words.Integers.{some_names_place}
use Rattle.cal_model.specs.Recurrence.Passing.{period_number}
use Rattle.cal_model.specs.Recurrence.RecurrenceSet.{same_period, place_in_period, size_of_period, at_places}

tail_all : {X : Type 0} (P : X → Type 0) (x : X) (xs : List X) → All P (x ∷ xs) → All P xs
tail_all P x xs h = λ k d lt. h (suc k) d (omega arith)

head_all : {X : Type 0} (P : X → Type 0) (x : X) (xs : List X) → All P (x ∷ xs) → P x
head_all P x xs h = h 0 x (omega arith)

count_append : {X : Type 0} (p : X → Bool) (xs ys : List X) → count_by p (xs ++ ys) ≡ count_by p xs + count_by p ys
count_append p xs ys = sum_by-append (λ x. cond (p x) 1 0) xs ys

count_none : {X : Type 0} (p : X → Bool) (xs : List X) → All (λ x. p x ≡ false) xs → count_by p xs ≡ 0
count_none p [] h = refl
count_none p (x ∷ xs) h =
    let here : p x ≡ false = head_all (λ x. p x ≡ false) x xs h in
    let rest = count_none p xs (tail_all (λ x. p x ≡ false) x xs h) in
    rw (here, rest) refl

pub count_one : {X : Type 0} (p : X → Bool) (x : X) (xs : List X) → p x ≡ true → count_by p (x ∷ xs) ≡ 1 + count_by p xs
count_one {X} p x xs h =
    let one : count_by p (x ∷ []) ≡ 1 = rw h refl in
    sum_by-append (λ (y : X). cond (p y) 1 0) (x ∷ []) xs ∙ ap (λ v. v + count_by p xs) one

pub count_zero : {X : Type 0} (p : X → Bool) (x : X) (xs : List X) → p x ≡ false → count_by p (x ∷ xs) ≡ count_by p xs
count_zero {X} p x xs h = rw h refl

filter_cong : {X : Type 0} (p q : X → Bool) (xs : List X) → All (λ x. p x ≡ q x) xs → filter p xs ≡ filter q xs
filter_cong p q [] h = refl
filter_cong p q (x ∷ xs) h =
    let here : p x ≡ q x = head_all (λ x. p x ≡ q x) x xs h in
    let rest = filter_cong p q xs (tail_all (λ x. p x ≡ q x) x xs h) in
    rw (here, rest) refl

eqb_false : (a b : ℕ) → a ≢ b → (a == b) ≡ false
eqb_false a b h = grind (arith, h)

module _ (rule : Rule) where
  abbrev pub number : ℕ → ℕ
  number m = period_number rule.freq rule.week_start m

  -- the test of BYSETPOS over a list
  pub keeps : List ℕ → ℕ → Bool
  keeps found m = some_names_place rule.by_set_pos (place_in_period rule found m) (size_of_period rule found m)

  none_placed : (m : ℕ) (ys : List ℕ) → All (λ k. same_period rule m k ≡ false) ys → place_in_period rule ys m ≡ 0
  none_placed m ys h = count_none (λ k. if nat_le k m then same_period rule m k else false) ys
      (λ i d lt. elim (cases_Bool (nat_le (get_or ys i d) m)) [ inl w ↦ rw (w, h i d lt) refl | inr w ↦ rw w refl ])

  none_sized : (m : ℕ) (ys : List ℕ) → All (λ k. same_period rule m k ≡ false) ys → size_of_period rule ys m ≡ 0
  none_sized m ys h = count_none (same_period rule m) ys h

  keeps_left : (m : ℕ) (xs ys : List ℕ) → All (λ k. same_period rule m k ≡ false) ys → keeps (xs ++ ys) m ≡ keeps xs m
  unfolding keeps
  keeps_left m xs ys h =
      let place : place_in_period rule (xs ++ ys) m ≡ place_in_period rule xs m = count_append (λ k. if nat_le k m then same_period rule m k else false) xs ys ∙ grind (arith, none_placed m ys h) in
      let size : size_of_period rule (xs ++ ys) m ≡ size_of_period rule xs m = count_append (same_period rule m) xs ys ∙ grind (arith, none_sized m ys h) in
      rw (place, size) refl

  keeps_right : (m : ℕ) (xs ys : List ℕ) → All (λ k. same_period rule m k ≡ false) xs → keeps (xs ++ ys) m ≡ keeps ys m
  unfolding keeps
  keeps_right m xs ys h =
      let place : place_in_period rule (xs ++ ys) m ≡ place_in_period rule ys m = count_append (λ k. if nat_le k m then same_period rule m k else false) xs ys ∙ grind (arith, none_placed m xs h) in
      let size : size_of_period rule (xs ++ ys) m ≡ size_of_period rule ys m = count_append (same_period rule m) xs ys ∙ grind (arith, none_sized m xs h) in
      rw (place, size) refl

  -- where a list falls in two with no period in common, so does what is kept of it
  pub kept_apart : (xs ys : List ℕ) (n : ℕ) → All (λ m. number m ≤ n) xs → All (λ m. n < number m) ys →
      filter (keeps (xs ++ ys)) (xs ++ ys) ≡ filter (keeps xs) xs ++ filter (keeps ys) ys
  kept_apart xs ys n low high =
      let first = filter_cong (keeps (xs ++ ys)) (keeps xs) xs (λ i d lt. keeps_left (get_or xs i d) xs ys (λ j e m. let a = low i d lt in let b = high j e m in eqb_false _ _ (omega arith))) in
      let second = filter_cong (keeps (xs ++ ys)) (keeps ys) ys (λ i d lt. keeps_right (get_or ys i d) xs ys (λ j e m. let a = high i d lt in let b = low j e m in eqb_false _ _ (omega arith))) in
      rw (filter-append, first, second) refl

  -- within one period the place of a moment is its place in the list, and all of them are its size
  pub all_same : (m : ℕ) (ks : List ℕ) → All (λ k. same_period rule m k ≡ true) ks → size_of_period rule ks m ≡ length ks
  all_same m [] h = refl
  all_same m (k ∷ ks) h =
      let here : same_period rule m k ≡ true = head_all (λ k. same_period rule m k ≡ true) k ks h in
      let rest = all_same m ks (tail_all (λ k. same_period rule m k ≡ true) k ks h) in
      count_one (same_period rule m) k ks here ∙ omega (arith, rest)

  none_up_to : (m : ℕ) (ks : List ℕ) → All (λ k. m < k) ks → place_in_period rule ks m ≡ 0
  none_up_to m ks h = count_none (λ k. if nat_le k m then same_period rule m k else false) ks
      (λ i d lt. let above : m < get_or ks i d = h i d lt in let test : nat_le (get_or ks i d) m ≡ false = grind (arith, above) in rw test refl)

  pub place_within : (ks : List ℕ) (i : ℕ) (d : ℕ) → i < length ks → ((j l : ℕ) (e : ℕ) → j < l → l < length ks → get_or ks j e < get_or ks l e) →
      All (λ k. same_period rule (get_or ks i d) k ≡ true) ks → place_in_period rule ks (get_or ks i d) ≡ i + 1
  place_within [] i d lt up h = absurd (omega arith)
  place_within (k ∷ ks) zero d lt up h =
      let here : same_period rule k k ≡ true = head_all (λ x. same_period rule k x ≡ true) k ks h in
      let test : nat_le k k ≡ true = grind arith in
      let rest = none_up_to k ks (λ j e l. up 0 (suc j) e (omega arith) (omega arith)) in
      count_one (λ x. if nat_le x k then same_period rule k x else false) k ks (rw (test, here) refl) ∙ omega (arith, rest)
  place_within (k ∷ ks) (suc i) d lt up h =
      let m = get_or ks i d in
      let here : same_period rule m k ≡ true = head_all (λ x. same_period rule m x ≡ true) k ks h in
      let below : k < m = up 0 (suc i) d (omega arith) lt in
      let test : nat_le k m ≡ true = grind (arith, below) in
      let rest = place_within ks i d (omega arith) (λ j l e a b. up (suc j) (suc l) e (omega arith) (omega arith)) (tail_all (λ x. same_period rule m x ≡ true) k ks h) in
      count_one (λ x. if nat_le x m then same_period rule m x else false) k ks (rw (test, here) refl) ∙ omega (arith, rest)

  -- so what BYSETPOS keeps of a list is what it keeps of each period
  pub at_places-append : (xs ys : List ℕ) (n : ℕ) → All (λ m. number m ≤ n) xs → All (λ m. n < number m) ys → at_places rule (xs ++ ys) ≡ at_places rule xs ++ at_places rule ys
  unfolding keeps
  at_places-append xs ys n low high = elim (cases_Bool (is_empty rule.by_set_pos)) [
    | inl none ↦ rw none refl
    | inr some ↦ rw some (kept_apart xs ys n low high)
  ]
