-- What stands at the front of some octets stays there whatever follows: heads and lines.
use Rattle.std.proofs.Common.{◌≡◌, ℕ, suc, ◌≤◌, Bool, true, false, ◌==◌, ◌&&◌, List, [], ◌∷◌, ◌++◌, length, Option, Some, None, refl, sym, ap, ◌∙◌, arith, ◌⊎◌, inl, inr, ⊎_elim}
use Rattle.std.specs.Prelude.{option_map}
use Rattle.std.proofs.lemmas.Option.{same_Some}
use Rattle.cal_base.specs.Texts.Octets.{line_feed, carriage_return}
use Rattle.cal_model.specs.Streams.Heads.{empty_line, ends_here, head_end, without_empty_lines}

-- Cases

pub bool_cases : (b : Bool) → (b ≡ true) ⊎ (b ≡ false)
bool_cases true = inl refl
bool_cases false = inr refl

pub option_cases : {X : Type 0} (o : Option X) → (o ≡ None) ⊎ ((x : X) × (o ≡ Some x))
option_cases None = inl refl
option_cases (Some x) = inr (x, refl)

pub none_some : {X A : Type 0} (x : X) → None ≡ Some x → A
none_some x e = cc

pub suc_some : (o : Option ℕ) (n : ℕ) → option_map suc o ≡ Some n → (m : ℕ) × (o ≡ Some m) × (n ≡ suc m)
suc_some None n e = none_some n e
suc_some (Some m) n e = (m, refl, sym (same_Some _ _ e))

-- Empty lines

pub empty_line-append : (xs ys : List ℕ) (k : ℕ) → empty_line xs ≡ Some k → empty_line (xs ++ ys) ≡ Some k
empty_line-append [] ys k e = none_some k e
empty_line-append (b ∷ []) [] k e = e
empty_line-append (b ∷ []) (c ∷ ys) k e =
    ⊎_elim (λ yes. rw yes (rw yes at e)) (λ no. none_some k (rw no at e)) (bool_cases (b == line_feed))
empty_line-append (b ∷ c ∷ more) ys k e = e

pub ends_here-append : (b : ℕ) (xs ys : List ℕ) (k : ℕ) → ends_here b xs ≡ Some k → ends_here b (xs ++ ys) ≡ Some k
ends_here-append b xs ys k e =
    ⊎_elim
    (λ yes.
    let some = suc_some (empty_line xs) k (rw yes at e) in
    rw yes (rw (empty_line-append xs ys some.0 some.1) (ap Some (sym some.2))))
    (λ no. none_some k (rw no at e))
    (bool_cases (b == line_feed))

-- one octet of a head

pub head_end_found : (b : ℕ) (xs : List ℕ) (k : ℕ) → ends_here b xs ≡ Some k → head_end (b ∷ xs) ≡ Some k
unfolding head_end
head_end_found b xs k h = rw (h, head_end) refl

pub head_end_later : (b : ℕ) (xs : List ℕ) → ends_here b xs ≡ None → head_end (b ∷ xs) ≡ option_map suc (head_end xs)
unfolding head_end
head_end_later b xs h = rw (h, head_end) refl

pub head_end_nil : head_end [] ≡ None
unfolding head_end
head_end_nil = refl

pub head_end_short : (x : ℕ) → head_end (x ∷ []) ≡ None
head_end_short x =
    let none : ends_here x [] ≡ None = ⊎_elim (λ yes. rw yes refl) (λ no. rw no refl) (bool_cases (x == line_feed)) in
    head_end_later x [] none ∙ ap (option_map suc) head_end_nil

no_end_here : (b : ℕ) (xs ys : List ℕ) (m : ℕ) → head_end xs ≡ Some m → ends_here b xs ≡ None → ends_here b (xs ++ ys) ≡ None
no_end_here b [] ys m e none = none_some m (sym head_end_nil ∙ e)
no_end_here b (x ∷ []) ys m e none = none_some m (sym (head_end_short x) ∙ e)
no_end_here b (x ∷ y ∷ more) ys m e none = none

-- the end of a head stays
pub head_end-append : (xs ys : List ℕ) (n : ℕ) → head_end xs ≡ Some n → head_end (xs ++ ys) ≡ Some n
head_end-append [] ys n e = none_some n (sym head_end_nil ∙ e)
head_end-append (b ∷ xs) ys n e =
    ⊎_elim
    (λ none.
    let some = suc_some (head_end xs) n (sym (head_end_later b xs none) ∙ e) in
    head_end_later b (xs ++ ys) (no_end_here b xs ys some.0 some.1 none)
    ∙ ap (option_map suc) (head_end-append xs ys some.0 some.1) ∙ ap Some (sym some.2))
    (λ found. head_end_found b (xs ++ ys) found.0 (ends_here-append b xs ys found.0 found.1) ∙ (sym (head_end_found b xs found.0 found.1) ∙ e))
    (option_cases (ends_here b xs))

empty_within : (ys : List ℕ) (k : ℕ) → empty_line ys ≡ Some k → k ≤ length ys
empty_within [] k h = none_some k h
empty_within (y ∷ []) k h =
    ⊎_elim (λ yes. let s = same_Some _ _ (rw yes at h) in omega arith) (λ no. none_some k (rw no at h)) (bool_cases (y == line_feed))
empty_within (y ∷ z ∷ ys) k h =
    ⊎_elim
    (λ yes. let s = same_Some _ _ (rw yes at h) in omega arith)
    (λ no.
    let h' = rw no at h in
    ⊎_elim (λ yes. let s = same_Some _ _ (rw yes at h') in omega arith) (λ other. none_some k (rw other at h')) (bool_cases ((y == carriage_return) && (z == line_feed))))
    (bool_cases (y == line_feed))

ends_within : (c : ℕ) (ys : List ℕ) (k : ℕ) → ends_here c ys ≡ Some k → k ≤ suc (length ys)
ends_within c ys k h =
    ⊎_elim
    (λ yes.
    let some = suc_some (empty_line ys) k (rw yes at h) in
    let w = empty_within ys some.0 some.1 in
    let m = some.2 in
    omega arith)
    (λ no. none_some k (rw no at h))
    (bool_cases (c == line_feed))

pub head_end-within : (xs : List ℕ) (n : ℕ) → head_end xs ≡ Some n → n ≤ length xs
head_end-within [] n e = none_some n (sym head_end_nil ∙ e)
head_end-within (b ∷ xs) n e =
    ⊎_elim
    (λ none.
    let some = suc_some (head_end xs) n (sym (head_end_later b xs none) ∙ e) in
    let h = head_end-within xs some.0 some.1 in
    let m = some.2 in
    omega arith)
    (λ found.
    let same = same_Some _ _ (sym (head_end_found b xs found.0 found.1) ∙ e) in
    let k = ends_within b xs found.0 found.1 in
    omega arith)
    (option_cases (ends_here b xs))

-- Empty lines in front

pub skips_lf : (x y : ℕ) (xs : List ℕ) → (x == line_feed) ≡ true → without_empty_lines (x ∷ y ∷ xs) ≡ without_empty_lines (y ∷ xs)
unfolding without_empty_lines
skips_lf x y xs h = rw (h, without_empty_lines) refl

pub skips_crlf : (x y : ℕ) (xs : List ℕ) → (x == line_feed) ≡ false → ((x == carriage_return) && (y == line_feed)) ≡ true → without_empty_lines (x ∷ y ∷ xs) ≡ without_empty_lines xs
unfolding without_empty_lines
skips_crlf x y xs h k = rw (h, k, without_empty_lines) refl

pub skips_none : (x y : ℕ) (xs : List ℕ) → (x == line_feed) ≡ false → ((x == carriage_return) && (y == line_feed)) ≡ false → without_empty_lines (x ∷ y ∷ xs) ≡ x ∷ y ∷ xs
unfolding without_empty_lines
skips_none x y xs h k = rw (h, k, without_empty_lines) refl

-- what stands behind the empty lines stays, once two octets of it are there
pub without_empty_lines-append : (xs ys : List ℕ) (b c : ℕ) (more : List ℕ) → without_empty_lines xs ≡ b ∷ c ∷ more → without_empty_lines (xs ++ ys) ≡ (b ∷ c ∷ more) ++ ys
unfolding without_empty_lines
without_empty_lines-append [] ys b c more e = cc
without_empty_lines-append (x ∷ []) ys b c more e =
    ⊎_elim (λ yes. let h = rw yes at e in cc) (λ no. let h = rw no at e in cc) (bool_cases (x == line_feed))
without_empty_lines-append (x ∷ y ∷ xs) ys b c more e =
    ⊎_elim
    (λ yes. skips_lf x y (xs ++ ys) yes ∙ without_empty_lines-append (y ∷ xs) ys b c more (sym (skips_lf x y xs yes) ∙ e))
    (λ no. ⊎_elim
    (λ yes. skips_crlf x y (xs ++ ys) no yes ∙ without_empty_lines-append xs ys b c more (sym (skips_crlf x y xs no yes) ∙ e))
    (λ other. skips_none x y (xs ++ ys) no other ∙ ap (λ l. l ++ ys) (sym (skips_none x y xs no other) ∙ e))
    (bool_cases ((x == carriage_return) && (y == line_feed))))
    (bool_cases (x == line_feed))
