-- What is open after one pair was found out anew, and what of other pairs a change leaves as it was.
use Rattle.std.proofs.Common.{◌≡◌, ◌≢◌, ℕ, ◌+◌, Bool, true, false, ◌&&◌, ◌||◌, ◌==◌, if◌then◌else◌, List, [], ◌∷◌, ◌++◌, set, refl, sym, ap, ◌∙◌, inl, inr, arith}
use Rattle.std.specs.Prelude.{ℤ, pos, not, ◌+ℤ◌}
use Rattle.std.specs.List.{list_any}
use Rattle.std.specs.Ordering.{int_eq}
use Rattle.std.proofs.lemmas.Bool.Decides.{Decides-int_eq, Decides-eqb, nat_tests}
use Rattle.std.proofs.lemmas.List.{get_or-set_same, get_or-set_other}
use Rattle.cal_model.specs.Words.Integers.{same_int}
use Rattle.cal_model.specs.History.Claims.{Pair, pair_of, same_pair, without_claim}
use Rattle.cal_model.specs.declared.piece.Piece.{Piece}
use Rattle.number_set.specs.Sets.{has}
use Rattle.number_set.proofs.TreeLemmas.{same_or_not}
use Rattle.piece_claims.specs.Boards.{is_open_if, pair_at}
use Rattle.piece_claims.specs.Lanes.{AreLanes, AreOpen, IsRefreshedAt, lane_at}
use Rattle.piece_claims.proofs.OutLemmas.{eqb_flip, same_int-flip, same_int-int_eq, same_int-is}

-- Pairs

pub same_pair-flip : (a b : Pair) → same_pair a b ≡ same_pair b a
same_pair-flip a b =
    ap (λ t. t && same_int a.window b.window) (eqb_flip a.origin b.origin)
    ∙ ap (λ t. (b.origin == a.origin) && t) (sym (same_int-flip a.window b.window) ∙ same_int-int_eq a.window b.window)

pub far_pair : (n o : ℕ) (w z : ℤ) → n ≢ o → same_pair (pair_at n w) (pair_at o z) ≡ false
far_pair n o w z far = ap (λ b. b && same_int w z) (off n o far)
  where
    off : (a b : ℕ) → a ≢ b → (a == b) ≡ false
    off a b far = grind (arith, nat_tests)

far_window : (n o : ℕ) (w z : ℤ) → int_eq z w ≡ false → same_pair (pair_at n w) (pair_at o z) ≡ false
far_window n o w z far = ap (λ b. (n == o) && b) (sym (same_int-int_eq z w) ∙ far) ∙ none (n == o)
  where
    none : (b : Bool) → (b && false) ≡ false
    none true = refl
    none false = refl

-- the same pairs are the same numbers
numbers_are : (o : ℕ) (z : ℤ) (x : Pair) → same_pair (pair_at o z) x ≡ true → (o ≡ x.origin) × (z ≡ x.window)
numbers_are o z x is =
    let parts = both (o == x.origin) (same_int z x.window) is in
    ((Decides-eqb o x.origin).0 parts.0, same_int-is z x.window parts.1)
  where
    both : (a b : Bool) → (a && b) ≡ true → (a ≡ true) × (b ≡ true)
    both true b is = (refl, is)
    both false b is = absurd (cc)

-- One pair found out anew

abbrev pub KeepsOtherPairs : ℕ → ℤ → List Bool → List Piece → List Pair → List Piece → List Pair → Type 0
KeepsOtherPairs origin window live pieces out pieces' out' =
    (n : ℕ) (w : ℤ) → same_pair (pair_at n w) (pair_at origin window) ≡ false → is_open_if (has live n) pieces' out' (pair_at n w) ≡ is_open_if (has live n) pieces out (pair_at n w)

pub refreshed_at : (lanes new : List (List Bool)) (from : ℤ) (live : List Bool) (pieces pieces' : List Piece) (out out' : List Pair) (origin : ℕ) (window : ℤ) → AreLanes lanes (origin + 1) → AreOpen lanes from live pieces out → IsRefreshedAt lanes new from origin window (is_open_if (has live origin) pieces' out' (pair_at origin window)) → KeepsOtherPairs origin window live pieces out pieces' out' → AreOpen new from live pieces' out'
refreshed_at lanes new from live pieces pieces' out out' origin window wide open_was fresh others k n small =
    ap (λ flags. has flags n) (fresh.lanes k small) ∙ by_test (int_eq window (from +ℤ pos k)) refl
  where
    by_test : (b : Bool) → int_eq window (from +ℤ pos k) ≡ b → has (if b then set (lane_at lanes k) origin (is_open_if (has live origin) pieces' out' (pair_at origin window)) else lane_at lanes k) n ≡ is_open_if (has live n) pieces' out' (pair_at n (from +ℤ pos k))
    by_test false is = open_was k n small ∙ sym (others n (from +ℤ pos k) (far_window n origin (from +ℤ pos k) window is))
    by_test true is =
        elim (same_or_not n origin) [
          | inl same ↦
              ap (has (set (lane_at lanes k) origin (is_open_if (has live origin) pieces' out' (pair_at origin window)))) same
              ∙ get_or-set_same (lane_at lanes k) origin _ false (let room = wide.wide k small in omega arith)
              ∙ ap (λ (z : ℤ). is_open_if (has live origin) pieces' out' (pair_at origin z)) ((Decides-int_eq window (from +ℤ pos k)).0 is)
              ∙ ap (λ (m : ℕ). is_open_if (has live m) pieces' out' (pair_at m (from +ℤ pos k))) (sym same)
          | inr far ↦
              get_or-set_other (lane_at lanes k) origin n _ false far ∙ open_was k n small ∙ sym (others n (from +ℤ pos k) (far_pair n origin (from +ℤ pos k) window far))
        ]

-- a pair more that is out

any_snoc : (p : Pair → Bool) (xs : List Pair) (x : Pair) → p x ≡ false → list_any p (xs ++ x ∷ []) ≡ list_any p xs
any_snoc p [] x none = ap (λ b. b || false) none
any_snoc p (y ∷ xs) x none = ap (λ b. p y || b) (any_snoc p xs x none)

pub claim_pairs : (origin : ℕ) (window : ℤ) (live : List Bool) (pieces : List Piece) (out : List Pair) → KeepsOtherPairs origin window live pieces out pieces (out ++ pair_at origin window ∷ [])
claim_pairs origin window live pieces out n w far =
    ap (λ b. has live n && not (list_any (λ piece. same_pair (pair_of piece) (pair_at n w)) pieces) && not b)
    (any_snoc (same_pair (pair_at n w)) out (pair_at origin window) far)

-- a pair less that is out

any_without : (n o : ℕ) (w z : ℤ) (out : List Pair) → same_pair (pair_at n w) (pair_at o z) ≡ false → list_any (same_pair (pair_at n w)) (without_claim (pair_at o z) out) ≡ list_any (same_pair (pair_at n w)) out
any_without n o w z [] far = refl
any_without n o w z (x ∷ out) far = by_test (same_pair (pair_at o z) x) refl (any_without n o w z out far)
  where
    by_test : (b : Bool) → same_pair (pair_at o z) x ≡ b → list_any (same_pair (pair_at n w)) (without_claim (pair_at o z) out) ≡ list_any (same_pair (pair_at n w)) out → list_any (same_pair (pair_at n w)) (if not b then x ∷ without_claim (pair_at o z) out else without_claim (pair_at o z) out) ≡ (same_pair (pair_at n w) x || list_any (same_pair (pair_at n w)) out)
    by_test false is rest = ap (λ b. same_pair (pair_at n w) x || b) rest
    by_test true is rest =
        let numbers = numbers_are o z x is in
        let other : same_pair (pair_at n w) x ≡ false =
        sym (ap (λ (m : ℕ). (n == m) && same_int w z) numbers.0 ∙ ap (λ (v : ℤ). (n == x.origin) && same_int w v) numbers.1) ∙ far in
        rest ∙ ap (λ b. b || list_any (same_pair (pair_at n w)) out) (sym other)

pub end_pairs : (origin : ℕ) (window : ℤ) (live : List Bool) (pieces : List Piece) (out : List Pair) → KeepsOtherPairs origin window live pieces out pieces (without_claim (pair_at origin window) out)
end_pairs origin window live pieces out n w far =
    ap (λ b. has live n && not (list_any (λ piece. same_pair (pair_of piece) (pair_at n w)) pieces) && not b)
    (any_without n origin w window out far)
