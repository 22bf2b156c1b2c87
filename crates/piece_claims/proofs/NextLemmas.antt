-- The first open pair of the definition, over sets of origins.
use Rattle.std.proofs.Common.{◌≡◌, ℕ, ◌+◌, ◌<◌, ◌≤◌, Bool, true, false, ◌&&◌, ◌||◌, if◌then◌else◌, List, [], ◌∷◌, ◌++◌, length, filter, map, take, length-take, zero, suc, Option, Some, None, MatchOption, refl, sym, ap, ◌∙◌, inl, inr, arith}
use Rattle.std.specs.Prelude.{ℤ, pos, nat_le, flat_map, ◌+ℤ◌}
use Rattle.std.specs.List.{range_with_len}
use Rattle.std.proofs.lemmas.Bool.{cases_eq}
use Rattle.std.proofs.lemmas.Bool.Decides.{nat_tests}
use Rattle.std.proofs.lemmas.List.{get_or-take, get_or_past}
use Rattle.std.proofs.lemmas.List.Elements.{filter-append}
use Rattle.cal_base.specs.Lines.ComponentTrees.{first}
use Rattle.cal_model.specs.History.Claims.{Pair, rows_in_horizon}
use Rattle.number_set.specs.Sets.{has}
use Rattle.number_set.proofs.TreeLemmas.{cases_le, has_within}
use Rattle.piece_claims.specs.Boards.{Board, is_open, is_open_if, is_full, next_of, open_pairs, pair_at, pair_in, pairs_of, work_of}
use Rattle.piece_claims.specs.Kept.{first_of}
use Rattle.piece_claims.specs.Lanes.{AreOpen, AreEmptyTo, IsNext, lane_at}

-- The first that passes, in one list and in two

first_in_front : (xs ys : List Pair) (p : Pair) → first xs ≡ Some p → first (xs ++ ys) ≡ Some p
first_in_front [] ys p is = absurd (cc)
first_in_front (x ∷ xs) ys p is = is

module _ (test : Pair → Bool) where
  none_of : (w : ℤ) (start n : ℕ) → ((m : ℕ) → test (pair_at m w) ≡ false) → filter test (map (λ o. pair_at o w) (range_with_len start n)) ≡ []
  none_of w start zero none = refl
  none_of w start (suc n) none =
      ap (λ b. if b then pair_at start w ∷ filter test (map (λ o. pair_at o w) (range_with_len (start + 1) n)) else filter test (map (λ o. pair_at o w) (range_with_len (start + 1) n))) (none start)
      ∙ none_of w (start + 1) n none

  least_of : (w : ℤ) (start n o : ℕ) → test (pair_at o w) ≡ true → ((m : ℕ) → m < o → test (pair_at m w) ≡ false) → start ≤ o → o < start + n → first (filter test (map (λ m. pair_at m w) (range_with_len start n))) ≡ Some (pair_at o w)
  least_of w start zero o is none from to = absurd (omega arith)
  least_of w start (suc n) o is none from to =
      elim (cases_eq start o) [
        | inl same ↦
            ap (λ b. first (if b then pair_at start w ∷ filter test (map (λ m. pair_at m w) (range_with_len (start + 1) n)) else filter test (map (λ m. pair_at m w) (range_with_len (start + 1) n)))) (ap (λ m. test (pair_at m w)) same ∙ is)
            ∙ ap (λ m. Some (pair_at m w)) same
        | inr far ↦
            ap (λ b. first (if b then pair_at start w ∷ filter test (map (λ m. pair_at m w) (range_with_len (start + 1) n)) else filter test (map (λ m. pair_at m w) (range_with_len (start + 1) n)))) (none start (omega arith))
            ∙ least_of w (start + 1) n o is none (omega arith) (omega arith)
      ]

  -- by window, from a first on, so many origins each
  none_at_all : (count : ℕ) (from : ℤ) (start n : ℕ) → ((k m : ℕ) → start ≤ k → k < start + n → test (pair_at m (from +ℤ pos k)) ≡ false) → first (filter test (flat_map (λ w. map (λ o. pair_at o w) (range_with_len 0 count)) (map (λ k. from +ℤ pos k) (range_with_len start n)))) ≡ None
  none_at_all count from start zero none = refl
  none_at_all count from start (suc n) none =
      ap first (filter-append test (map (λ o. pair_at o (from +ℤ pos start)) (range_with_len 0 count)) (flat_map (λ w. map (λ o. pair_at o w) (range_with_len 0 count)) (map (λ k. from +ℤ pos k) (range_with_len (start + 1) n))))
      ∙ ap (λ xs. first (xs ++ filter test (flat_map (λ w. map (λ o. pair_at o w) (range_with_len 0 count)) (map (λ k. from +ℤ pos k) (range_with_len (start + 1) n))))) (none_of (from +ℤ pos start) 0 count (λ m. none start m (omega arith) (omega arith)))
      ∙ none_at_all count from (start + 1) n (λ k m low high. none k m (omega arith) (omega arith))

  least_at_all : (count : ℕ) (from : ℤ) (start n place o : ℕ) → start ≤ place → place < start + n → ((k m : ℕ) → k < place → test (pair_at m (from +ℤ pos k)) ≡ false) → test (pair_at o (from +ℤ pos place)) ≡ true → ((m : ℕ) → m < o → test (pair_at m (from +ℤ pos place)) ≡ false) → o < count → first (filter test (flat_map (λ w. map (λ o. pair_at o w) (range_with_len 0 count)) (map (λ k. from +ℤ pos k) (range_with_len start n)))) ≡ Some (pair_at o (from +ℤ pos place))
  least_at_all count from start zero place o low high before is none known = absurd (omega arith)
  least_at_all count from start (suc n) place o low high before is none known =
      ap first (filter-append test (map (λ m. pair_at m (from +ℤ pos start)) (range_with_len 0 count)) (flat_map (λ w. map (λ m. pair_at m w) (range_with_len 0 count)) (map (λ k. from +ℤ pos k) (range_with_len (start + 1) n))))
      ∙ elim (cases_eq start place) [
        | inl same ↦
            first_in_front (filter test (map (λ m. pair_at m (from +ℤ pos start)) (range_with_len 0 count))) (filter test (flat_map (λ w. map (λ m. pair_at m w) (range_with_len 0 count)) (map (λ k. from +ℤ pos k) (range_with_len (start + 1) n)))) (pair_at o (from +ℤ pos place))
            (ap (λ (k : ℕ). first (filter test (map (λ m. pair_at m (from +ℤ pos k)) (range_with_len 0 count)))) same ∙ least_of (from +ℤ pos place) 0 count o is none (omega arith) (omega arith))
        | inr far ↦
            ap (λ xs. first (xs ++ filter test (flat_map (λ w. map (λ m. pair_at m w) (range_with_len 0 count)) (map (λ k. from +ℤ pos k) (range_with_len (start + 1) n))))) (none_of (from +ℤ pos start) 0 count (λ m. before start m (omega arith)))
            ∙ least_at_all count from (start + 1) n place o (omega arith) (omega arith) before is none known
      ]

-- What is shown of the flags of the entries

pub shown_same : (entries : ℕ) (live : List Bool) → ((n : ℕ) → entries ≤ n → has live n ≡ false) → (n : ℕ) → has (take entries live) n ≡ has live n
shown_same entries live unknown n =
    elim (cases_le entries n) [
      | inr below ↦ get_or-take entries live n false below
      | inl above ↦ get_or_past (take entries live) n false (omega (arith, length-take entries live)) ∙ sym (unknown n above)
    ]

alive_if_open : (alive : Bool) (b c : Bool) → (alive && b && c) ≡ true → alive ≡ true
alive_if_open true b c is = refl
alive_if_open false b c is = is

-- The first open pair of the sets is the next claim

module _ (board : Board) (lanes : List (List Bool)) (from : ℤ) (live : List Bool) (horizon_is : from ≡ first_of board.latest) (are_open : AreOpen lanes from live board.pieces board.out) (shown : (n : ℕ) → has board.live n ≡ has live n) where
  flag_is : (k n : ℕ) → k < 13 → is_open board (pair_at n (from +ℤ pos k)) ≡ has (lane_at lanes k) n
  flag_is k n below =
      ap (λ b. is_open_if b board.pieces board.out (pair_at n (from +ℤ pos k))) (shown n) ∙ sym (are_open k n below)

  by_numbers : (numbers : Option (ℕ × ℤ)) → MatchOption numbers (AreEmptyTo lanes 13) (λ p. IsNext lanes from p.0 p.1) → pair_in numbers ≡ first (filter (is_open board) (flat_map (pairs_of board) (map (λ k. from +ℤ pos k) (range_with_len 0 13))))
  by_numbers None none =
      sym (none_at_all (is_open board) (length board.live) from 0 13 (λ k m low high. flag_is k m (omega arith) ∙ none k m (omega arith)))
  by_numbers (Some p) found =
      ap (λ (w : ℤ). Some (pair_at p.0 w)) found.window_is
      ∙ sym (least_at_all (is_open board) (length board.live) from 0 13 found.place p.0 (omega arith) (let high = found.in_horizon in omega arith)
      (λ k m below. flag_is k m (let high = found.in_horizon in omega arith) ∙ found.before k m below) here
      (λ m below. flag_is found.place m found.in_horizon ∙ found.least.none_below m below)
      (has_within board.live p.0 (alive_if_open (has board.live p.0) _ _ here)))
    where
      here : is_open board (pair_at p.0 (from +ℤ pos found.place)) ≡ true
      here = flag_is found.place p.0 found.in_horizon ∙ found.least.member

  pub next_is : is_full board ≡ false → (numbers : Option (ℕ × ℤ)) → MatchOption numbers (AreEmptyTo lanes 13) (λ p. IsNext lanes from p.0 p.1) → pair_in numbers ≡ next_of board
  next_is free numbers found =
      by_numbers numbers found
      ∙ ap (λ (f : ℤ). first (filter (is_open board) (flat_map (pairs_of board) (map (λ k. f +ℤ pos k) (range_with_len 0 13))))) horizon_is
      ∙ sym (ap (λ b. if b then None else first (open_pairs board)) free)

-- No more claims are given

pub full_by_rows : (board : Board) (n : ℕ) → length board.out < 64 → n ≡ rows_in_horizon (work_of board) → nat_le 3_000_000 n ≡ is_full board
full_by_rows board n few same =
    ap (nat_le 3_000_000) same ∙ ap (λ b. b || nat_le 3_000_000 (rows_in_horizon (work_of board))) (sym (over 64 (length board.out) few))
  where
    over : (a b : ℕ) → b < a → nat_le a b ≡ false
    over a b less = grind (arith, nat_tests)
