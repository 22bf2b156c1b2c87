-- Rows by window: what each piece adds, for all pieces, for those of one object, and for those of the horizon.
use Rattle.std.proofs.Common.{◌≡◌, ◌≢◌, ℕ, ◌+◌, ◌<◌, ◌≤◌, Bool, true, false, ◌&&◌, ◌||◌, ◌==◌, if◌then◌else◌, List, [], ◌∷◌, ◌++◌, length, filter, map, Some, None, zero, suc, refl, sym, ap, ◌∙◌, subst, inl, inr, zero-add, arith}
use Rattle.std.specs.Prelude.{ℤ, pos, not, ◌+ℤ◌, sum, sum_by}
use Rattle.std.specs.Ordering.{int_eq}
use Rattle.std.specs.List.{list_any, range_with_len, AllByRecursion}
use Rattle.std.proofs.lemmas.Bool.{cases_eq}
use Rattle.std.proofs.lemmas.Bool.Decides.{Decides-int_eq, Decides-eqb}
use Rattle.std.proofs.lemmas.Int.{ints}
use Rattle.std.proofs.lemmas.List.{ext_get_or}
use Rattle.std.proofs.lemmas.List.FromFn.{get_or-map-range_with_len, length-map-range_with_len}
use Rattle.std.proofs.lemmas.List.Sums.{sum_by-cons, sum-map}
use Rattle.cal_model.specs.Words.Integers.{same_int}
use Rattle.cal_model.specs.History.Claims.{horizon, rows_in_horizon}
use Rattle.cal_model.specs.declared.piece.Piece.{Piece}
use Rattle.cal_model.specs.Pieces.PieceLists.{is_other_piece, rows_at, rows_in, ArePairsApart}
use Rattle.number_set.proofs.TreeLemmas.{cases_le}
use Rattle.piece_claims.specs.Boards.{Board, work_of}
use Rattle.piece_claims.specs.Counts.{rows_if, rows_of_window, size, size_at, sizes_to, AreCounts}
use Rattle.piece_claims.specs.Kept.{first_of}
use Rattle.piece_claims.proofs.OutLemmas.{same_int-flip}

-- What one piece adds

other_at : (n : ℕ) (w : ℤ) (p : Piece) (ps : List Piece) → p.origin ≢ n → size_at n w (p ∷ ps) ≡ size_at n w ps
other_at n w p ps far = ap (λ b. size (if b && int_eq p.window w then Some p.rows else rows_at n w ps)) (off p.origin n far)
  where
    off : (a b : ℕ) → a ≢ b → (a == b) ≡ false
    off a b far = grind (arith, Decides-eqb)

own_at : (n : ℕ) (w : ℤ) (p : Piece) (ps : List Piece) → p.origin ≡ n → rows_at p.origin p.window ps ≡ None → size_at n w (p ∷ ps) ≡ rows_if w p.window (length p.rows) + size_at n w ps
own_at n w p ps own apart =
    ap (λ b. size (if b && int_eq p.window w then Some p.rows else rows_at n w ps)) ((Decides-eqb p.origin n).1 own)
    ∙ by_test (int_eq p.window w) refl
  where
    by_test : (b : Bool) → int_eq p.window w ≡ b → size (if b then Some p.rows else rows_at n w ps) ≡ (if b then length p.rows else 0) + size_at n w ps
    by_test false is = sym (zero-add (size (rows_at n w ps)))
    by_test true is =
        let none : rows_at n w ps ≡ None = subst (λ (z : ℤ). rows_at n z ps ≡ None) ((Decides-int_eq p.window w).0 is) (subst (λ (o : ℕ). rows_at o p.window ps ≡ None) own apart) in
        (let empty = ap size none in omega (arith, empty))

-- The pieces of so many objects

sizes_none : (n : ℕ) (w : ℤ) → sizes_to n w [] ≡ 0
sizes_none zero w = refl
sizes_none (suc n) w = omega (arith, sizes_none n w)

sizes_low : (n : ℕ) (w : ℤ) (p : Piece) (ps : List Piece) → n ≤ p.origin → sizes_to n w (p ∷ ps) ≡ sizes_to n w ps
sizes_low zero w p ps low = refl
sizes_low (suc n) w p ps low =
    let before = sizes_low n w p ps (omega arith) in
    let here = other_at n w p ps (omega arith) in
    omega (arith, before, here)

sizes_high : (n : ℕ) (w : ℤ) (p : Piece) (ps : List Piece) → p.origin < n → rows_at p.origin p.window ps ≡ None → sizes_to n w (p ∷ ps) ≡ rows_if w p.window (length p.rows) + sizes_to n w ps
sizes_high zero w p ps high apart = absurd (omega arith)
sizes_high (suc n) w p ps high apart =
    elim (cases_eq p.origin n) [
      | inl own ↦ (let before = sizes_low n w p ps (omega arith) in let here = own_at n w p ps own apart in omega (arith, before, here))
      | inr far ↦ (let before = sizes_high n w p ps (omega arith) apart in let here = other_at n w p ps far in omega (arith, before, here))
    ]

pub sizes_all : (n : ℕ) (w : ℤ) (ps : List Piece) → ArePairsApart ps → AllByRecursion (λ (p : Piece). p.origin < n) ps → sizes_to n w ps ≡ rows_of_window w ps
sizes_all n w [] apart known = sizes_none n w
sizes_all n w (p ∷ ps) apart known = (let here = sizes_high n w p ps known.0 apart.0 in let rest = sizes_all n w ps apart.1 known.1 in omega (arith, here, rest))

sizes_le : (n : ℕ) (w : ℤ) (ps : List Piece) → ArePairsApart ps → sizes_to n w ps ≤ rows_of_window w ps
sizes_le n w [] apart = (let none = sizes_none n w in omega (arith, none))
sizes_le n w (p ∷ ps) apart =
    elim (cases_le n p.origin) [
      | inl low ↦ (let here = sizes_low n w p ps low in let rest = sizes_le n w ps apart.1 in omega (arith, here, rest))
      | inr high ↦ (let here = sizes_high n w p ps high apart.0 in let rest = sizes_le n w ps apart.1 in omega (arith, here, rest))
    ]

pub window_le : (w : ℤ) (ps : List Piece) → rows_of_window w ps ≤ rows_in ps
window_le w [] = omega arith
window_le w (p ∷ ps) = (let here = some (int_eq p.window w) (length p.rows) in let rest = window_le w ps in omega (arith, here, rest))
  where
    some : (b : Bool) (n : ℕ) → (if b then n else 0) ≤ n
    some true n = omega arith
    some false n = omega arith

pub sizes_within : (n : ℕ) (w : ℤ) (ps : List Piece) → ArePairsApart ps → sizes_to n w ps ≤ rows_in ps
sizes_within n w ps apart = (let a = sizes_le n w ps apart in let b = window_le w ps in omega (arith, a, b))

pub one_more_within : (n : ℕ) (w : ℤ) (ps : List Piece) → ArePairsApart ps → sizes_to n w ps + size_at n w ps ≤ rows_in ps
one_more_within n w ps apart = sizes_within (suc n) w ps apart

-- The pieces of one object

pub without_object : (o : ℕ) (w : ℤ) (ps : List Piece) → ArePairsApart ps → rows_of_window w ps ≡ rows_of_window w (filter (is_other_piece o) ps) + size_at o w ps
without_object o w [] apart = refl
without_object o w (p ∷ ps) apart =
    elim (cases_eq p.origin o) [
      | inl own ↦
          (let here = own_at o w p ps own apart.0 in
          let gone : filter (is_other_piece o) (p ∷ ps) ≡ filter (is_other_piece o) ps = ap (λ b. if not b then p ∷ filter (is_other_piece o) ps else filter (is_other_piece o) ps) ((Decides-eqb p.origin o).1 own) in
          let rest = without_object o w ps apart.1 in
          omega (arith, here, rest, ap (rows_of_window w) gone))
      | inr far ↦
          (let here = other_at o w p ps far in
          let stays : filter (is_other_piece o) (p ∷ ps) ≡ p ∷ filter (is_other_piece o) ps = ap (λ b. if not b then p ∷ filter (is_other_piece o) ps else filter (is_other_piece o) ps) (off p.origin o far) in
          let rest = without_object o w ps apart.1 in
          omega (arith, here, rest, ap (rows_of_window w) stays))
    ]
  where
    off : (a b : ℕ) → a ≢ b → (a == b) ≡ false
    off a b far = grind (arith, Decides-eqb)

-- A piece at the end

pub window_snoc : (w : ℤ) (ps : List Piece) (p : Piece) → rows_of_window w (ps ++ p ∷ []) ≡ rows_of_window w ps + rows_if w p.window (length p.rows)
window_snoc w [] p = omega arith
window_snoc w (q ∷ ps) p = (let rest = window_snoc w ps p in omega (arith, rest))

-- The windows of the horizon

plus : (f g : ℕ → ℕ) (xs : List ℕ) → sum_by (λ k. f k + g k) xs ≡ sum_by f xs + sum_by g xs
plus f g [] = refl
plus f g (x ∷ xs) =
    (let a = sum_by-cons (λ k. f k + g k) x xs in let b = sum_by-cons f x xs in let c = sum_by-cons g x xs in let rest = plus f g xs in omega (arith, a, b, c, rest))

zeros : (xs : List ℕ) → sum_by (λ k. 0) xs ≡ 0
zeros [] = refl
zeros (x ∷ xs) = zeros xs

-- a window stands once among those from a first on

apart_from : (from z : ℤ) (s k : ℕ) → z ≡ from +ℤ pos s → s < k → int_eq z (from +ℤ pos k) ≡ false
apart_from from z s k is less = by_test (int_eq z (from +ℤ pos k)) refl
  where
    by_test : (b : Bool) → int_eq z (from +ℤ pos k) ≡ b → b ≡ false
    by_test false e = refl
    by_test true e = absurd (let same = (Decides-int_eq z (from +ℤ pos k)).0 e in omega (arith, ints))

none_later : (from z : ℤ) (c s start n : ℕ) → z ≡ from +ℤ pos s → s < start → sum_by (λ k. rows_if (from +ℤ pos k) z c) (range_with_len start n) ≡ 0
none_later from z c s start zero is less = refl
none_later from z c s start (suc n) is less =
    sum_by-cons (λ k. rows_if (from +ℤ pos k) z c) start (range_with_len (start + 1) n)
    ∙ ap (λ b. (if b then c else 0) + sum_by (λ k. rows_if (from +ℤ pos k) z c) (range_with_len (start + 1) n)) (apart_from from z s start is less)
    ∙ zero-add (sum_by (λ k. rows_if (from +ℤ pos k) z c) (range_with_len (start + 1) n))
    ∙ none_later from z c s (start + 1) n is (omega arith)

once : (from z : ℤ) (c start n : ℕ) → sum_by (λ k. rows_if (from +ℤ pos k) z c) (range_with_len start n) ≡ (if list_any (same_int z) (map (λ k. from +ℤ pos k) (range_with_len start n)) then c else 0)
once from z c start zero = refl
once from z c start (suc n) =
    sum_by-cons (λ k. rows_if (from +ℤ pos k) z c) start (range_with_len (start + 1) n)
    ∙ by_test (int_eq z (from +ℤ pos start)) refl (once from z c (start + 1) n)
    ∙ ap (λ b. if b || list_any (same_int z) (map (λ k. from +ℤ pos k) (range_with_len (start + 1) n)) then c else 0) (same_int-flip z (from +ℤ pos start))
  where
    by_test : (b : Bool) → int_eq z (from +ℤ pos start) ≡ b → sum_by (λ k. rows_if (from +ℤ pos k) z c) (range_with_len (start + 1) n) ≡ (if list_any (same_int z) (map (λ k. from +ℤ pos k) (range_with_len (start + 1) n)) then c else 0) → (if b then c else 0) + sum_by (λ k. rows_if (from +ℤ pos k) z c) (range_with_len (start + 1) n) ≡ (if b || list_any (same_int z) (map (λ k. from +ℤ pos k) (range_with_len (start + 1) n)) then c else 0)
    by_test true is rest = (let none = none_later from z c start (start + 1) n ((Decides-int_eq z (from +ℤ pos start)).0 is) (omega arith) in omega (arith, none))
    by_test false is rest = zero-add (sum_by (λ k. rows_if (from +ℤ pos k) z c) (range_with_len (start + 1) n)) ∙ rest

-- so the rows of the windows are those of the pieces that lie in one of them
in_windows : (from : ℤ) (n : ℕ) (ps : List Piece) → sum_by (λ k. rows_of_window (from +ℤ pos k) ps) (range_with_len 0 n) ≡ sum_by (λ (p : Piece). length p.rows) (filter (λ (p : Piece). list_any (same_int p.window) (map (λ k. from +ℤ pos k) (range_with_len 0 n))) ps)
in_windows from n [] = zeros (range_with_len 0 n)
in_windows from n (p ∷ ps) =
    plus (λ k. rows_if (from +ℤ pos k) p.window (length p.rows)) (λ k. rows_of_window (from +ℤ pos k) ps) (range_with_len 0 n)
    ∙ ap (λ s. s + sum_by (λ k. rows_of_window (from +ℤ pos k) ps) (range_with_len 0 n)) (once from p.window (length p.rows) 0 n)
    ∙ by_test (list_any (same_int p.window) (map (λ k. from +ℤ pos k) (range_with_len 0 n))) (in_windows from n ps)
  where
    by_test : (b : Bool) → sum_by (λ k. rows_of_window (from +ℤ pos k) ps) (range_with_len 0 n) ≡ sum_by (λ (q : Piece). length q.rows) (filter (λ (q : Piece). list_any (same_int q.window) (map (λ k. from +ℤ pos k) (range_with_len 0 n))) ps) → (if b then length p.rows else 0) + sum_by (λ k. rows_of_window (from +ℤ pos k) ps) (range_with_len 0 n) ≡ sum_by (λ (q : Piece). length q.rows) (if b then p ∷ filter (λ (q : Piece). list_any (same_int q.window) (map (λ k. from +ℤ pos k) (range_with_len 0 n))) ps else filter (λ (q : Piece). list_any (same_int q.window) (map (λ k. from +ℤ pos k) (range_with_len 0 n))) ps)
    by_test true rest = ap (λ s. length p.rows + s) rest ∙ sym (sum_by-cons (λ (q : Piece). length q.rows) p (filter (λ (q : Piece). list_any (same_int q.window) (map (λ k. from +ℤ pos k) (range_with_len 0 n))) ps))
    by_test false rest = zero-add (sum_by (λ k. rows_of_window (from +ℤ pos k) ps) (range_with_len 0 n)) ∙ rest

-- the counts together are the rows of the horizon
pub total_is : (counts : List ℕ) (first : ℤ) (board : Board) → length counts ≡ 13 → first ≡ first_of board.latest → AreCounts counts first board.pieces → sum counts ≡ rows_in_horizon (work_of board)
total_is counts first board wide horizon counted =
    ap sum (ext_get_or 0 counts (map (λ k. rows_of_window (first +ℤ pos k) board.pieces) (range_with_len 0 13)) (wide ∙ sym (length-map-range_with_len (λ k. rows_of_window (first +ℤ pos k) board.pieces) 0 13)) (λ k below. counted k (omega arith) ∙ sym (get_or-map-range_with_len (λ j. rows_of_window (first +ℤ pos j) board.pieces) 0 13 k k 0 (omega arith) (omega arith))))
    ∙ sum-map (λ k. rows_of_window (first +ℤ pos k) board.pieces) (range_with_len 0 13)
    ∙ in_windows first 13 board.pieces
    ∙ ap (λ (f : ℤ). sum_by (λ (p : Piece). length p.rows) (filter (λ (p : Piece). list_any (same_int p.window) (map (λ k. f +ℤ pos k) (range_with_len 0 13))) board.pieces)) horizon
