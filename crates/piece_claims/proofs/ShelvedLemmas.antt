-- Of which object pieces change when one comes; and what stands on a shelf that has those of all entries.
use Rattle.std.proofs.Common.{◌≡◌, ◌≢◌, ℕ, ◌<◌, ◌≤◌, Bool, true, false, ◌&&◌, ◌==◌, if◌then◌else◌, List, [], ◌∷◌, ◌++◌, Some, None, refl, sym, ap, ◌∙◌, inl, inr, arith}
use Rattle.std.specs.Prelude.{ℤ, nat_lt}
use Rattle.std.specs.List.{AllByRecursion}
use Rattle.std.specs.Ordering.{int_eq}
use Rattle.std.proofs.lemmas.Bool.Decides.{nat_tests}
use Rattle.cal_model.specs.declared.piece.Piece.{Piece}
use Rattle.cal_model.specs.Pieces.PieceLists.{is_piece_at, rows_at}
use Rattle.cal_model.proofs.Pieces.PieceListLaws.{rows_at_front}
use Rattle.number_set.specs.Sets.{has}
use Rattle.number_set.proofs.TreeLemmas.{cases_le}
use Rattle.piece_shelf.specs.Shelves.{held_on}
use Rattle.piece_claims.specs.Kept.{AreOfLive}
use Rattle.piece_claims.specs.Shelved.{AreSameBut, IsFilled}
use Rattle.piece_claims.proofs.AgingLemmas.{known_live}

-- Tests

below : (o n : ℕ) → o < n → nat_lt o n ≡ true
below o n less = grind (arith, nat_tests)

beyond : (o n : ℕ) → n ≤ o → nat_lt o n ≡ false
beyond o n more = grind (arith, nat_tests)

apart : (a b : ℕ) → a ≢ b → (a == b) ≡ false
apart a b far = grind (arith, nat_tests)

-- A piece that comes

other_pair : (o origin : ℕ) (w : ℤ) (p : Piece) → p.origin ≡ origin → o ≢ origin → is_piece_at o w p ≡ false
other_pair o origin w p is far = ap (λ b. b && int_eq p.window w) (apart p.origin o (λ e. far (sym e ∙ is)))

pub same_but_last : (p : Piece) (ps : List Piece) → AreSameBut p.origin ps (ps ++ p ∷ [])
same_but_last p ps o w far = rows_at_front o w ps p (other_pair o p.origin w p refl far)

-- All entries are on the shelf

none_beyond : (n o : ℕ) (w : ℤ) (ps : List Piece) → AllByRecursion (λ (p : Piece). p.origin < n) ps → n ≤ o → rows_at o w ps ≡ None
none_beyond n o w [] all more = refl
none_beyond n o w (p ∷ ps) all more =
    ap (λ b. if b then Some p.rows else rows_at o w ps) (other_pair o p.origin w p refl (λ e. (let first = all.0 in absurd (omega (arith, e, first, more))))) ∙ none_beyond n o w ps all.1 more

pub whole : (n : ℕ) (live : List Bool) (pieces : List Piece) (shelf : List (List (List Piece))) → ((m : ℕ) → n ≤ m → has live m ≡ false) → AreOfLive live pieces → IsFilled n pieces shelf → (o : ℕ) (w : ℤ) → held_on shelf o w ≡ rows_at o w pieces
whole n live pieces shelf unknown of_live filled o w =
    filled o w
    ∙ elim (cases_le n o) [
      | inl more ↦ ap (λ b. if b then rows_at o w pieces else None) (beyond o n more) ∙ sym (none_beyond n o w pieces (known_live live n pieces unknown of_live) more)
      | inr less ↦ ap (λ b. if b then rows_at o w pieces else None) (below o n less)
    ]
