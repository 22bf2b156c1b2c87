-- Facts that every piece of a list has, and what is found after a piece was added or an object's were dropped.
use Rattle.std.proofs.Common.{◌≡◌, ◌≢◌, ℕ, Bool, true, false, if◌then◌else◌, List, [], ◌∷◌, ◌++◌, filter, Some, None, refl, sym, ap, ◌∙◌, subst, inl, inr, arith}
use Rattle.std.specs.Prelude.{ℤ, nat_le}
use Rattle.std.specs.List.{AllByRecursion}
use Rattle.std.proofs.lemmas.Bool.{cases_eq}
use Rattle.cal_model.specs.declared.piece.Piece.{Piece}
use Rattle.cal_model.specs.declared.row.Row.{Row}
use Rattle.cal_model.specs.Pieces.PieceLists.{is_other_piece, is_piece_at, rows_at, rows_in, newest_within}
use Rattle.cal_model.proofs.Pieces.PieceListLaws.{cons_none, pair_is, pair_at, rows_at_end}

-- what every piece has, those that are left have

pub All-newest_within : (P : Piece → Type 0) (room : ℕ) (ps : List Piece) → AllByRecursion P ps → AllByRecursion P (newest_within room ps)
All-newest_within P room [] h = tt
All-newest_within P room (p ∷ ps) h =
    elim (nat_le (rows_in (p ∷ ps)) room) as (λ b. AllByRecursion P (if b then p ∷ ps else newest_within room ps)) [
      | true ↦ h
      | false ↦ All-newest_within P room ps h.1
    ]

pub All-others : (P : Piece → Type 0) (q : Piece → Bool) (ps : List Piece) → AllByRecursion P ps → AllByRecursion P (filter q ps)
All-others P q [] h = tt
All-others P q (p ∷ ps) h =
    elim (q p) as (λ b. AllByRecursion P (if b then p ∷ filter q ps else filter q ps)) [
      | true ↦ (h.0, All-others P q ps h.1)
      | false ↦ All-others P q ps h.1
    ]

pub All-snoc : (P : Piece → Type 0) (ps : List Piece) (p : Piece) → AllByRecursion P ps → P p → AllByRecursion P (ps ++ p ∷ [])
All-snoc P [] p h new = (new, tt)
All-snoc P (q ∷ ps) p h new = (h.0, All-snoc P ps p h.1 new)

-- what is found is a piece of that origin and window
pub right_if_found : (P : ℕ → ℤ → List Row → Type 0) (o : ℕ) (w : ℤ) (rows : List Row) (ps : List Piece) → AllByRecursion (λ (p : Piece). P p.origin p.window p.rows) ps → rows_at o w ps ≡ Some rows → P o w rows
right_if_found P o w rows [] h found = absurd (cc)
right_if_found P o w rows (p ∷ ps) h found = by_test (right_if_found P o w rows ps h.1) (is_piece_at o w p) refl found
  where
    by_test : (rows_at o w ps ≡ Some rows → P o w rows) → (b : Bool) → is_piece_at o w p ≡ b → (if b then Some p.rows else rows_at o w ps) ≡ Some rows → P o w rows
    by_test later true is found =
        let pair = pair_is o w p is in
        let same : p.rows ≡ rows = cc in
        subst (λ x. P o w x) same (subst (λ y. P o y p.rows) pair.1 (subst (λ z. P z p.window p.rows) pair.0 h.0))
    by_test later false is found = later found

-- what was not there is not there after the oldest went
pub none_within : (o : ℕ) (w : ℤ) (room : ℕ) (ps : List Piece) → rows_at o w ps ≡ None → rows_at o w (newest_within room ps) ≡ None
none_within o w room [] h = refl
none_within o w room (p ∷ ps) h =
    elim (nat_le (rows_in (p ∷ ps)) room) as (λ b. rows_at o w (if b then p ∷ ps else newest_within room ps) ≡ None) [
      | true ↦ h
      | false ↦ none_within o w room ps (cons_none (is_piece_at o w p) p.rows (rows_at o w ps) h).1
    ]

-- the piece that was added is found
pub found_after_add : (room : ℕ) (ps : List Piece) (p : Piece) → rows_at p.origin p.window ps ≡ None → rows_at p.origin p.window (newest_within room ps ++ p ∷ []) ≡ Some p.rows
found_after_add room ps p new =
    rows_at_end p.origin p.window (newest_within room ps) p (none_within p.origin p.window room ps new)
    ∙ ap (λ b. if b then Some p.rows else None) (pair_at p.origin p.window p refl refl)

-- the pieces of the object that was dropped are not found, and all others are
pub none_after_drop : (o : ℕ) (w : ℤ) (ps : List Piece) → rows_at o w (filter (is_other_piece o) ps) ≡ None
none_after_drop o w [] = refl
none_after_drop o w (p ∷ ps) =
    by_cases (none_after_drop o w ps)
  where
    by_cases : rows_at o w (filter (is_other_piece o) ps) ≡ None → rows_at o w (filter (is_other_piece o) (p ∷ ps)) ≡ None
    by_cases rest = elim (cases_eq p.origin o) [ inl same ↦ grind (arith, rest) | inr far ↦ grind (arith, rest) ]

pub same_after_drop : (o other : ℕ) (w : ℤ) (ps : List Piece) → other ≢ o → rows_at other w (filter (is_other_piece o) ps) ≡ rows_at other w ps
same_after_drop o other w [] far = refl
same_after_drop o other w (p ∷ ps) far = by_cases (same_after_drop o other w ps far)
  where
    by_cases : rows_at other w (filter (is_other_piece o) ps) ≡ rows_at other w ps → rows_at other w (filter (is_other_piece o) (p ∷ ps)) ≡ rows_at other w (p ∷ ps)
    by_cases rest = elim (cases_eq p.origin o) [ inl same ↦ (let off : p.origin ≢ other = λ e. far (sym e ∙ same) in grind (arith, rest)) | inr far_too ↦ grind (arith, rest) ]
