-- The list of pieces when one goes out or comes in.
use Rattle.std.proofs.Common.{◌≡◌, ◌≢◌, ℕ, ◌+◌, Bool, true, false, if◌then◌else◌, List, [], ◌∷◌, ◌++◌, map, filter, length, Option, Some, None, IsSome, MatchOption, refl, sym, ap, ◌∙◌, subst, inl, inr, arith, append_assoc, length-append}
use Rattle.std.specs.Prelude.{ℤ}
use Rattle.std.specs.List.{last_or}
use Rattle.std.proofs.lemmas.Bool.{cases_eq}
use Rattle.std.proofs.lemmas.List.{append-nil}
use Rattle.cal_model.specs.declared.piece.Piece.{Piece}
use Rattle.cal_model.proofs.Pieces.PieceListLaws.{filter_append, rows_in_append, pair_is, rows_at_end, rows_at_front, apart_parts}
use Rattle.piece_index.specs.Chains.{first, IsAbsent, IsApart}
use Rattle.piece_index.specs.Entries.{keys, is_of, keys_of, piece_of, removed}
use Rattle.cal_model.specs.Pieces.PieceLists.{is_piece_of, is_other_piece, is_piece_at, rows_at, rows_in, ArePairsApart}
use Rattle.piece_index.specs.Entries.{pieces_of, IsOneOut}
use Rattle.piece_index.proofs.EntryLemmas.{removed_else}

-- Which entry goes out

none_if_absent : (k : ℕ) (es : List (ℕ × Piece)) → IsAbsent k (keys es) → piece_of k es ≡ None
none_if_absent k [] absent = refl
none_if_absent k (e ∷ es) absent = grind (arith, none_if_absent k es absent.1, absent.0)

later_piece : (k : ℕ) (p : Piece) (e : ℕ × Piece) (es : List (ℕ × Piece)) → IsAbsent e.0 (keys es) → piece_of k es ≡ Some p → (e.0 ≢ k) × (piece_of k (e ∷ es) ≡ Some p)
later_piece k p e es absent found =
    let far : e.0 ≢ k = λ same. (let f = sym found ∙ ap (λ n. piece_of n es) (sym same) ∙ none_if_absent e.0 es absent in cc) in
    (far, grind (arith, far))

pub first_member : (o k : ℕ) (es : List (ℕ × Piece)) → IsApart (keys es) → first (keys_of o es) ≡ Some k → (p : Piece) × (piece_of k es ≡ Some p) × (p.origin ≡ o)
first_member o k [] apart at = absurd (cc)
first_member o k (e ∷ es) apart at =
    elim (cases_eq e.1.origin o) [
      | inl same ↦
          let kept : filter (is_of o) (e ∷ es) ≡ e ∷ filter (is_of o) es = grind arith in
          let here : Some e.0 ≡ Some k = sym (ap (λ (xs : List (ℕ × Piece)). first (keys xs)) kept) ∙ at in
          let number : e.0 ≡ k = cc in
          (e.1, grind arith, same)
      | inr far ↦
          let left_out : filter (is_of o) (e ∷ es) ≡ filter (is_of o) es = grind arith in
          let later = first_member o k es apart.1 (sym (ap (λ (xs : List (ℕ × Piece)). first (keys xs)) left_out) ∙ at) in
          (later.0, (later_piece k later.0 e es apart.0 later.1).1, later.2)
    ]

pub one_out : (k : ℕ) (p : Piece) (es : List (ℕ × Piece)) → piece_of k es ≡ Some p → IsOneOut p (pieces_of es) (pieces_of (removed k es))
one_out k p [] found = absurd (cc)
one_out k p (e ∷ es) found =
    elim (cases_eq e.0 k) [
      | inl same ↦
          let here : e.1 ≡ p = grind arith in
          let gone : removed k (e ∷ es) ≡ es = grind arith in
          record { before = pieces_of es; after = []; was = ap (λ q. pieces_of es ++ q ∷ []) here; left = ap pieces_of gone ∙ sym (append-nil (pieces_of es)) }
      | inr far ↦
          let later : piece_of k es ≡ Some p = grind arith in
          let out = one_out k p es later in
          record {
            before = out.before;
            after = out.after ++ e.1 ∷ [];
            was = ap (λ xs. xs ++ e.1 ∷ []) out.was ∙ append_assoc out.before (p ∷ out.after) (e.1 ∷ []);
            left = ap pieces_of (removed_else k e es far) ∙ ap (λ xs. xs ++ e.1 ∷ []) out.left ∙ append_assoc out.before out.after (e.1 ∷ []);
          }
    ]

pub oldest_out : (k : ℕ) (es : List (ℕ × Piece)) → IsApart (keys es) → last_or None (keys es) ≡ Some k → (p : Piece) × (piece_of k es ≡ Some p) × (pieces_of es ≡ p ∷ pieces_of (removed k es))
oldest_out k [] apart at = absurd (cc)
oldest_out k (e ∷ []) apart at =
    let number : e.0 ≡ k = cc in
    let gone : removed k (e ∷ []) ≡ [] = grind arith in
    (e.1, grind arith, ap (λ xs. e.1 ∷ pieces_of xs) (sym gone))
oldest_out k (e ∷ f ∷ es) apart at =
    let later = oldest_out k (f ∷ es) apart.1 at in
    let step = later_piece k later.0 e (f ∷ es) apart.0 later.1 in
    (later.0, step.1, ap (λ xs. xs ++ e.1 ∷ []) later.2 ∙ ap (λ xs. later.0 ∷ pieces_of xs) (sym (removed_else k e (f ∷ es) step.0)))

pub no_oldest : (es : List (ℕ × Piece)) → last_or None (keys es) ≡ None → pieces_of es ≡ []
no_oldest [] at = refl
no_oldest (e ∷ es) at = absurd (some_last e.0 (keys es) at)
  where
    some_last : (x : ℕ) (xs : List ℕ) → last_or (Some x) xs ≡ None → ⊥
    some_last x [] h = cc
    some_last x (y ∷ ys) h = some_last y ys h

pub none_of : (o : ℕ) (es : List (ℕ × Piece)) → first (keys_of o es) ≡ None → filter (is_piece_of o) (pieces_of es) ≡ []
none_of o [] at = refl
none_of o (e ∷ es) at =
    elim (cases_eq e.1.origin o) [
      | inl same ↦
          let kept : filter (is_of o) (e ∷ es) ≡ e ∷ filter (is_of o) es = grind arith in
          absurd (let f : Some e.0 ≡ None = sym (ap (λ (xs : List (ℕ × Piece)). first (keys xs)) kept) ∙ at in cc)
      | inr far ↦
          let left_out : filter (is_of o) (e ∷ es) ≡ filter (is_of o) es = grind arith in
          let rest = none_of o es (sym (ap (λ (xs : List (ℕ × Piece)). first (keys xs)) left_out) ∙ at) in
          let one : filter (is_piece_of o) (e.1 ∷ []) ≡ [] = grind arith in
          filter_append (is_piece_of o) (pieces_of es) (e.1 ∷ []) ∙ ap (λ xs. xs ++ filter (is_piece_of o) (e.1 ∷ [])) rest ∙ one
    ]

pub all_others : (o : ℕ) (ps : List Piece) → filter (is_piece_of o) ps ≡ [] → filter (is_other_piece o) ps ≡ ps
all_others o [] h = refl
all_others o (p ∷ ps) h =
    elim (cases_eq p.origin o) [
      | inl same ↦
          let kept : filter (is_piece_of o) (p ∷ ps) ≡ p ∷ filter (is_piece_of o) ps = grind arith in
          absurd (cc)
      | inr far ↦
          let left_out : filter (is_piece_of o) (p ∷ ps) ≡ filter (is_piece_of o) ps = grind arith in
          let rest = all_others o ps (sym left_out ∙ h) in
          grind (arith, rest)
    ]

module _ (piece : Piece) (old new : List Piece) (out : IsOneOut piece old new) where
  pub rows_out : rows_in new + length piece.rows ≡ rows_in old
  rows_out =
      omega (arith, ap rows_in out.was, ap rows_in out.left, rows_in_append out.before (piece ∷ out.after), rows_in_append out.before out.after)

  pub others_stay : (o : ℕ) → piece.origin ≡ o → filter (is_other_piece o) new ≡ filter (is_other_piece o) old
  others_stay o same =
      let skip : filter (is_other_piece o) (piece ∷ out.after) ≡ filter (is_other_piece o) out.after = grind arith in
      ap (filter (is_other_piece o)) out.left ∙ filter_append (is_other_piece o) out.before out.after
      ∙ ap (λ xs. filter (is_other_piece o) out.before ++ xs) (sym skip)
      ∙ sym (ap (filter (is_other_piece o)) out.was ∙ filter_append (is_other_piece o) out.before (piece ∷ out.after))

  pub one_fewer : (o : ℕ) → piece.origin ≡ o → length (filter (is_piece_of o) new) + 1 ≡ length (filter (is_piece_of o) old)
  one_fewer o same =
      let take : filter (is_piece_of o) (piece ∷ out.after) ≡ piece ∷ filter (is_piece_of o) out.after = grind arith in
      omega (
        arith,
        ap length (ap (filter (is_piece_of o)) out.left ∙ filter_append (is_piece_of o) out.before out.after),
        ap length (ap (filter (is_piece_of o)) out.was ∙ filter_append (is_piece_of o) out.before (piece ∷ out.after) ∙ ap (λ xs. filter (is_piece_of o) out.before ++ xs) take),
        length-append (filter (is_piece_of o) out.before) (filter (is_piece_of o) out.after),
        length-append (filter (is_piece_of o) out.before) (piece ∷ filter (is_piece_of o) out.after),
      )

-- the order of the pieces doesn't matter where the pairs are apart
pub rows_at_reversed : (o : ℕ) (w : ℤ) (es : List (ℕ × Piece)) → ArePairsApart (pieces_of es) → rows_at o w (map (λ (e : ℕ × Piece). e.1) es) ≡ rows_at o w (pieces_of es)
rows_at_reversed o w [] h = refl
rows_at_reversed o w (e ∷ es) h =
    let parts = apart_parts e.1 (pieces_of es) h in
    let rest = rows_at_reversed o w es parts.0 in
    by_test parts.1 rest (is_piece_at o w e.1) refl
  where
    by_test : rows_at e.1.origin e.1.window (pieces_of es) ≡ None → rows_at o w (map (λ (e : ℕ × Piece). e.1) es) ≡ rows_at o w (pieces_of es) → (b : Bool) → is_piece_at o w e.1 ≡ b → (if b then Some e.1.rows else rows_at o w (map (λ (e : ℕ × Piece). e.1) es)) ≡ rows_at o w (pieces_of es ++ e.1 ∷ [])
    by_test new rest true is =
        let pair = pair_is o w e.1 is in
        let none : rows_at o w (pieces_of es) ≡ None = ap (λ x. rows_at x w (pieces_of es)) (sym pair.0) ∙ ap (λ y. rows_at e.1.origin y (pieces_of es)) (sym pair.1) ∙ new in
        sym (rows_at_end o w (pieces_of es) e.1 none ∙ ap (λ b. if b then Some e.1.rows else None) is)
    by_test new rest false is = rest ∙ sym (rows_at_front o w (pieces_of es) e.1 is)

-- What the calls that take one out give

pub is_there : (k : ℕ) (p : Piece) (es : List (ℕ × Piece)) → piece_of k es ≡ Some p → IsSome (piece_of k es)
is_there k p es found = rw found refl

pub taken_first : (o k : ℕ) (old new : List (ℕ × Piece)) (r : Option Piece) → IsApart (keys old) → Some k ≡ first (keys_of o old) → r ≡ piece_of k old → new ≡ removed k old → MatchOption r ((filter (is_piece_of o) (pieces_of old) ≡ []) × (new ≡ old)) (λ piece. IsOneOut piece (pieces_of old) (pieces_of new) × (piece.origin ≡ o))
taken_first o k old new r apart at value rest =
    let m = first_member o k old apart (sym at) in
    rw (value ∙ m.1) (subst (λ es. IsOneOut m.0 (pieces_of old) (pieces_of es)) (sym rest) (one_out k m.0 old m.1), m.2)

pub taken_oldest : (k : ℕ) (old new : List (ℕ × Piece)) (r : Option Piece) → IsApart (keys old) → Some k ≡ last_or None (keys old) → r ≡ piece_of k old → new ≡ removed k old → MatchOption r ((pieces_of old ≡ []) × (new ≡ old)) (λ piece. pieces_of old ≡ piece ∷ pieces_of new)
taken_oldest k old new r apart at value rest =
    let m = oldest_out k old apart (sym at) in
    rw (value ∙ m.1) (m.2 ∙ ap (λ es. m.0 ∷ pieces_of es) (sym rest))
