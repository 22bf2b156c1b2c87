-- Lists of pieces when one goes or comes: filters, sums, ends of the list, and pairs that stay apart.
use Rattle.std.proofs.Common.{◌≡◌, ◌⊎◌, ℕ, ◌+◌, ◌-◌, ◌≤◌, ◌<◌, Bool, true, false, ◌&&◌, ◌==◌, if◌then◌else◌, List, [], ◌∷◌, ◌++◌, filter, length, Option, Some, None, refl, sym, ap, ◌∙◌, inl, inr, arith}
use Rattle.std.specs.Prelude.{ℤ, nat_le}
use Rattle.std.specs.Ordering.{int_eq}
use Rattle.std.proofs.lemmas.Bool.Decides.{Decides-int_eq, Decides-eqb, nat_tests}
use Rattle.cal_model.specs.declared.piece.Piece.{Piece}
use Rattle.cal_model.specs.declared.row.Row.{Row}
use Rattle.cal_model.specs.Pieces.PieceLists.{is_piece_at, rows_at, rows_in, newest_within, ArePairsApart}

-- Filters and sums

pub filter_append : (p : Piece → Bool) (xs ys : List Piece) → filter p (xs ++ ys) ≡ filter p xs ++ filter p ys
filter_append p [] ys = refl
filter_append p (x ∷ xs) ys =
    elim (p x) as (λ b. (if b then x ∷ filter p (xs ++ ys) else filter p (xs ++ ys)) ≡ (if b then x ∷ filter p xs else filter p xs) ++ filter p ys) [
      | true ↦ ap (λ zs. x ∷ zs) (filter_append p xs ys)
      | false ↦ filter_append p xs ys
    ]

pub rows_in_append : (xs ys : List Piece) → rows_in (xs ++ ys) ≡ rows_in xs + rows_in ys
rows_in_append [] ys = omega arith
rows_in_append (x ∷ xs) ys = omega (arith, rows_in_append xs ys)

-- The budget

pub within_step : (room : ℕ) (p : Piece) (ps : List Piece) → room < rows_in (p ∷ ps) → newest_within room (p ∷ ps) ≡ newest_within room ps
within_step room p ps over = grind (arith, nat_tests)

pub within_done : (room : ℕ) (ps : List Piece) → rows_in ps ≤ room → newest_within room ps ≡ ps
within_done room [] fits = refl
within_done room (p ∷ ps) fits = grind (arith, nat_tests)

cases_le : (a b : ℕ) → (a ≤ b) ⊎ (b < a)
cases_le a b = grind arith

-- a newest piece that fits stays
pub newest_stays : (budget : ℕ) (p : Piece) (ps : List Piece) → length p.rows ≤ budget → newest_within budget (ps ++ p ∷ []) ≡ newest_within (budget - length p.rows) ps ++ p ∷ []
newest_stays budget p [] fits = within_done budget (p ∷ []) (omega arith)
newest_stays budget p (q ∷ ps) fits =
    elim (cases_le (rows_in (q ∷ ps)) (budget - length p.rows)) [
      | inl small ↦
          within_done budget (q ∷ (ps ++ p ∷ [])) (omega (arith, rows_in_append ps (p ∷ [])))
          ∙ ap (λ xs. xs ++ p ∷ []) (sym (within_done (budget - length p.rows) (q ∷ ps) small))
      | inr large ↦
          within_step budget q (ps ++ p ∷ []) (omega (arith, rows_in_append ps (p ∷ [])))
          ∙ newest_stays budget p ps fits
          ∙ ap (λ xs. xs ++ p ∷ []) (sym (within_step (budget - length p.rows) q ps large))
    ]

-- Pairs

pub apart_within : (room : ℕ) (ps : List Piece) → ArePairsApart ps → ArePairsApart (newest_within room ps)
apart_within room [] h = tt
apart_within room (p ∷ ps) h =
    elim (nat_le (rows_in (p ∷ ps)) room) as (λ b. ArePairsApart (if b then p ∷ ps else newest_within room ps)) [
      | true ↦ h
      | false ↦ apart_within room ps h.1
    ]

pub cons_none : (b : Bool) (x : List Row) (r : Option (List Row)) → (if b then Some x else r) ≡ None → (b ≡ false) × (r ≡ None)
cons_none true x r h = absurd (cc)
cons_none false x r h = (refl, h)

same_bool : (a b : Bool) → (a ≡ true → b ≡ true) → (b ≡ true → a ≡ true) → a ≡ b
same_bool true b f g = sym (f refl)
same_bool false true f g = g refl
same_bool false false f g = refl

both_true : (a b : Bool) → (a && b) ≡ true → (a ≡ true) × (b ≡ true)
both_true true b h = (refl, h)
both_true false b h = absurd (cc)

pub pair_is : (o : ℕ) (w : ℤ) (p : Piece) → is_piece_at o w p ≡ true → (p.origin ≡ o) × (p.window ≡ w)
pair_is o w p h =
    let parts = both_true (p.origin == o) (int_eq p.window w) h in
    ((Decides-eqb p.origin o).0 parts.0, (Decides-int_eq p.window w).0 parts.1)

pub pair_at : (o : ℕ) (w : ℤ) (p : Piece) → p.origin ≡ o → p.window ≡ w → is_piece_at o w p ≡ true
pair_at o w p a b =
    ap (λ x. x && int_eq p.window w) ((Decides-eqb p.origin o).1 a) ∙ (Decides-int_eq p.window w).1 b

pub pair_symm : (p q : Piece) → is_piece_at q.origin q.window p ≡ is_piece_at p.origin p.window q
pair_symm p q =
    same_bool _ _ (λ h. let e = pair_is q.origin q.window p h in pair_at p.origin p.window q (sym e.0) (sym e.1))
    (λ h. let e = pair_is p.origin p.window q h in pair_at q.origin q.window p (sym e.0) (sym e.1))

pub rows_none_filter : (q : Piece → Bool) (o : ℕ) (w : ℤ) (ps : List Piece) → rows_at o w ps ≡ None → rows_at o w (filter q ps) ≡ None
rows_none_filter q o w [] h = refl
rows_none_filter q o w (p ∷ ps) h =
    let e = cons_none (is_piece_at o w p) p.rows (rows_at o w ps) h in
    elim (q p) as (λ b. rows_at o w (if b then p ∷ filter q ps else filter q ps) ≡ None) [
      | true ↦ ap (λ b. if b then Some p.rows else rows_at o w (filter q ps)) e.0 ∙ rows_none_filter q o w ps e.1
      | false ↦ rows_none_filter q o w ps e.1
    ]

pub apart_pairs_filter : (q : Piece → Bool) (ps : List Piece) → ArePairsApart ps → ArePairsApart (filter q ps)
apart_pairs_filter q [] h = tt
apart_pairs_filter q (p ∷ ps) h =
    elim (q p) as (λ b. ArePairsApart (if b then p ∷ filter q ps else filter q ps)) [
      | true ↦ (rows_none_filter q p.origin p.window ps h.0, apart_pairs_filter q ps h.1)
      | false ↦ apart_pairs_filter q ps h.1
    ]

-- a piece at the end
pub rows_at_end : (o : ℕ) (w : ℤ) (xs : List Piece) (p : Piece) → rows_at o w xs ≡ None → rows_at o w (xs ++ p ∷ []) ≡ (if is_piece_at o w p then Some p.rows else None)
rows_at_end o w [] p h = refl
rows_at_end o w (x ∷ xs) p h =
    let e = cons_none (is_piece_at o w x) x.rows (rows_at o w xs) h in
    ap (λ b. if b then Some x.rows else rows_at o w (xs ++ p ∷ [])) e.0 ∙ rows_at_end o w xs p e.1

pub rows_at_front : (o : ℕ) (w : ℤ) (xs : List Piece) (p : Piece) → is_piece_at o w p ≡ false → rows_at o w (xs ++ p ∷ []) ≡ rows_at o w xs
rows_at_front o w [] p other = ap (λ b. if b then Some p.rows else None) other
rows_at_front o w (x ∷ xs) p other =
    ap (λ r. if is_piece_at o w x then Some x.rows else r) (rows_at_front o w xs p other)

pub none_in_parts : (o : ℕ) (w : ℤ) (xs : List Piece) (p : Piece) → rows_at o w (xs ++ p ∷ []) ≡ None → (rows_at o w xs ≡ None) × (is_piece_at o w p ≡ false)
none_in_parts o w [] p h = (refl, (cons_none (is_piece_at o w p) p.rows None h).0)
none_in_parts o w (x ∷ xs) p h =
    let e = cons_none (is_piece_at o w x) x.rows (rows_at o w (xs ++ p ∷ [])) h in
    let rest = none_in_parts o w xs p e.1 in
    (ap (λ b. if b then Some x.rows else rows_at o w xs) e.0 ∙ rest.0, rest.1)

pub apart_snoc : (p : Piece) (ps : List Piece) → ArePairsApart ps → rows_at p.origin p.window ps ≡ None → ArePairsApart (ps ++ p ∷ [])
apart_snoc p [] h new = (refl, tt)
apart_snoc p (q ∷ ps) h new =
    let e = cons_none (is_piece_at p.origin p.window q) q.rows (rows_at p.origin p.window ps) new in (
      rows_at_end q.origin q.window ps p h.0 ∙ ap (λ b. if b then Some p.rows else None) (pair_symm p q ∙ e.0),
      apart_snoc p ps h.1 e.1,
    )

pub apart_parts : (p : Piece) (ps : List Piece) → ArePairsApart (ps ++ p ∷ []) → ArePairsApart ps × (rows_at p.origin p.window ps ≡ None)
apart_parts p [] h = (tt, refl)
apart_parts p (q ∷ ps) h =
    let e = none_in_parts q.origin q.window ps p h.0 in
    let rest = apart_parts p ps h.1 in
    ((e.0, rest.0), ap (λ b. if b then Some q.rows else rows_at p.origin p.window ps) (sym (pair_symm p q) ∙ e.1) ∙ rest.1)
