-- Claims and pieces: an object that the journal made, and whether it is still there.
use Rattle.std.proofs.Common.{◌≡◌, ◌≢◌, ℕ, ◌≤◌, Bool, true, false, cond, List, [], ◌∷◌, ◌++◌, length, Option, Some, None, refl, sym, ap, ◌∙◌, arith}
use Rattle.std.specs.Prelude.{not, is_some, Ok, ℤ, ◌-◌}
use Rattle.std.specs.List.{AllByRecursion}
use Rattle.std.proofs.lemmas.Bool.Decides.{nat_tests}
use Rattle.std.proofs.lemmas.List.Filters.{length-filter_both}
use Rattle.std.proofs.lemmas.Bool.{or_parts}
use Rattle.cal_model.specs.declared.object.Object.{Object}
use Rattle.cal_model.specs.declared.piece.Piece.{Piece}
use Rattle.cal_model.specs.declared.row.Row.{Row}
use Rattle.cal_model.specs.declared.stored.Stored.{Stored}
use Rattle.cal_model.specs.History.Journal.{Entry}
use Rattle.cal_model.specs.History.LiveObjects.{Placed, placed_at, is_ended, kept_unless, live_at}
use Rattle.cal_model.specs.History.Origins.{Origins, AreLive}
use Rattle.cal_model.specs.History.RightPieces.{IsRight}
use Rattle.cal_model.specs.Instances.Rows.{rows, rows_in, has_fine_rule, lies_in_window}
use Rattle.cal_model.specs.Objects.ObjectReading.{read_object}
use Rattle.cal_model.specs.Pieces.PieceLists.{rows_at, newest_within}
use Rattle.cal_model.specs.Refusals.Preconditions.{IsServable, has_too_many}
use Rattle.cal_model.specs.Refusals.RequestLimits.{instances_limit}
use Rattle.cal_model.proofs.History.ReplayLaws.{some≢none}
use Rattle.cal_model.proofs.Pieces.FoundPieces.{All-newest_within, All-snoc, found_after_add, right_if_found}
use Rattle.piece_claims.specs.Boards.{Board, piece_at, pieces_with, published, rows_limit}
use Rattle.cal_book.specs.ClaimsOut.{IsMadeAt, placed_of}
use Rattle.cal_book.specs.UpToDate.{IsUpToDate}

-- Objects that can be served have no more rows than are served

pub rows-limited : (octets : List ℕ) (object : Object) → IsServable octets → read_object octets ≡ Ok object → length (rows object) ≤ instances_limit
rows-limited octets object servable reading =
    let same : servable.object ≡ object = cc (servable.reading, reading) in
    let few : has_too_many object ≡ false = ap has_too_many (sym same) ∙ servable.few in
    grind (arith, nat_tests, (or_parts (has_fine_rule object) _ few).1)

pub window-limited : (object : Object) (window : ℤ) → length (rows object) ≤ instances_limit → length (rows_in object window) ≤ 4_000_000
window-limited object window few =
    let both = length-filter_both (lies_in_window object window) (λ row. not (lies_in_window object window row)) (λ row. refl) (rows object) in
    omega (arith, both, few)

-- What was made and is still there

kept-some : (test : Placed → Bool) (o : Option Placed) (placed : Placed) → kept_unless test o ≡ Some placed → o ≡ Some placed
kept-some test None placed e = absurd (some≢none placed (sym e))
kept-some test (Some x) placed e = one (test x) e where
  one : (b : Bool) → elim b [ true ↦ None | false ↦ Some x ] ≡ Some placed → Some x ≡ Some placed
  one true e = absurd (some≢none placed (sym e))
  one false e = e

module _ (journal : List Entry) (origins : Origins) (live : AreLive journal origins) (origin : ℕ) (stored : Stored) (made : IsMadeAt journal origin stored) where
  abbrev here : Option ℕ
  here = origins stored.path.home stored.path.calendar stored.path.object

  pub live-now : here ≡ Some origin → live_at journal origin ≡ Some (placed_of stored)
  live-now e =
      let known = live.known stored.path.home stored.path.calendar stored.path.object origin e in
      known.1 ∙ sym (kept-some (is_ended journal origin) (placed_at journal origin) _ known.1) ∙ made

  pub stale-now : here ≢ Some origin → live_at journal origin ≡ None
  stale-now other = by (live_at journal origin) refl where
    by : (o : Option Placed) → live_at journal origin ≡ o → live_at journal origin ≡ None
    by None e = e
    by (Some placed) e =
        let same : Some placed ≡ Some (placed_of stored) = sym (kept-some (is_ended journal origin) (placed_at journal origin) placed e) ∙ made in
        absurd (other (live.live origin (placed_of stored) (e ∙ same)))

  -- A piece of its rows is right.
  pub piece-right : here ≡ Some origin → (window : ℤ) (found : List Row) → found ≡ rows_in stored.object window → IsRight journal (piece_at origin window found)
  piece-right e window found is = record {
    placed = placed_of stored;
    live = live-now e;
    object = stored.object;
    reading = stored.stored.reading;
    rows = is;
  }

-- So what is kept stays right.
pieces-right : (journal : List Entry) (piece : Piece) (pieces : List Piece) (there : Bool) → IsRight journal piece → AllByRecursion (IsRight journal) pieces
    → AllByRecursion (IsRight journal) (cond there pieces (newest_within (rows_limit - length piece.rows) pieces ++ piece ∷ []))
pieces-right journal piece pieces true right all = all
pieces-right journal piece pieces false right all =
    All-snoc (IsRight journal) (newest_within (rows_limit - length piece.rows) pieces) piece (All-newest_within (IsRight journal) (rows_limit - length piece.rows) pieces all) right

pub published-kept : (journal : List Entry) (piece : Piece) (board : Board) → IsRight journal piece → IsUpToDate journal board → IsUpToDate journal (published piece board)
published-kept journal piece board right before = record {
  entries = before.entries;
  live = before.live;
  right = pieces-right journal piece board.pieces (is_some (rows_at piece.origin piece.window board.pieces)) right before.right;
}

-- What was published is found

-- right pieces of one object and window have the same rows
same-rows : (journal : List Entry) (origin : ℕ) (window : ℤ) (one other : List Row) → IsRight journal (piece_at origin window one) → IsRight journal (piece_at origin window other) → one ≡ other
same-rows journal origin window one other a b =
    let placed : Some a.placed ≡ Some b.placed = sym a.live ∙ b.live in
    let octets : a.placed.octets ≡ b.placed.octets = cc in
    let reading : Ok a.object ≡ Ok b.object = sym a.reading ∙ ap read_object octets ∙ b.reading in
    let object : a.object ≡ b.object = cc in
    a.rows ∙ ap (λ (o : Object). rows_in o window) object ∙ sym b.rows

-- the pieces after a publication, by whether there is a piece already
abbrev kept_with : ℕ → ℤ → List Row → List Piece → Option (List Row) → List Piece
kept_with origin window found pieces there = cond (is_some there) pieces (newest_within (rows_limit - length found) pieces ++ piece_at origin window found ∷ [])

pub published-found : (journal : List Entry) (origin : ℕ) (window : ℤ) (found : List Row) (pieces : List Piece) → IsRight journal (piece_at origin window found) → AllByRecursion (IsRight journal) pieces
    → rows_at origin window (pieces_with (piece_at origin window found) pieces) ≡ Some found
published-found journal origin window found pieces right all = by (rows_at origin window pieces) refl where
  by : (there : Option (List Row)) → rows_at origin window pieces ≡ there → rows_at origin window (kept_with origin window found pieces (rows_at origin window pieces)) ≡ Some found
  by None none = ap (λ there. rows_at origin window (kept_with origin window found pieces there)) none ∙ found_after_add (rows_limit - length found) pieces (piece_at origin window found) none
  by (Some rows) there =
      ap (λ o. rows_at origin window (kept_with origin window found pieces o)) there ∙ there
      ∙ ap Some (same-rows journal origin window rows found (right_if_found (λ o w rs. IsRight journal (piece_at o w rs)) origin window rows pieces all there) right)
