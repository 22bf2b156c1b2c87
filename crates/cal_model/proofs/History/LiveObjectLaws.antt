-- One more entry ends the objects that it replaces or removes, makes at most one, and leaves all others: so the pieces of the others stay right.
use Rattle.std.proofs.Common.{◌≡◌, ℕ, ◌+◌, ◌<◌, Bool, true, false, ◌||◌, List, [], ◌∷◌, ◌++◌, length, drop, Option, Some, None, refl, sym, ap, ◌∙◌, arith}
use Rattle.std.specs.Prelude.{slice_get, option_and_then}
use Rattle.std.specs.List.{list_any}
use Rattle.std.proofs.lemmas.List.{drop-append-le, length-append, get_or_append_left}
use Rattle.std.proofs.lemmas.List.Folds.{list_any-append}
use Rattle.std.proofs.lemmas.Option.{slice_get-get_or}
use Rattle.std.proofs.Math.Seq.{get_or-append_seam, drop-length}
use Rattle.cal_model.specs.History.Journal.{Entry}
use Rattle.cal_model.specs.History.LiveObjects.{Placed, placed_by, ends, placed_at, is_ended, kept_unless, live_at}
use Rattle.cal_model.specs.declared.piece.Piece.{Piece}
use Rattle.cal_model.specs.History.RightPieces.{IsRight}

-- an entry of a longer journal
slice_get-push : (journal : List Entry) (entry : Entry) (n : ℕ) → n < length journal → slice_get (journal ++ entry ∷ []) n ≡ slice_get journal n
slice_get-push journal entry n within =
    slice_get-get_or (journal ++ entry ∷ []) n entry (omega (arith, within, length-append journal (entry ∷ [])))
    ∙ ap Some (get_or_append_left journal (entry ∷ []) entry n within)
    ∙ sym (slice_get-get_or journal n entry within)

slice_get-last : (journal : List Entry) (entry : Entry) → slice_get (journal ++ entry ∷ []) (length journal) ≡ Some entry
slice_get-last journal entry =
    slice_get-get_or (journal ++ entry ∷ []) (length journal) entry (omega (arith, length-append journal (entry ∷ [])))
    ∙ ap Some (get_or-append_seam journal entry [] entry)

-- what one more entry ends
is_ended-push : (journal : List Entry) (entry : Entry) (n : ℕ) (placed : Placed) → n < length journal
    → is_ended (journal ++ entry ∷ []) n placed ≡ (is_ended journal n placed || (ends placed entry.change || false))
is_ended-push journal entry n placed within =
    ap (list_any (λ (e : Entry). ends placed e.change)) (drop-append-le (n + 1) journal (entry ∷ []) (omega (arith, within)))
    ∙ list_any-append (λ (e : Entry). ends placed e.change) (drop (n + 1) journal) (entry ∷ [])

-- what is kept by two tests
kept-one : (placed : Placed) (before now : Bool) → elim (before || (now || false)) [ true ↦ None | false ↦ Some placed ] ≡ kept_unless (λ p. now) (elim before [ true ↦ None | false ↦ Some placed ])
kept-one placed true now = refl
kept-one placed false true = refl
kept-one placed false false = refl

kept-none : (placed : Placed) (before : Bool) (f : Placed → Bool) → kept_unless (λ p. f placed) (elim before [ true ↦ None | false ↦ Some placed ]) ≡ kept_unless f (elim before [ true ↦ None | false ↦ Some placed ])
kept-none placed true f = refl
kept-none placed false f = refl

kept-both : (before now : Placed → Bool) (o : Option Placed) → kept_unless (λ p. before p || (now p || false)) o ≡ kept_unless now (kept_unless before o)
kept-both before now None = refl
kept-both before now (Some placed) = kept-one placed (before placed) (now placed) ∙ kept-none placed (before placed) now

-- an object of the journal stays, unless the entry ends it
pub live_at-push : (journal : List Entry) (entry : Entry) (n : ℕ) → n < length journal
    → live_at (journal ++ entry ∷ []) n ≡ kept_unless (λ placed. ends placed entry.change) (live_at journal n)
live_at-push journal entry n within =
    ap (λ o. kept_unless (is_ended (journal ++ entry ∷ []) n) (option_and_then (λ (e : Entry). placed_by e.change) o)) (slice_get-push journal entry n within)
    ∙ ap (λ test. kept_unless test (placed_at journal n)) (λ i placed. is_ended-push journal entry n placed within i)
    ∙ kept-both (is_ended journal n) (λ placed. ends placed entry.change) (placed_at journal n)

none_behind : (journal : List Entry) (entry : Entry) (placed : Placed) → is_ended (journal ++ entry ∷ []) (length journal) placed ≡ false
none_behind journal entry placed =
    ap (λ n. list_any (λ (e : Entry). ends placed e.change) (drop n (journal ++ entry ∷ []))) (sym (length-append journal (entry ∷ [])))
    ∙ ap (list_any (λ (e : Entry). ends placed e.change)) (drop-length (journal ++ entry ∷ []))

kept-all : (o : Option Placed) → kept_unless (λ placed. false) o ≡ o
kept-all None = refl
kept-all (Some placed) = refl

-- the entry itself makes what its change makes
pub live_at-last : (journal : List Entry) (entry : Entry) → live_at (journal ++ entry ∷ []) (length journal) ≡ placed_by entry.change
live_at-last journal entry =
    ap (λ o. kept_unless (is_ended (journal ++ entry ∷ []) (length journal)) (option_and_then (λ (e : Entry). placed_by e.change) o)) (slice_get-last journal entry)
    ∙ ap (λ test. kept_unless test (placed_by entry.change)) (λ i placed. none_behind journal entry placed i)
    ∙ kept-all (placed_by entry.change)

-- A right piece stays right behind an entry that doesn't end its object.
pub IsRight-push : (journal : List Entry) (entry : Entry) (piece : Piece) (right : IsRight journal piece) → piece.origin < length journal → ends right.placed entry.change ≡ false
    → IsRight (journal ++ entry ∷ []) piece
IsRight-push journal entry piece right within stays = record {
  placed = right.placed;
  live = live_at-push journal entry piece.origin within ∙ ap (kept_unless (λ placed. ends placed entry.change)) right.live ∙ rw (stays, kept_unless) refl;
  object = right.object;
  reading = right.reading;
  rows = right.rows;
}
