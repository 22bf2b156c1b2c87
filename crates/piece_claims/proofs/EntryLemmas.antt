-- One more entry, and one more piece, over flags and over a journal.
use Rattle.std.proofs.Common.{◌≡◌, ◌≢◌, ℕ, ◌-◌, ◌<◌, ◌≤◌, Bool, true, false, ◌&&◌, ◌==◌, if◌then◌else◌, List, [], ◌∷◌, ◌++◌, length, length-append, filter, set, length-set, Option, Some, None, Ok, refl, sym, ap, ◌∙◌, inl, inr, arith}
use Rattle.std.specs.Prelude.{ℤ, not, is_some}
use Rattle.std.specs.List.{AllByRecursion}
use Rattle.std.proofs.lemmas.Bool.{cases_eq}
use Rattle.std.proofs.lemmas.Bool.Decides.{Decides-eqb}
use Rattle.std.proofs.lemmas.List.{get_or-set_same, get_or-set_other, get_or_append_left, get_or_past}
use Rattle.cal_model.specs.declared.object.Object.{Object}
use Rattle.cal_model.specs.declared.piece.Piece.{Piece}
use Rattle.cal_model.specs.declared.row.Row.{Row}
use Rattle.cal_model.specs.History.Claims.{Work}
use Rattle.cal_model.specs.History.Journal.{Entry}
use Rattle.cal_model.specs.History.LiveObjects.{Placed, ends, kept_unless, live_at}
use Rattle.cal_model.specs.History.RightPieces.{IsRight, live_pieces}
use Rattle.cal_model.specs.Instances.Rows.{rows_in}
use Rattle.cal_model.specs.Objects.ObjectReading.{read_object}
use Rattle.cal_model.specs.Pieces.PieceLists.{is_other_piece, rows_at, newest_within}
use Rattle.cal_model.proofs.History.LiveObjectLaws.{live_at-push, live_at-last}
use Rattle.cal_model.proofs.History.OriginLaws.{live_within}
use Rattle.cal_model.proofs.Pieces.FoundPieces.{All-newest_within, All-snoc, found_after_add, right_if_found}
use Rattle.number_set.specs.Sets.{has}
use Rattle.number_set.proofs.TreeLemmas.{cases_le, has_within}
use Rattle.piece_claims.specs.Boards.{Board, Shows, piece_at, pieces_with, rows_limit}
use Rattle.piece_claims.specs.Entries.{HasEntry, ends_it, pieces_of_live, work_with}
use Rattle.piece_claims.specs.Kept.{AreOfLive}

-- One more entry

-- what is there of an object that an entry may end
kept_is : (entry : Entry) (o : Option Placed) → is_some (kept_unless (λ placed. ends placed entry.change) o) ≡ (is_some o && not (ends_it entry o))
kept_is entry None = refl
kept_is entry (Some placed) = by_test (ends placed entry.change)
  where
    by_test : (b : Bool) → is_some (elim b as (λ x. Option Placed) [ true ↦ None | false ↦ Some placed ]) ≡ not b
    by_test true = refl
    by_test false = refl

-- nothing is there of an entry past the end
none_past : (journal : List Entry) (n : ℕ) → length journal ≤ n → is_some (live_at journal n) ≡ false
none_past journal n past = by_case (live_at journal n) refl
  where
    by_case : (o : Option Placed) → live_at journal n ≡ o → is_some o ≡ false
    by_case None e = refl
    by_case (Some placed) e = absurd (let within = live_within journal n placed e in omega arith)

pub entry_shown : (old new : Board) (work : Work) (entry : Entry) → Shows old work → HasEntry old new work.journal entry → Shows new (work_with entry new work)
entry_shown old new work entry shows has_entry =
    record {
      entries = (let a = shows.entries in let b = has_entry.entries in omega (arith, a, b, length-append work.journal (entry ∷ [])));
      live = live_now;
      latest = refl;
      pieces = refl;
      out = refl;
    }
  where
    live_now : (n : ℕ) → is_some (live_at (work.journal ++ entry ∷ []) n) ≡ has new.live n
    live_now n =
        elim (cases_le (length work.journal) n) [
          | inr below ↦
              ap is_some (live_at-push work.journal entry n below)
              ∙ kept_is entry (live_at work.journal n)
              ∙ ap (λ b. b && not (ends_it entry (live_at work.journal n))) (shows.live n)
              ∙ sym (has_entry.others n (let a = shows.entries in omega arith))
          | inl above ↦
              elim (cases_eq n (length work.journal)) [
                | inl last ↦
                    ap (λ (m : ℕ). is_some (live_at (work.journal ++ entry ∷ []) m)) last
                    ∙ ap is_some (live_at-last work.journal entry)
                    ∙ sym has_entry.last
                    ∙ ap (has new.live) (sym (last ∙ shows.entries))
                | inr far ↦
                    none_past (work.journal ++ entry ∷ []) n (omega (arith, length-append work.journal (entry ∷ [])))
                    ∙ sym (get_or_past new.live n false (let a = shows.entries in let b = has_entry.entries in omega arith))
              ]
        ]

-- Pieces of flagged entries

pub live_are : (board : Board) (work : Work) (pieces : List Piece) → Shows board work → live_pieces work.journal pieces ≡ pieces_of_live board.live pieces
live_are board work [] shows = refl
live_are board work (p ∷ pieces) shows =
    ap (λ b. if b then p ∷ live_pieces work.journal pieces else live_pieces work.journal pieces) (shows.live p.origin)
    ∙ ap (λ ps. if has board.live p.origin then p ∷ ps else ps) (live_are board work pieces shows)

pub all_live : (live : List Bool) (pieces : List Piece) → AreOfLive live pieces → pieces_of_live live pieces ≡ pieces
all_live live [] all = refl
all_live live (p ∷ pieces) all =
    ap (λ b. if b then p ∷ pieces_of_live live pieces else pieces_of_live live pieces) all.0
    ∙ ap (λ ps. p ∷ ps) (all_live live pieces all.1)

has_set : (live : List Bool) (o n : ℕ) → has (set live o false) n ≡ (not (n == o) && has live n)
has_set live o n =
    elim (cases_eq n o) [
      | inl same ↦ ap (has (set live o false)) same ∙ gone ∙ ap (λ b. not b && has live n) (sym ((Decides-eqb n o).1 same))
      | inr far ↦ get_or-set_other live o n false false far ∙ ap (λ b. not b && has live n) (sym (off n o far))
    ]
  where
    off : (a b : ℕ) → a ≢ b → (a == b) ≡ false
    off a b far = grind (arith, Decides-eqb)

    gone : has (set live o false) o ≡ false
    gone =
        elim (cases_le (length live) o) [
          | inr below ↦ get_or-set_same live o false false below
          | inl above ↦ get_or_past (set live o false) o false (omega (arith, length-set live o false))
        ]

pub others_live : (live : List Bool) (o : ℕ) (pieces : List Piece) → filter (is_other_piece o) (pieces_of_live live pieces) ≡ pieces_of_live (set live o false) pieces
others_live live o [] = refl
others_live live o (p ∷ pieces) =
    by_test (has live p.origin)
    ∙ ap (λ ps. if not (p.origin == o) && has live p.origin then p ∷ ps else ps) (others_live live o pieces)
    ∙ ap (λ b. if b then p ∷ pieces_of_live (set live o false) pieces else pieces_of_live (set live o false) pieces) (sym (has_set live o p.origin))
  where
    by_test : (alive : Bool) → filter (is_other_piece o) (if alive then p ∷ pieces_of_live live pieces else pieces_of_live live pieces) ≡ (if not (p.origin == o) && alive then p ∷ filter (is_other_piece o) (pieces_of_live live pieces) else filter (is_other_piece o) (pieces_of_live live pieces))
    by_test true = by_own (p.origin == o)
      where
        by_own : (own : Bool) → (if not own then p ∷ filter (is_other_piece o) (pieces_of_live live pieces) else filter (is_other_piece o) (pieces_of_live live pieces)) ≡ (if not own && true then p ∷ filter (is_other_piece o) (pieces_of_live live pieces) else filter (is_other_piece o) (pieces_of_live live pieces))
        by_own true = refl
        by_own false = refl
    by_test false = by_own (p.origin == o)
      where
        by_own : (own : Bool) → filter (is_other_piece o) (pieces_of_live live pieces) ≡ (if not own && false then p ∷ filter (is_other_piece o) (pieces_of_live live pieces) else filter (is_other_piece o) (pieces_of_live live pieces))
        by_own true = refl
        by_own false = refl

pub entry_leaves : (live : List Bool) (made : Bool) (pieces : List Piece) → AllByRecursion (λ (piece : Piece). piece.origin < length live) pieces → pieces_of_live (live ++ made ∷ []) pieces ≡ pieces_of_live live pieces
entry_leaves live made [] known = refl
entry_leaves live made (p ∷ pieces) known =
    ap (λ b. if b then p ∷ pieces_of_live (live ++ made ∷ []) pieces else pieces_of_live (live ++ made ∷ []) pieces) (get_or_append_left live (made ∷ []) false p.origin known.0)
    ∙ ap (λ ps. if has live p.origin then p ∷ ps else ps) (entry_leaves live made pieces known.1)

pub all_known : (live : List Bool) (pieces : List Piece) → AreOfLive live pieces → AllByRecursion (λ (piece : Piece). piece.origin < length live) pieces
all_known live [] all = tt
all_known live (p ∷ pieces) all = (has_within live p.origin all.0, all_known live pieces all.1)

-- One more piece

right_with : (journal : List Entry) (piece : Piece) (pieces : List Piece) → IsRight journal piece → AllByRecursion (IsRight journal) pieces → AllByRecursion (IsRight journal) (newest_within (rows_limit - length piece.rows) pieces ++ piece ∷ [])
right_with journal piece pieces right all =
    All-snoc (IsRight journal) (newest_within (rows_limit - length piece.rows) pieces) piece (All-newest_within (IsRight journal) (rows_limit - length piece.rows) pieces all) right

pub all_right_with : (journal : List Entry) (piece : Piece) (pieces : List Piece) → IsRight journal piece → AllByRecursion (IsRight journal) pieces → AllByRecursion (IsRight journal) (pieces_with piece pieces)
all_right_with journal piece pieces right all =
    by_test (is_some (rows_at piece.origin piece.window pieces))
  where
    by_test : (b : Bool) → AllByRecursion (IsRight journal) (if b then pieces else newest_within (rows_limit - length piece.rows) pieces ++ piece ∷ [])
    by_test true = all
    by_test false = right_with journal piece pieces right all

-- two right pieces of one object and window have the same rows
same_rows : (journal : List Entry) (a b : Piece) → a.origin ≡ b.origin → a.window ≡ b.window → IsRight journal a → IsRight journal b → a.rows ≡ b.rows
same_rows journal a b origin window one two =
    one.rows ∙ ap (λ (w : ℤ). rows_in one.object w) window ∙ ap (λ (o : Object). rows_in o b.window) same_object ∙ sym two.rows
  where
    same_placed : one.placed ≡ two.placed
    same_placed = (let e : Some one.placed ≡ Some two.placed = sym one.live ∙ ap (live_at journal) origin ∙ two.live in cc)

    same_object : one.object ≡ two.object
    same_object = (let e : Ok one.object ≡ Ok two.object = sym one.reading ∙ ap (λ (p : Placed). read_object p.octets) same_placed ∙ two.reading in cc)

pub found_with : (journal : List Entry) (piece : Piece) (pieces : List Piece) → IsRight journal piece → AllByRecursion (IsRight journal) pieces → rows_at piece.origin piece.window (pieces_with piece pieces) ≡ Some piece.rows
found_with journal piece pieces right all = by_case (rows_at piece.origin piece.window pieces) refl
  where
    by_case : (found : Option (List Row)) → rows_at piece.origin piece.window pieces ≡ found → rows_at piece.origin piece.window (if is_some found then pieces else newest_within (rows_limit - length piece.rows) pieces ++ piece ∷ []) ≡ Some piece.rows
    by_case None none = found_after_add (rows_limit - length piece.rows) pieces piece none
    by_case (Some rows) there =
        there
        ∙ ap Some (same_rows journal (piece_at piece.origin piece.window rows) piece refl refl (right_if_found (λ o w rs. IsRight journal (piece_at o w rs)) piece.origin piece.window rows pieces all there) right)
