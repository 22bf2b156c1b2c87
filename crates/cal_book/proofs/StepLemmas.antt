-- What one entry more does to what a book keeps in step: the objects that its change ends are no longer flagged, their pieces go, and all other pieces stay right.
use Rattle.std.proofs.Common.{◌≡◌, ◌≢◌, ℕ, ◌<◌, ◌≤◌, Bool, true, false, ◌&&◌, List, [], ◌∷◌, ◌++◌, length, filter, cond, Option, Some, None, refl, sym, ap, ◌∙◌, subst, arith, ◌⊎◌, inl, inr}
use Rattle.std.specs.Prelude.{not, is_some, ◌==◌, bytes_eq}
use Rattle.std.specs.List.{AllByRecursion}
use Rattle.std.specs.Option.{option_map_or}
use Rattle.std.proofs.lemmas.Bool.{cases_lt, cases_eq, false≢true, eqb-true, eq-eqb, and_parts, and_from}
use Rattle.std.proofs.lemmas.List.{length-append, get_or_append_left, get_or_past, get_or-set_same, get_or-set_other, length-set}
use Rattle.std.proofs.lemmas.Slice.Eq.{bytes_eq-Decides}
use Rattle.std.proofs.Math.Seq.{get_or-append_seam}
use Rattle.cal_model.specs.declared.piece.Piece.{Piece}
use Rattle.cal_model.specs.History.Journal.{Entry}
use Rattle.cal_model.specs.History.KeptChanges.{is_deletion}
use Rattle.cal_model.specs.History.LiveObjects.{Placed, placed_by, ends, is_in_calendar, kept_unless, live_at}
use Rattle.cal_model.specs.History.Origins.{Origins, AreLive}
use Rattle.cal_model.specs.History.RightPieces.{IsRight, is_live, live_pieces}
use Rattle.cal_model.specs.Pieces.PieceLists.{is_other_piece}
use Rattle.cal_model.specs.State.Changes.{Change, put, delete_object, delete_calendar, make, patch, acl}
use Rattle.cal_model.proofs.History.LiveObjectLaws.{live_at-push, live_at-last}
use Rattle.cal_model.proofs.History.OriginLaws.{live_within}
use Rattle.cal_model.proofs.History.ReplayLaws.{some≢none}
use Rattle.cal_model.proofs.History.RightPieceLaws.{live_pieces-push}
use Rattle.number_set.specs.Sets.{has}
use Rattle.piece_claims.specs.Boards.{Board}
use Rattle.cal_book.specs.EndedObjects.{IsWithout, is_object, makes_object, replaced_by, with_entry, without_object}
use Rattle.cal_book.specs.UpToDate.{IsUpToDate}

-- Tests

and-true : (b : Bool) → (b && true) ≡ b
and-true true = refl
and-true false = refl

pub and-false : (b : Bool) → (b && false) ≡ false
and-false true = refl
and-false false = refl

-- what stays of an object is what was there and is not picked
kept-flag : (test : Placed → Bool) (o : Option Placed) → is_some (kept_unless test o) ≡ (is_some o && not (option_map_or test o false))
kept-flag test None = refl
kept-flag test (Some placed) = by (test placed) where
  by : (b : Bool) → is_some (elim b [ true ↦ None | false ↦ Some placed ]) ≡ (true && not b)
  by true = refl
  by false = refl

-- nothing is live from the end of a journal on
live_at-past : (journal : List Entry) (n : ℕ) → length journal ≤ n → is_some (live_at journal n) ≡ false
live_at-past journal n past = by (live_at journal n) refl where
  by : (o : Option Placed) → live_at journal n ≡ o → is_some (live_at journal n) ≡ false
  by None e = ap is_some e
  by (Some placed) e = absurd (let within = live_within journal n placed e in omega (arith, past, within))

made-flag : (change : Change) → is_some (placed_by change) ≡ makes_object change
made-flag (put home calendar object octets) = refl
made-flag (delete_object home calendar object) = refl
made-flag (delete_calendar home calendar) = refl
made-flag (make home calendar sets size) = refl
made-flag (patch home calendar sets size) = refl
made-flag (acl home calendar grants size) = refl

-- One entry more

module _ (journal : List Entry) (entry : Entry) where
  abbrev ended : Placed → Bool
  ended placed = ends placed entry.change

  abbrev longer : List Entry
  longer = journal ++ entry ∷ []

  flag-kept : (n : ℕ) → n < length journal → is_some (live_at longer n) ≡ (is_some (live_at journal n) && not (is_object journal ended n))
  flag-kept n within = ap is_some (live_at-push journal entry n within) ∙ kept-flag ended (live_at journal n)

  -- a right piece stays where its object is not picked
  piece-kept : (piece : Piece) → IsRight journal piece → is_live longer piece ≡ not (is_object journal ended piece.origin)
  piece-kept piece right =
      flag-kept piece.origin (live_within journal piece.origin right.placed right.live)
      ∙ ap (λ o. is_some o && not (is_object journal ended piece.origin)) right.live

  pub pieces-kept : (pieces : List Piece) → AllByRecursion (IsRight journal) pieces → live_pieces longer pieces ≡ filter (λ (piece : Piece). not (is_object journal ended piece.origin)) pieces
  pieces-kept [] right = refl
  pieces-kept (piece ∷ pieces) right =
      ap (λ b. cond b (piece ∷ live_pieces longer pieces) (live_pieces longer pieces)) (piece-kept piece right.0)
      ∙ ap (λ rest. cond (not (is_object journal ended piece.origin)) (piece ∷ rest) rest) (pieces-kept pieces right.1)

  module _ (old new : Board) (before : IsUpToDate journal old) (without : IsWithout journal ended old new) where
    abbrev after : Board
    after = with_entry (makes_object entry.change) new

    pub pieces-after : live_pieces longer old.pieces ≡ new.pieces
    pieces-after = pieces-kept old.pieces before.right ∙ sym without.pieces

    as_long : length new.live ≡ length journal
    as_long = without.size ∙ sym before.entries

    flag-after : (n : ℕ) → (n < length journal) ⊎ (length journal ≤ n) → is_some (live_at longer n) ≡ has after.live n
    flag-after n (inl within) =
        flag-kept n within
        ∙ ap (λ b. b && not (is_object journal ended n)) (before.live n)
        ∙ sym (without.live n)
        ∙ sym (get_or_append_left new.live (makes_object entry.change ∷ []) false n (omega (arith, within, as_long)))
    flag-after n (inr past) = by (cases_eq n (length journal)) where
      by : (n ≡ length journal) ⊎ (n ≢ length journal) → is_some (live_at longer n) ≡ has after.live n
      by (inl e) =
          ap (λ m. is_some (live_at longer m)) e
          ∙ ap is_some (live_at-last journal entry)
          ∙ made-flag entry.change
          ∙ sym (get_or-append_seam new.live (makes_object entry.change) [] false)
          ∙ ap (has after.live) (as_long ∙ sym e)
      by (inr other) =
          live_at-past longer n (omega (arith, past, other, length-append journal (entry ∷ [])))
          ∙ sym (get_or_past after.live n false (omega (arith, past, other, as_long, length-append new.live (makes_object entry.change ∷ []))))

    -- What is kept is in step again.
    pub IsUpToDate-after : IsUpToDate longer after
    IsUpToDate-after = record {
      entries = omega (arith, as_long, length-append journal (entry ∷ []), length-append new.live (makes_object entry.change ∷ []));
      live = λ n. flag-after n (cases_lt n (length journal));
      right = subst (AllByRecursion (IsRight longer)) pieces-after (live_pieces-push journal entry old.pieces before.right);
    }

-- The objects that a change ends

-- at a place there is one
abbrev is_at : ℕ → List ℕ → List ℕ → Placed → Bool
is_at home calendar object placed = is_in_calendar placed home calendar && bytes_eq placed.object object

pub same_octets : (name : List ℕ) → bytes_eq name name ≡ true
same_octets name = (bytes_eq-Decides name name).1 refl

pub filter_same : (p q : Piece → Bool) → ((piece : Piece) → p piece ≡ q piece) → (pieces : List Piece) → filter p pieces ≡ filter q pieces
filter_same p q same [] = refl
filter_same p q same (piece ∷ pieces) =
    ap (λ b. cond b (piece ∷ filter p pieces) (filter p pieces)) (same piece) ∙ ap (λ rest. cond (q piece) (piece ∷ rest) rest) (filter_same p q same pieces)

filter_all : (p : Piece → Bool) → ((piece : Piece) → p piece ≡ true) → (pieces : List Piece) → pieces ≡ filter p pieces
filter_all p all [] = refl
filter_all p all (piece ∷ pieces) = ap (λ rest. piece ∷ rest) (filter_all p all pieces) ∙ ap (λ b. cond b (piece ∷ filter p pieces) (filter p pieces)) (sym (all piece))

-- nothing is picked, so nothing goes
pub IsWithout-none : (journal : List Entry) (test : Placed → Bool) (board : Board) → ((n : ℕ) → is_object journal test n ≡ false) → IsWithout journal test board board
IsWithout-none journal test board none = record {
  size = refl;
  live = λ n. sym (and-true (has board.live n)) ∙ ap (λ b. has board.live n && not b) (sym (none n));
  pieces = filter_all (λ (piece : Piece). not (is_object journal test piece.origin)) (λ piece. ap not (none piece.origin)) board.pieces;
  latest = refl;
  out = refl;
  room = refl;
}

-- one object is picked: the one of an origin
pub IsWithout-one : (journal : List Entry) (test : Placed → Bool) (board : Board) (origin : ℕ) → ((n : ℕ) → is_object journal test n ≡ (n == origin)) → origin < length board.live
    → IsWithout journal test board (without_object (Some origin) board)
IsWithout-one journal test board origin one within = record {
  size = length-set board.live origin false;
  live = λ n. flag n (cases_eq n origin);
  pieces = filter_same (is_other_piece origin) (λ (piece : Piece). not (is_object journal test piece.origin)) (λ piece. ap not (sym (one piece.origin))) board.pieces;
  latest = refl;
  out = refl;
  room = refl;
} where
  flag : (n : ℕ) → (n ≡ origin) ⊎ (n ≢ origin) → has (without_object (Some origin) board).live n ≡ (has board.live n && not (is_object journal test n))
  flag n (inl e) =
      ap (has (without_object (Some origin) board).live) e
      ∙ get_or-set_same board.live origin false false within
      ∙ sym (and-false (has board.live n))
      ∙ ap (λ b. has board.live n && not b) (sym (one n ∙ eq-eqb n origin e))
  flag n (inr other) =
      get_or-set_other board.live origin n false false other
      ∙ sym (and-true (has board.live n))
      ∙ ap (λ b. has board.live n && not b) (sym (one n ∙ not_equal (n == origin) refl)) where
        not_equal : (b : Bool) → (n == origin) ≡ b → (n == origin) ≡ false
        not_equal true t = absurd (other (eqb-true n origin t))
        not_equal false t = t

module _ (journal : List Entry) (origins : Origins) (live : AreLive journal origins) where
  -- the object at a place is the one of the origin there
  at_place : (home : ℕ) (calendar object : List ℕ) (n : ℕ) (o : Option Placed) → live_at journal n ≡ o → option_map_or (is_at home calendar object) o false ≡ true → origins home calendar object ≡ Some n
  at_place home calendar object n None e t = absurd (false≢true t)
  at_place home calendar object n (Some placed) e t =
      let outer = and_parts _ _ t in
      let inner = and_parts _ _ outer.0 in
      let same_home : placed.home ≡ home = eqb-true placed.home home inner.0 in
      let same_calendar : placed.calendar ≡ calendar = (bytes_eq-Decides placed.calendar calendar).0 inner.1 in
      let same_object : placed.object ≡ object = (bytes_eq-Decides placed.object object).0 outer.1 in
      (λ i. origins (sym same_home i) (sym same_calendar i) (sym same_object i)) ∙ live.live n placed e

  is_there : (home : ℕ) (calendar object : List ℕ) (n : ℕ) → origins home calendar object ≡ Some n → is_object journal (is_at home calendar object) n ≡ true
  is_there home calendar object n e =
      let known = live.known home calendar object n e in
      ap (λ o. option_map_or (is_at home calendar object) o false) known.1
      ∙ and_from _ _ (and_from _ _ (eq-eqb home home refl) (same_octets calendar)) (same_octets object)

  pub object-at : (home : ℕ) (calendar object : List ℕ) (origin n : ℕ) → origins home calendar object ≡ Some origin → is_object journal (is_at home calendar object) n ≡ (n == origin)
  object-at home calendar object origin n e = by (is_object journal (is_at home calendar object) n) refl (cases_eq n origin) where
    number : ℕ → Option ℕ → ℕ
    number other None = other
    number other (Some k) = k

    by : (b : Bool) → is_object journal (is_at home calendar object) n ≡ b → (n ≡ origin) ⊎ (n ≢ origin) → is_object journal (is_at home calendar object) n ≡ (n == origin)
    by b is (inl same) = ap (is_object journal (is_at home calendar object)) same ∙ is_there home calendar object origin e ∙ sym (eq-eqb n origin same)
    by true is (inr other) = absurd (other (ap (number n) (sym (at_place home calendar object n (live_at journal n) refl is) ∙ e)))
    by false is (inr other) = is ∙ sym (not_equal (n == origin) refl) where
      not_equal : (t : Bool) → (n == origin) ≡ t → (n == origin) ≡ false
      not_equal true t = absurd (other (eqb-true n origin t))
      not_equal false t = t

  object-nowhere : (home : ℕ) (calendar object : List ℕ) (n : ℕ) → origins home calendar object ≡ None → is_object journal (is_at home calendar object) n ≡ false
  object-nowhere home calendar object n e = by (is_object journal (is_at home calendar object) n) refl where
    by : (b : Bool) → is_object journal (is_at home calendar object) n ≡ b → is_object journal (is_at home calendar object) n ≡ false
    by true is = absurd (some≢none n (sym (at_place home calendar object n (live_at journal n) refl is) ∙ e))
    by false is = is

  -- an origin is the number of an entry
  pub origin-within : (home : ℕ) (calendar object : List ℕ) (origin : ℕ) → origins home calendar object ≡ Some origin → origin < length journal
  origin-within home calendar object origin e =
      let known = live.known home calendar object origin e in live_within journal origin _ known.1

  module _ (board : Board) (before : IsUpToDate journal board) where
    without-at : (home : ℕ) (calendar object : List ℕ) (found : Option ℕ) → origins home calendar object ≡ found → IsWithout journal (is_at home calendar object) board (without_object found board)
    without-at home calendar object None e = IsWithout-none journal (is_at home calendar object) board (λ n. object-nowhere home calendar object n e)
    without-at home calendar object (Some origin) e =
        IsWithout-one journal (is_at home calendar object) board origin (λ n. object-at home calendar object origin n e)
        (let within = origin-within home calendar object origin e in let size = before.entries in omega (arith, within, size))

    nothing : (n : ℕ) → is_object journal (λ placed. false) n ≡ false
    nothing n = by (live_at journal n) where
      by : (o : Option Placed) → option_map_or (λ (placed : Placed). false) o false ≡ false
      by None = refl
      by (Some placed) = refl

    -- A change that is no deletion ends the object that it replaces.
    pub without-replaced : (change : Change) → is_deletion change ≡ false → IsWithout journal (λ placed. ends placed change) board (without_object (replaced_by origins change) board)
    without-replaced (put home calendar object octets) adds = without-at home calendar object (origins home calendar object) refl
    without-replaced (delete_object home calendar object) adds = absurd (false≢true (sym adds))
    without-replaced (delete_calendar home calendar) adds = absurd (false≢true (sym adds))
    without-replaced (make home calendar sets size) adds = IsWithout-none journal (λ placed. false) board nothing
    without-replaced (patch home calendar sets size) adds = IsWithout-none journal (λ placed. false) board nothing
    without-replaced (acl home calendar grants size) adds = IsWithout-none journal (λ placed. false) board nothing

    -- The deletion of an object ends that object.
    pub without-deleted : (home : ℕ) (calendar object : List ℕ) → IsWithout journal (λ placed. ends placed (delete_object home calendar object)) board (without_object (origins home calendar object) board)
    without-deleted home calendar object = without-at home calendar object (origins home calendar object) refl

-- an object that is replaced was made by an entry
pub replaced-within : (journal : List Entry) (origins : Origins) → AreLive journal origins → (change : Change) (origin : ℕ) → replaced_by origins change ≡ Some origin → origin < length journal
replaced-within journal origins live (put home calendar object octets) origin e = origin-within journal origins live home calendar object origin e
replaced-within journal origins live (delete_object home calendar object) origin e = absurd (some≢none origin (sym e))
replaced-within journal origins live (delete_calendar home calendar) origin e = absurd (some≢none origin (sym e))
replaced-within journal origins live (make home calendar sets size) origin e = absurd (some≢none origin (sym e))
replaced-within journal origins live (patch home calendar sets size) origin e = absurd (some≢none origin (sym e))
replaced-within journal origins live (acl home calendar grants size) origin e = absurd (some≢none origin (sym e))

-- What a step leaves: the journal with one entry more, and the board without what its change ends, and then with that entry.
module _ (journal longer : List Entry) (entry : Entry) (old mid new : Board) (made : Bool) (entered : longer ≡ journal ++ entry ∷ []) (before : IsUpToDate journal old)
    (without : IsWithout journal (λ placed. ends placed entry.change) old mid) (made_is : made ≡ makes_object entry.change) (new_is : new ≡ with_entry made mid) where
  pub step-pieces : new.pieces ≡ live_pieces longer old.pieces
  step-pieces = ap (λ (b : Board). b.pieces) new_is ∙ sym (pieces-after journal entry old mid before without) ∙ ap (λ j. live_pieces j old.pieces) (sym entered)

  pub step-kept : IsUpToDate longer new
  step-kept =
      subst (λ j. IsUpToDate j new) (sym entered)
      (subst (IsUpToDate (journal ++ entry ∷ [])) (ap (λ b. with_entry b mid) (sym made_is) ∙ sym new_is) (IsUpToDate-after journal entry old mid before without))
