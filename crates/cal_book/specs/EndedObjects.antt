-- Which objects a change ends, by their origins (RFC 4918, 9.6; RFC 9110, 9.3.4), and what a board is after they ended.
-- Given: the origins of the objects that are there, a change, or a journal and a place in a calendar.
use Rattle.std.specs.Prelude.{◌≡◌, ℕ, Bool, true, false, not, ◌&&◌, List, [], ◌∷◌, ◌++◌, ◌-◌, filter, length, slice_set, Option, Some, None, is_none}
use Rattle.std.specs.Option.{option_map_or}
use Rattle.cal_base.specs.Lists.NameMap.{Named, value_at}
use Rattle.cal_model.specs.declared.piece.Piece.{Piece}
use Rattle.cal_model.specs.History.Journal.{Entry}
use Rattle.cal_model.specs.History.LiveObjects.{Placed, is_in_calendar, live_at}
use Rattle.cal_model.specs.History.Origins.{Origins}
use Rattle.cal_model.specs.Pieces.PieceLists.{is_other_piece}
use Rattle.cal_model.specs.State.Changes.{Change, put}
use Rattle.number_set.specs.Sets.{has}
use Rattle.piece_claims.specs.Boards.{Board}

-- the object that a change replaces
abbrev pub replaced_by : Origins → Change → Option ℕ
replaced_by origins (put home calendar object octets) = origins home calendar object
replaced_by origins other = None

-- whether a change makes an object
abbrev pub makes_object : Change → Bool
makes_object (put home calendar object octets) = true
makes_object other = false

-- Boards

-- with one entry more, which made an object or did not
abbrev pub with_entry : Bool → Board → Board
with_entry made board = record board { live = board.live ++ made ∷ []; room = board.room - 1 }

-- without the object of an entry and its pieces
abbrev pub without_object : Option ℕ → Board → Board
without_object None board = board
without_object (Some origin) board = record board { live = slice_set board.live origin false; pieces = filter (is_other_piece origin) board.pieces }

-- A walk over the objects of a calendar, by their names

-- an object of the calendar that is none of those that are left
abbrev pub is_passed : Named (List ℕ) → ℕ → List ℕ → Placed → Bool
is_passed left home calendar placed = is_in_calendar placed home calendar && is_none (value_at left placed.object)

-- a test of the object that an entry made, if it is still there
abbrev pub is_object : List Entry → (Placed → Bool) → ℕ → Bool
is_object journal test n = option_map_or test (live_at journal n) false

-- the board without the objects that a test picks, and without their pieces
pub record IsWithout (journal : List Entry) (test : Placed → Bool) (old new : Board) : Type 0 where
  pub size : length new.live ≡ length old.live
  pub live : (n : ℕ) → has new.live n ≡ (has old.live n && not (is_object journal test n))
  pub pieces : new.pieces ≡ filter (λ (piece : Piece). not (is_object journal test piece.origin)) old.pieces
  pub latest : new.latest ≡ old.latest
  pub out : new.out ≡ old.out
  pub room : new.room ≡ old.room
