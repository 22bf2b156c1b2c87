-- Which piece a worker expands next. Workers make pieces of the live objects in the windows around the time of the latest request: four windows of 64 days before its own and eight behind. This is
-- this project's own, and changes no answer; it says only that work is found, and which.
-- Given: the journal, the greatest moment of a request, the pieces there are, and the pairs that are claimed out.
use Rattle.std.specs.Prelude.{ℕ, Bool, not, ◌&&◌, ◌||◌, ◌==◌, nat_le, if◌then◌else◌, List, [], ◌∷◌, ◌++◌, length, map, filter, flat_map, sum_by, is_some, Option, None, ℤ, pos, int_lt, ◌+ℤ◌, ◌-ℤ◌}
use Rattle.std.specs.List.{list_any, range_with_len}
use Rattle.cal_base.specs.Lines.ComponentTrees.{first}
use Rattle.cal_model.specs.Words.Integers.{same_int}
use Rattle.cal_model.specs.Instances.Rows.{window_at}
use Rattle.cal_model.specs.History.Journal.{Entry}
use Rattle.cal_model.specs.declared.piece.Piece.{Piece}
use Rattle.cal_model.specs.History.LiveObjects.{live_at}

-- an object by its origin, and a window
pub record Pair : Type 0 where
  pub origin : ℕ
  pub window : ℤ

-- what claims depend on: the greatest moment of the requests so far that were not answered 503, or 0 before the first; the pieces there are,
-- from the oldest to the newest; and the pairs that are claimed out
pub record Work : Type 0 where
  pub journal : List Entry
  pub latest : ℤ
  pub pieces : List Piece
  pub out : List Pair

-- the horizon: the window of that moment, four before it and eight behind it
abbrev pub focus : Work → ℤ
focus work = window_at work.latest

abbrev pub horizon : Work → List ℤ
horizon work = map (λ n. (focus work -ℤ pos 4) +ℤ pos n) (range_with_len 0 13)

abbrev pub same_pair : Pair → Pair → Bool
same_pair a b = (a.origin == b.origin) && same_int a.window b.window

abbrev pub pair_of : Piece → Pair
pair_of piece = record { origin = piece.origin; window = piece.window }

-- open: a live object and a window of the horizon, without a piece and not out
abbrev pub is_open : Work → Pair → Bool
is_open work pair =
    is_some (live_at work.journal pair.origin) && not (list_any (λ piece. same_pair (pair_of piece) pair) work.pieces) && not (list_any (same_pair pair) work.out)

-- every pair of an entry and a window of the horizon: by window, then by origin
abbrev pub pairs : Work → List Pair
pairs work = flat_map (λ window. map (λ origin. record { origin = origin; window = window }) (range_with_len 0 (length work.journal))) (horizon work)

abbrev pub open_pairs : Work → List Pair
open_pairs work = filter (is_open work) (pairs work)

-- the rows of the pieces of the horizon
abbrev pub is_in_horizon : Work → Piece → Bool
is_in_horizon work piece = list_any (same_int piece.window) (horizon work)

abbrev pub rows_in_horizon : Work → ℕ
rows_in_horizon work = sum_by (λ (piece : Piece). length piece.rows) (filter (is_in_horizon work) work.pieces)

-- the most claims that are out at once, and the rows at which no more are made
abbrev pub claims_limit : ℕ
claims_limit = 64

abbrev pub enough_rows : ℕ
enough_rows = 3_000_000

-- The next claim: the open pair with the least window, and of these the one with the least origin.
abbrev pub next_claim : Work → Option Pair
next_claim work =
    if nat_le claims_limit (length work.out) || nat_le enough_rows (rows_in_horizon work) then None else first (open_pairs work)

-- The greatest moment after a request at a moment that was answered with a status: want of memory counts for nothing.
abbrev pub latest_after : ℤ → ℤ → ℕ → ℤ
latest_after latest moment status = if status == 503 then latest else (if int_lt latest moment then moment else latest)

-- the pairs out after one more claim, and after a claim of a pair has ended
abbrev pub with_claim : Pair → List Pair → List Pair
with_claim pair out = out ++ pair ∷ []

abbrev pub without_claim : Pair → List Pair → List Pair
without_claim pair out = filter (λ other. not (same_pair pair other)) out
