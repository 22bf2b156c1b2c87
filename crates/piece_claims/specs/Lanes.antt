-- The open pairs as one set of origins for each window of the horizon, in the order of the windows.
use Rattle.std.specs.Prelude.{◌≡◌, ℕ, ◌<◌, ◌≤◌, Bool, false, List, [], length, slice_index_or, slice_set, if◌then◌else◌, ℤ, pos, ◌+ℤ◌}
use Rattle.std.specs.Ordering.{int_eq}
use Rattle.cal_model.specs.History.Claims.{Pair}
use Rattle.cal_model.specs.declared.piece.Piece.{Piece}
use Rattle.number_set.specs.Sets.{has, IsLeast}
use Rattle.piece_claims.specs.Boards.{is_open_if, pair_at}

-- the origins that are open in the window k
abbrev pub lane_at : List (List Bool) → ℕ → List Bool
lane_at lanes k = slice_index_or lanes k []

abbrev pub windows : ℕ
windows = 13

-- one for each window, with room for so many origins
pub record AreLanes (lanes : List (List Bool)) (bound : ℕ) : Type 0 where
  pub count : length lanes ≡ windows
  pub wide : (k : ℕ) → k < windows → bound ≤ length (lane_at lanes k)

-- the same origins, with no less room
pub record AreSameLanes (old new : List (List Bool)) : Type 0 where
  pub count : length new ≡ length old
  pub members : (k n : ℕ) → has (lane_at new k) n ≡ has (lane_at old k) n
  pub wider : (k : ℕ) → length (lane_at old k) ≤ length (lane_at new k)

-- what each flag says, from the first window on
abbrev pub AreOpen : List (List Bool) → ℤ → List Bool → List Piece → List Pair → Type 0
AreOpen lanes from live pieces out = (k n : ℕ) → k < windows → has (lane_at lanes k) n ≡ is_open_if (has live n) pieces out (pair_at n (from +ℤ pos k))

-- the flags of one origin are as a test of the windows says, and no other changes
pub record IsRefreshed (old new : List (List Bool)) (from : ℤ) (origin : ℕ) (test : ℤ → Bool) : Type 0 where
  pub count : length new ≡ length old
  pub lanes : (k : ℕ) → k < windows → lane_at new k ≡ slice_set (lane_at old k) origin (test (from +ℤ pos k))

-- the flag of one origin in one window is as given, where the window is one of them, and no other changes
pub record IsRefreshedAt (old new : List (List Bool)) (from : ℤ) (origin : ℕ) (window : ℤ) (flag : Bool) : Type 0 where
  pub count : length new ≡ length old
  pub lanes : (k : ℕ) → k < windows → lane_at new k ≡ (if int_eq window (from +ℤ pos k) then slice_set (lane_at old k) origin flag else lane_at old k)

-- the flags of the first so many origins are those of open pairs, and no others changed
pub record AreSwept (old new : List (List Bool)) (from : ℤ) (live : List Bool) (pieces : List Piece) (out : List Pair) (entries : ℕ) : Type 0 where
  pub count : length new ≡ length old
  pub sizes : (k : ℕ) → k < windows → length (lane_at new k) ≡ length (lane_at old k)
  pub swept : (k n : ℕ) → k < windows → n < entries → has (lane_at new k) n ≡ is_open_if (has live n) pieces out (pair_at n (from +ℤ pos k))
  pub beyond : (k n : ℕ) → k < windows → entries ≤ n → has (lane_at new k) n ≡ has (lane_at old k) n

-- no origin is open in the first so many windows
abbrev pub AreEmptyTo : List (List Bool) → ℕ → Type 0
AreEmptyTo lanes end = (k n : ℕ) → k < end → has (lane_at lanes k) n ≡ false

-- an origin and a window are the first open pair
pub record IsNext (lanes : List (List Bool)) (from : ℤ) (origin : ℕ) (window : ℤ) : Type 0 where
  pub place : ℕ
  pub in_horizon : place < windows
  pub window_is : window ≡ from +ℤ pos place
  pub least : IsLeast origin (lane_at lanes place)
  pub before : AreEmptyTo lanes place

-- each set has as much room as before
pub record AreAsWide (old new : List (List Bool)) : Type 0 where
  pub count : length new ≡ length old
  pub sizes : (k : ℕ) → k < windows → length (lane_at new k) ≡ length (lane_at old k)
