-- Runs beside some seconds, and the moments that a body comes to which goes from run to run.
use Rattle.std.specs.Prelude.{◌≡◌, ℕ, Bool, ◌⊎◌, List, ℤ, pos, ◌+ℤ◌, ◌≤ℤ◌, int_lt, All}
use Rattle.freebusy.specs.declared.busy.Run.{Run}

abbrev pub ends_behind : ℤ → Run → Bool
ends_behind at run = int_lt at run.end.0

-- a run that is over before the seconds from one moment up to another, or starts behind them
abbrev pub IsOutside : ℤ → ℤ → Run → Type 0
IsOutside low high run = (run.end.0 ≤ℤ low) ⊎ (high ≤ℤ run.start.0)

-- all runs of a calendar are
abbrev pub AreOutside : ℤ → ℤ → List Run → Type 0
AreOutside low high runs = All (IsOutside low high) runs

-- those of all calendars are
abbrev pub AreAllOutside : ℤ → ℤ → List (List Run) → Type 0
AreAllOutside low high calendars = All (AreOutside low high) calendars

-- the first moment, from one on, behind which so many seconds are free of the runs
pub record IsFirstFit (runs : List Run) (seconds : ℕ) (at found : ℤ) : Type 0 where
  pub later : at ≤ℤ found
  pub outside : AreOutside found (found +ℤ pos seconds) runs
  pub first : (other : ℤ) → at ≤ℤ other → AreOutside other (other +ℤ pos seconds) runs → found ≤ℤ other

-- a moment no later than the first one that fits all calendars, from one on; where it is that one itself, it fits
pub record IsMovedOn (calendars : List (List Run)) (seconds : ℕ) (at found : ℤ) : Type 0 where
  pub later : at ≤ℤ found
  pub first : (other : ℤ) → at ≤ℤ other → AreAllOutside other (other +ℤ pos seconds) calendars → found ≤ℤ other
  pub still : found ≡ at → AreAllOutside at (at +ℤ pos seconds) calendars

-- the last moment, up to a limit, before which the seconds from one on are free of the runs
pub record IsOpenUntil (runs : List Run) (at limit found : ℤ) : Type 0 where
  pub bound : found ≤ℤ limit
  pub outside : AreOutside at found runs
  pub last : (other : ℤ) → other ≤ℤ limit → AreOutside at other runs → other ≤ℤ found

-- the same of all calendars
pub record AreOpenUntil (calendars : List (List Run)) (at limit found : ℤ) : Type 0 where
  pub bound : found ≤ℤ limit
  pub outside : AreAllOutside at found calendars
  pub last : (other : ℤ) → other ≤ℤ limit → AreAllOutside at other calendars → other ≤ℤ found
