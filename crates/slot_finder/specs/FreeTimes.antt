-- When several calendars are free together, and the free times of a range. When a calendar is busy stands in `cal_model`, in its chapter `Busy` (RFC 4791, 7.10).
-- Each second is told by itself, and the free times are picked from all seconds of the range. A body may go from run to run.
use Rattle.std.specs.Prelude.{◌≡◌, ℕ, zero, suc, Bool, true, not, ◌&&◌, ◌||◌, if◌then◌else◌, List, [], ◌∷◌, map, filter, ℤ, pos, ◌+ℤ◌, ◌-ℤ◌, ◌≤ℤ◌, ◌<ℤ◌, int_le, All, AllPairs}
use Rattle.std.specs.List.{list_any}
use Rattle.cal_model.specs.declared.row.Range.{Range}
use Rattle.cal_model.specs.Busy.BusyTimes.{BusyTime}
use Rattle.cal_model.specs.Busy.BusyRuns.{covers, size}
use Rattle.cal_model.specs.Words.Integers.{same_int}
use Rattle.freebusy.specs.declared.busy.Run.{Run}
use Rattle.freebusy.specs.Times.{time_of_run}

-- A second is free where no time of any calendar covers it, whatever its class.
abbrev pub is_free : List (List BusyTime) → ℤ → Bool
is_free calendars t = not (list_any (list_any (covers t)) calendars)

-- the same where each calendar is given by its runs
abbrev pub free_of_runs : List (List Run) → ℤ → Bool
free_of_runs calendars = is_free (map (map time_of_run) calendars)

-- Runs in order without overlap: each has a second, and ends before those behind it start, or as they do.
pub record AreInOrder (runs : List Run) : Type 0 where
  pub each : All (λ (run : Run). run.start.0 <ℤ run.end.0) runs
  pub apart : AllPairs (λ (run later : Run). run.end.0 ≤ℤ later.start.0) runs

-- So many seconds from a moment on, all of them free and in the range.
pub record IsSlot (free : ℤ → Bool) (range : Range) (seconds : ℕ) (at : ℤ) : Type 0 where
  pub from : range.start.0 ≤ℤ at
  pub to : (at +ℤ pos seconds) ≤ℤ range.end.0
  pub each : (t : ℤ) → at ≤ℤ t → t <ℤ (at +ℤ pos seconds) → free t ≡ true

-- the first moment from which there are
pub record IsEarliest (free : ℤ → Bool) (range : Range) (seconds : ℕ) (at : ℤ) : Type 0 where
  pub slot : IsSlot free range seconds at
  pub first : (other : ℤ) → IsSlot free range seconds other → at ≤ℤ other

-- The free times of a range

-- so many seconds from a moment on
abbrev pub seconds_from : ℤ → ℕ → List ℤ
seconds_from t zero = []
seconds_from t (suc n) = t ∷ seconds_from (t +ℤ pos 1) n

-- a stretch of free seconds begins at a free one that is the first of the range or follows one that is not free
abbrev pub begins : (ℤ → Bool) → Range → ℤ → Bool
begins free range t = free t && (same_int t range.start.0 || not (free (t -ℤ pos 1)))

-- how many of so many seconds from a moment on are free one after another
abbrev pub free_count : (ℤ → Bool) → ℤ → ℕ → ℕ
free_count free t zero = 0
free_count free t (suc n) = if free t then suc (free_count free (t +ℤ pos 1) n) else 0

-- what is left of a range from a moment on
abbrev pub rest_from : Range → ℤ → Range
rest_from range t = record { start = record { 0 = t }; end = range.end }

-- the stretch that begins at a moment, as far as it goes in the range
abbrev pub stretch : (ℤ → Bool) → Range → ℤ → Range
stretch free range t = record { start = record { 0 = t }; end = record { 0 = t +ℤ pos (free_count free t (size (rest_from range t))) } }

abbrev pub has_seconds : ℕ → Range → Bool
has_seconds seconds time = int_le (time.start.0 +ℤ pos seconds) time.end.0

-- The longest stretches of free seconds in a range that have at least so many seconds, in order.
abbrev pub free_times : (ℤ → Bool) → Range → ℕ → List Range
free_times free range seconds = filter (has_seconds seconds) (map (stretch free range) (filter (begins free range) (seconds_from range.start.0 (size range))))
