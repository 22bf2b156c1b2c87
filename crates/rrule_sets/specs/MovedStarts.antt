-- The digits whose starts an override may move into a window, where it need not be known which start its RECURRENCE-ID means. From RFC 5545, 3.2.13.
use Rattle.std.specs.Prelude.{◌≡◌, ℕ, ◌*◌, ◌≤◌, All, if◌then◌else◌, List, [], map, flat_map, option_to_list, true, ℤ, pos, neg_ℤ, ◌+ℤ◌, ◌-ℤ◌, ◌*ℤ◌, ◌≤ℤ◌, ◌<ℤ◌, ◌∷◌, int_le}
use Rattle.std.specs.Int.{int_max}
use Rattle.std.specs.List.{list_all}
use Rattle.cal_moment.specs.Calendar.{IsBetween}
use Rattle.cal_moment.specs.declared.stamp.Stamp.{Stamp}
use Rattle.cal_model.specs.declared.object.Component.{Component}
use Rattle.cal_model.specs.declared.zone.ZoneTable.{ZoneTable}
use Rattle.cal_model.specs.Instances.Alignment.{Aligned, at, on_day, align, reading_of, written_value}
use Rattle.cal_model.specs.Instances.Rows.{window_seconds}
use Rattle.cal_model.specs.Instances.Starts.{own_start}
use Rattle.cal_model.specs.Ranges.Cost.{has_common_offsets}
use Rattle.override_merge.specs.Conversions.{IsRowTime}
use Rattle.rrule_sets.specs.declared.range.Digits.{Digits}
use Rattle.rrule_sets.specs.NeededDigits.{HasMoved, HasRange, id_days}

-- 18 hours where all offsets of an object are below them, else a day
abbrev pub offset_bound : List ZoneTable → ℕ
offset_bound zones = if list_all has_common_offsets zones then 64_800 else 86_400

-- Names.

-- what a RECURRENCE-ID says can be moved
abbrev pub IsNearName : Aligned → Type 0
IsNearName (at v) = IsBetween (neg_ℤ (pos 1_200_000_000_000)) (pos 1_200_000_000_000) v
IsNearName (on_day midnight) = IsRowTime midnight

-- by another clock, what lies on a local day is at most two days before its midnight, and less than three behind it
pub record IsBeside (midnight l : ℤ) : Type 0 where
  pub from : (midnight -ℤ pos 172800) <ℤ l
  pub to : l <ℤ (midnight +ℤ pos 259200)

-- it is told which start a name means: the moment, or some start of the local day or beside it
pub record MeansStarts (zones : List ZoneTable) (name : Aligned → ℤ) : Type 0 where
  pub moment : (v : ℤ) → name (at v) ≡ v
  pub beside : (s : Stamp) (midnight : ℤ) → IsBeside midnight ((reading_of zones s).local (name (on_day midnight)))

-- by how many digits an override moves a start, from a stamp and what its RECURRENCE-ID says, and its id
abbrev pub move_from : List ZoneTable → (Aligned → ℤ) → Stamp → Aligned → ℤ × ℤ
move_from zones name s x = (written_value s -ℤ (reading_of zones s).local (name x), name x)

-- the same of a component, if it moves later instances
abbrev pub moves_of : (Aligned → ℤ) → List ZoneTable → Stamp → Component → List (ℤ × ℤ)
moves_of name zones ids c = if c.future then flat_map (λ s. map (λ x. move_from zones name s (align zones x ids)) (option_to_list c.recurrence_id)) (option_to_list (own_start c)) else []

abbrev pub HasMove : ℕ → ℤ → Digits → ℤ × ℤ → Type 0
HasMove n window range move = HasMoved n window range move.0 move.1

-- Ranges.

-- a range without what lies before some digits; none where nothing is left
abbrev pub parts_from : ℤ → Digits → List Digits
parts_from low range = if int_le range.high low then [] else record { low = int_max range.low low; high = range.high } ∷ []

-- the digits of a window, moved back, with so many seconds before and behind them
abbrev pub IsMovedBack : ℤ → ℤ → ℤ → ℤ → Digits → Type 0
IsMovedBack window move before behind range = (range.low ≡ (window *ℤ window_seconds -ℤ before) -ℤ move) × (range.high ≡ ((window +ℤ pos 1) *ℤ window_seconds +ℤ behind) -ℤ move)

-- What is walked for an override: all that it may move into the window. Of one that names a moment, what lies behind it alone.
abbrev pub IsMovedFrom : List ZoneTable → ℤ → Stamp → Aligned → List Digits → Type 0
IsMovedFrom zones window s (at v) parts =
    (whole : Digits) × (IsMovedBack window (written_value s -ℤ (reading_of zones s).local v) (pos (4 * offset_bound zones)) (pos (4 * offset_bound zones)) whole × (parts ≡ parts_from (v -ℤ pos 86400) whole))
IsMovedFrom zones window s (on_day midnight) parts = (whole : Digits) × (IsMovedBack window (written_value s -ℤ midnight) (pos 518400) (pos 604800) whole × (parts ≡ whole ∷ []))

-- so many days are enough for what a component may move: what four offsets are, and nine where it names a local day
pub record AreEnoughDays (zones : List ZoneTable) (ids : Stamp) (days : ℕ) (c : Component) : Type 0 where
  pub offsets : 4 * offset_bound zones ≤ 86400 * days
  pub named : c.future ≡ true → All (λ midnight. 9 ≤ days) (id_days zones ids c)

-- a move ends by a second
abbrev pub EndsMovedBy : ℤ → ℕ → ℤ → ℤ × ℤ → Type 0
EndsMovedBy window days z move = (((window +ℤ pos 1) *ℤ window_seconds +ℤ pos (86400 * days)) -ℤ move.0) ≤ℤ z

-- a range that has some parts has what a component may move into the window
abbrev pub HasMovedOf : List ZoneTable → Stamp → ℤ → Component → List Digits → Type 0
HasMovedOf zones ids window c parts =
    (name : Aligned → ℤ) (range : Digits) → MeansStarts zones name → All (HasRange range) parts → All (HasMove (offset_bound zones) window range) (moves_of name zones ids c)

-- and these parts end no later than that
abbrev pub EndsByMoved : List ZoneTable → Stamp → ℤ → Component → List Digits → Type 0
EndsByMoved zones ids window c parts =
    (name : Aligned → ℤ) (days : ℕ) (z : ℤ) → MeansStarts zones name → AreEnoughDays zones ids days c → All (EndsMovedBy window days z) (moves_of name zones ids c) → All (λ (part : Digits). part.high ≤ℤ z) parts
