-- The digits whose starts a window needs: those of the window, and of each local day that an override names whose own row lies in it.
use Rattle.std.specs.Prelude.{ℕ, ◌+◌, ◌*◌, if◌then◌else◌, List, [], ◌∷◌, flat_map, map, option_to_list, is_some, ℤ, pos, ◌+ℤ◌, ◌-ℤ◌, ◌*ℤ◌, ◌≤ℤ◌, ◌<ℤ◌}
use Rattle.cal_moment.specs.Calendar.{seconds_since_1970}
use Rattle.cal_moment.specs.declared.stamp.Stamp.{Stamp}
use Rattle.cal_model.specs.declared.object.Component.{Component}
use Rattle.cal_model.specs.declared.zone.ZoneTable.{ZoneTable}
use Rattle.cal_model.specs.Words.Integers.{same_int}
use Rattle.cal_model.specs.Instances.Alignment.{align, reading_of, value_of}
use Rattle.cal_model.specs.Instances.Rows.{window_at, window_seconds}
use Rattle.cal_model.specs.Instances.Starts.{own_start}
use Rattle.override_merge.specs.NamedStarts.{days_in}
use Rattle.rrule_sets.specs.declared.range.Digits.{Digits}

-- a range has all the digits of a window
pub record HasWindow (window : ℤ) (range : Digits) : Type 0 where
  pub from : range.low ≤ℤ (window *ℤ window_seconds)
  pub to : ((window +ℤ pos 1) *ℤ window_seconds) ≤ℤ range.high

-- a range has a whole local day
pub record HasDay (range : Digits) (midnight : ℤ) : Type 0 where
  pub from : range.low ≤ℤ midnight
  pub to : (midnight +ℤ pos 86400) ≤ℤ range.high

-- one range has all of another
pub record HasRange (range part : Digits) : Type 0 where
  pub from : range.low ≤ℤ part.low
  pub to : part.high ≤ℤ range.high

-- a range ends with a day, or before it does
abbrev pub EndsBy : Digits → ℕ → Type 0
EndsBy range day = range.high ≤ℤ seconds_since_1970 (86400 * (day + 1))

-- the local days that a component's RECURRENCE-ID names
abbrev pub id_days : List ZoneTable → Stamp → Component → List ℤ
id_days zones ids c = days_in (map (λ x. align zones x ids) (option_to_list c.recurrence_id))

-- the same, if the component's own start lies in a window
abbrev pub days_of_start : List ZoneTable → Stamp → ℤ → Component → Stamp → List ℤ
days_of_start zones ids window c s = if same_int (window_at ((reading_of zones s).local (value_of zones s))) window then id_days zones ids c else []

abbrev pub days_needed : List ZoneTable → Stamp → ℤ → Component → List ℤ
days_needed zones ids window c = flat_map (days_of_start zones ids window c) (option_to_list (own_start c))

-- how many of some components are overrides
abbrev pub overrides_in : List Component → ℕ
overrides_in [] = 0
overrides_in (c ∷ cs) = (if is_some c.recurrence_id then 1 else 0) + overrides_in cs

-- A range has the starts that an override may move into a window, where four offsets lie between, and that lie behind its id.
pub record HasMoved (n : ℕ) (window : ℤ) (range : Digits) (move id : ℤ) : Type 0 where
  pub has : (l : ℤ) → (((window *ℤ window_seconds) -ℤ pos (4 * n)) -ℤ move) <ℤ l → l <ℤ (((window +ℤ pos 1) *ℤ window_seconds +ℤ pos (4 * n)) -ℤ move) → (id -ℤ pos 86400) <ℤ l → (range.low ≤ℤ l) × (l <ℤ range.high)
