-- What a range of digits has so that the rows of a window are made of the starts in it, and where it ends.
use Rattle.std.specs.Prelude.{ℕ, All, List, flat_map, ℤ, pos, ◌+ℤ◌, ◌*ℤ◌, ◌≤ℤ◌}
use Rattle.cal_moment.specs.declared.stamp.Stamp.{Stamp}
use Rattle.cal_model.specs.declared.object.Component.{Component}
use Rattle.cal_model.specs.declared.zone.ZoneTable.{ZoneTable}
use Rattle.cal_model.specs.Instances.Alignment.{Aligned}
use Rattle.cal_model.specs.Instances.Rows.{window_seconds}
use Rattle.rrule_sets.specs.declared.range.Digits.{Digits}
use Rattle.rrule_sets.specs.HeldGovernors.{days_of_movers}
use Rattle.rrule_sets.specs.MovedStarts.{AreEnoughDays, EndsMovedBy, HasMove, MeansStarts, moves_of, offset_bound}
use Rattle.rrule_sets.specs.NeededDigits.{HasDay, HasWindow, days_needed, id_days}

-- all that some components may move into a window, whichever starts they mean
abbrev pub HasMovedOfAll : List ZoneTable → Stamp → ℤ → List Component → Digits → Type 0
HasMovedOfAll zones ids window components range =
    (name : Aligned → ℤ) → MeansStarts zones name → All (HasMove (offset_bound zones) window range) (flat_map (moves_of name zones ids) components)

-- a second by which the local days end that some components name, and what these move into a window, where so many days are enough for the clocks
pub record IsBehind (zones : List ZoneTable) (ids : Stamp) (window : ℤ) (components : List Component) (z : ℤ) : Type 0 where
  pub name : Aligned → ℤ
  pub days : ℕ
  pub means : MeansStarts zones name
  pub enough : All (AreEnoughDays zones ids days) components
  pub named : All (λ midnight. (midnight +ℤ pos 86400) ≤ℤ z) (flat_map (id_days zones ids) components)
  pub moved : All (EndsMovedBy window days z) (flat_map (moves_of name zones ids) components)

-- A range has the digits that a window needs: its own, those of each local day that an override names whose own row lies in it, those that overrides may move into it, and those of each local day that one of these names. It ends with the last of them.
pub record IsNeeded (zones : List ZoneTable) (ids : Stamp) (components : List Component) (window : ℤ) (range : Digits) : Type 0 where
  pub its : HasWindow window range
  pub days : All (HasDay range) (flat_map (days_needed zones ids window) components)
  pub moved : HasMovedOfAll zones ids window components range
  pub their_days : All (HasDay range) (days_of_movers zones ids components)
  pub least : (z : ℤ) → ((window +ℤ pos 1) *ℤ window_seconds) ≤ℤ z → IsBehind zones ids window components z → range.high ≤ℤ z
