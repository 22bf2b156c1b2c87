-- What several windows need: the digits of each.
use Rattle.std.specs.Prelude.{◌≡◌, ℕ, ◌+◌, ◌*◌, All, List, flat_map, true, ℤ, pos, ◌+ℤ◌, ◌-ℤ◌, ◌*ℤ◌, ◌≤ℤ◌}
use Rattle.cal_moment.specs.declared.stamp.Stamp.{Stamp}
use Rattle.cal_model.specs.declared.object.Component.{Component}
use Rattle.cal_model.specs.declared.zone.ZoneTable.{ZoneTable}
use Rattle.cal_model.specs.declared.object.Object.{Object}
use Rattle.cal_model.specs.Instances.Rows.{governors, move_of, moves_later, named_by, overrides, starts, window_seconds}
use Rattle.cal_model.specs.Ranges.Cost.{days_apart}
use Rattle.cal_model.specs.Recurrence.RecurrenceSet.{every_moment}
use Rattle.override_merge.specs.NamedStarts.{days_in}
use Rattle.rrule_sets.specs.declared.windows.Needed.{Needed}
use Rattle.rrule_sets.specs.NeededDigits.{HasDay, HasMoved, HasWindow, days_needed, id_days, overrides_in}
use Rattle.rrule_sets.specs.NeededRanges.{IsNeeded}

-- the digits of a window are those that it needs
abbrev pub HasNeeded : List ZoneTable → Stamp → List Component → Needed → Type 0
HasNeeded zones ids components needed = IsNeeded zones ids components needed.window needed.range

-- The same beside all starts of an object, where all offsets are below n.
pub record IsNeededFor (object : Object) (ids : Stamp) (n : ℕ) (needed : Needed) : Type 0 where
  pub window : HasWindow needed.window needed.range
  pub days : All (HasDay needed.range) (flat_map (days_needed object.zones ids needed.window) object.components)
  pub moved : All (λ g. HasMoved n needed.window needed.range (move_of object.zones g) g.id) (governors object ids (starts every_moment object))
  pub their_days : All (λ o. moves_later o ≡ true → All (HasDay needed.range) (days_in (named_by object.zones ids o))) (overrides object)
  pub least : (z : ℤ) → ((needed.window +ℤ pos 1) *ℤ window_seconds) ≤ℤ z → All (λ midnight. (midnight +ℤ pos 86400) ≤ℤ z) (flat_map (id_days object.zones ids) object.components) →
      All (λ g. (((needed.window +ℤ pos 1) *ℤ window_seconds +ℤ pos (86400 * days_apart object)) -ℤ move_of object.zones g) ≤ℤ z) (governors object ids (starts every_moment object)) → needed.range.high ≤ℤ z

-- the steps for a window and for the overrides that are looked at for it
abbrev pub looks_of : List Component → ℤ → ℕ
looks_of components window = 1 + overrides_in components
