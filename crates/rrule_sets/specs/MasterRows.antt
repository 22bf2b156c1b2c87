-- The rows of the master among components that are counted from a number on, and those of an object's with the governed ones moved.
use Rattle.std.specs.Prelude.{ℕ, not, List, filter, flat_map, map, sum, option_to_list, ℤ}
use Rattle.cal_moment.specs.declared.stamp.Stamp.{Stamp}
use Rattle.cal_model.specs.declared.object.Component.{Component}
use Rattle.cal_model.specs.declared.row.Row.{Row}
use Rattle.cal_model.specs.declared.zone.ZoneTable.{ZoneTable}
use Rattle.cal_model.specs.declared.object.Object.{Object}
use Rattle.cal_model.specs.Instances.Rows.{Numbered, has_id, masters, numbered_from, starts}
use Rattle.cal_model.specs.Instances.Starts.{own_start}
use Rattle.cal_model.specs.Ranges.Cost.{component_cost}
use Rattle.cal_model.specs.Recurrence.RecurrenceSet.{every_moment}
use Rattle.cal_model.proofs.Instances.KeptStarts.{stand_in}
use Rattle.rrule_sets.specs.declared.range.Digits.{Digits}
use Rattle.rrule_sets.specs.AskedStarts.{instances_in}
use Rattle.rrule_sets.specs.DigitRanges.{starts_in}

-- the components that are no overrides
abbrev pub masters_from : ℕ → List Component → List Numbered
masters_from number cs = filter (λ (n : Numbered). not (has_id n)) (numbered_from number cs)

-- their instances that start in a range
abbrev pub rows_of_master : List ZoneTable → Digits → Numbered → List Row
rows_of_master zones range n = flat_map (λ s. instances_in zones s n.component n.number range) (option_to_list (own_start n.component))

-- what they cost
abbrev pub masters_cost : ℕ → List Numbered → ℕ
masters_cost day ns = sum (map (λ (n : Numbered). component_cost every_moment day n.component) ns)

-- the starts of an object in a range
abbrev pub starts_within : Object → Stamp → Digits → List ℤ
starts_within object ids range = filter (starts_in object.zones ids range) (starts every_moment object)

-- The master's rows at them, with those moved that overrides govern. These take their ids from the same starts.
abbrev pub governed_rows : Object → Stamp → Digits → List Row
governed_rows object ids range = flat_map (stand_in object ids (starts_within object ids range)) (flat_map (rows_of_master object.zones range) (masters object))
