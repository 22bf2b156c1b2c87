-- The rows of an object near a range, and what it costs to find them. The standards know no windows of 64 days: these bound the work, and say nothing of what is listed.
use Rattle.std.specs.Prelude.{◌≡◌, ℕ, ◌<◌, ◌^◌, false, List, [], ◌∷◌, ◌++◌, filter, flat_map, length, map, sum, ℤ, Result, Ok, Err}
use Rattle.cal_model.specs.declared.object.Object.{Object}
use Rattle.cal_model.specs.declared.row.Range.{Range}
use Rattle.cal_model.specs.declared.row.Row.{Row}
use Rattle.cal_model.specs.Instances.Rows.{has_fine_rule, in_order, rows_in, undated_rows}
use Rattle.cal_model.specs.Objects.ObjectFacts.{IsRead}
use Rattle.cal_model.specs.Objects.ObjectReading.{Unread, read_object}
use Rattle.cal_model.specs.Ranges.Cost.{cost}
use Rattle.cal_model.specs.Reports.NeededWindows.{counts, stated_windows}

-- an object whose rows are listed
pub record IsListable (object : Object) : Type 0 where
  pub read : IsRead object
  pub few : length object.components < 2 ^ 32
  pub coarse : has_fine_rule object ≡ false

-- the windows that a range may need: those that meet it, widened by how far a row reaches, and those in which an override starts
abbrev pub windows_near : Object → Range → List ℤ
windows_near object range = filter (counts object (range ∷ [])) stated_windows

-- the rows in them, in order
abbrev pub dated_near : Object → Range → List Row
dated_near object range = in_order (flat_map (rows_in object) (windows_near object range))

-- behind those without a date
abbrev pub rows_near : Object → Range → List Row
rows_near object range = undated_rows object ++ dated_near object range

-- the steps that finding the rows of these windows may take
abbrev pub windows_cost : Object → Range → ℕ
windows_cost object range = sum (map (cost object) (windows_near object range))

-- the same of what a file is read as; nothing is found where it is no object
abbrev pub cost_of_reading : Range → Result Object Unread → ℕ
cost_of_reading range (Ok object) = windows_cost object range
cost_of_reading range (Err why) = 0

abbrev pub listing_cost : List ℕ → Range → ℕ
listing_cost octets range = cost_of_reading range (read_object octets)
