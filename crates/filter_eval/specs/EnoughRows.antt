-- Some rows of an object that tell of a filter as much as all do: among them is each that meets a range of it.
use Rattle.std.specs.Prelude.{◌≡◌, true, List, Contains}
use Rattle.cal_model.specs.declared.filter.Filter.{Filter}
use Rattle.cal_model.specs.declared.object.Object.{Object}
use Rattle.cal_model.specs.declared.row.Range.{Range}
use Rattle.cal_model.specs.declared.row.Row.{Row}
use Rattle.cal_model.specs.declared.zone.ZoneTable.{ZoneTable}
use Rattle.cal_model.specs.Instances.Rows.{rows as rows_of}
use Rattle.cal_model.specs.Ranges.RowRanges.{row_meets}
use Rattle.cal_model.specs.Reports.NamedRanges.{ranges_of_filter}

pub record AreEnough (filter : Filter) (object : Object) (rows : List Row) (zone : ZoneTable) : Type 0 where
  pub of_object : (row : Row) → Contains rows row → Contains (rows_of object) row
  pub meeting : (range : Range) → Contains (ranges_of_filter filter.top) range → (row : Row) → Contains (rows_of object) row → row_meets object zone range row ≡ true → Contains rows row
