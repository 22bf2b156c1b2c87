-- The rows of an object that a report of some ranges looks at.
use Rattle.std.specs.Prelude.{List, ◌++◌, filter, flat_map}
use Rattle.cal_model.specs.declared.object.Object.{Object}
use Rattle.cal_model.specs.declared.row.Range.{Range}
use Rattle.cal_model.specs.declared.row.Row.{Row}
use Rattle.cal_model.specs.Instances.Rows.{in_order, rows_in, undated_rows}
use Rattle.cal_model.specs.Reports.NeededWindows.{counts, stated_windows}
use Rattle.dav_reports.specs.declared.rows.Looked.{Looked}
use Rattle.dav_reports.specs.declared.rows.Looked.TheVariants.{Found, Lent}

-- those without a date, then those of the windows that the ranges may need, in order
abbrev pub rows_needed : Object → List Range → List Row
rows_needed object ranges = undated_rows object ++ in_order (flat_map (rows_in object) (filter (counts object ranges) stated_windows))

-- rows that were lent or found
abbrev pub rows_of : Looked → List Row
rows_of (Lent rows) = rows.now
rows_of (Found rows) = rows
