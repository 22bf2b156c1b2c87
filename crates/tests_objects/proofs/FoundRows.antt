-- The rows that are found for an object can be shown.
use Rattle.std.proofs.Common.{◌≡◌, subst, sym}
use Rattle.std.specs.Prelude.{List, ◌++◌, All, flat_map, option_to_list, ℤ, Result, Ok, Err, IfOk}
use Rattle.std.proofs.lemmas.List.Elements.{All-append, Contains-append_left}
use Rattle.cal_model.specs.declared.object.Object.{Object}
use Rattle.cal_model.specs.declared.row.Row.{Row}
use Rattle.cal_model.specs.Instances.Rows.{dated_rows, ids_start, row_at, rows_in, undated_rows}
use Rattle.cal_model.specs.Objects.ObjectFacts.{IsRead}
use Rattle.cal_model.specs.Recurrence.RecurrenceSet.{every_moment}
use Rattle.expand_limit.specs.InstanceLines.{IsShownRow}
use Rattle.expand_limit.proofs.ShownRows.{shown_rows, window_shown}

undated_and_dated : (object : Object) (window : ℤ) → IsRead object → All IsShownRow (undated_rows object ++ rows_in object window)
undated_and_dated object window read =
    All-append IsShownRow (undated_rows object) (rows_in object window)
    (shown_rows object (undated_rows object) read
    (λ row is. Contains-append_left (undated_rows object) (flat_map (dated_rows (row_at every_moment object) every_moment object) (option_to_list (ids_start object))) row is))
    (window_shown object window read)

pub found_shown : {E : Type 0} (result : Result (List Row) E) (object : Object) (window : ℤ) → IsRead object → IfOk result (λ rows. rows ≡ undated_rows object ++ rows_in object window) → IfOk result (All IsShownRow)
found_shown (Ok rows) object window read is = subst (All IsShownRow) (sym is) (undated_and_dated object window read)
found_shown (Err e) object window read is = is
