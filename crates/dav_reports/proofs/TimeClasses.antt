-- The class of a second depends on no order of the times: those of an object may come window by window.
use Rattle.std.proofs.Common.{◌≡◌, Bool, true, false, cond, List, [], ◌∷◌, ◌++◌, refl, sym, ap, ◌∙◌, ℤ}
use Rattle.std.specs.Prelude.{filter, flat_map}
use Rattle.std.specs.List.{AllByRecursion}
use Rattle.std.proofs.lemmas.Grind.{flat_map-append}
use Rattle.cal_model.specs.declared.object.Object.{Object}
use Rattle.cal_model.specs.declared.report.ReportRequest.TheVariants.{FreeBusy}
use Rattle.cal_model.specs.declared.row.Range.{Range}
use Rattle.cal_model.specs.declared.row.Row.{Row}
use Rattle.cal_model.specs.declared.zone.ZoneTable.{ZoneTable}
use Rattle.cal_model.specs.Busy.BusyTimes.{BusyTime, times_of_row}
use Rattle.cal_model.specs.Busy.BusyRuns.{calendar_runs, class_at, runs}
use Rattle.cal_model.specs.Instances.Rows.{comes_before, in_order, is_dated, put_row, rows, rows_in}
use Rattle.cal_model.specs.Ranges.Nearness.{HasShortOffsets}
use Rattle.cal_model.specs.Reports.NeededWindows.{windows_needed}
use Rattle.cal_model.proofs.Busy.BusyRunLaws.{runs-same_classes}
use Rattle.cal_model.proofs.Busy.BusyWindows.{IsRead, runs-looked_at, times_over}
use Rattle.cal_model.proofs.Instances.ServedStarts.{is_stated-row}
use Rattle.cal_model.proofs.Objects.ObjectFactLaws.{IsReadObject-read}
use Rattle.cal_model.proofs.Objects.ObjectNearness.{HasNearRows-read}
use Rattle.cal_model.proofs.Reports.ReportLaws.{is_looked_at}
use Rattle.freebusy.proofs.Classes.{class_at-append, join, join_swapped}
use Rattle.dav_reports.specs.ObjectTimes.{stored_times, times_by_windows, times_in, times_of_rows}
use Rattle.dav_reports.specs.PieceRows.{IsKept}
use Rattle.dav_reports.proofs.NeededRows.{looked_at-windows}

-- Rows

-- a row that is put in its place
put_more : (f : Row → List BusyTime) (row x : Row) (xs : List Row) (t : ℤ) (test : Bool) → class_at (flat_map f (put_row row xs)) t ≡ class_at (flat_map f (row ∷ xs)) t
    → class_at (flat_map f (cond test (row ∷ x ∷ xs) (x ∷ put_row row xs))) t ≡ class_at (flat_map f (row ∷ x ∷ xs)) t
put_more f row x xs t true rest = refl
put_more f row x xs t false rest =
    class_at-append (f x) (flat_map f (put_row row xs)) t
    ∙ ap (join (class_at (f x) t)) (rest ∙ class_at-append (f row) (flat_map f xs) t)
    ∙ join_swapped (class_at (f x) t) (class_at (f row) t) (class_at (flat_map f xs) t)
    ∙ ap (join (class_at (f row) t)) (sym (class_at-append (f x) (flat_map f xs) t))
    ∙ sym (class_at-append (f row) (flat_map f (x ∷ xs)) t)

class_at-put : (f : Row → List BusyTime) (row : Row) (xs : List Row) (t : ℤ) → class_at (flat_map f (put_row row xs)) t ≡ class_at (flat_map f (row ∷ xs)) t
class_at-put f row [] t = refl
class_at-put f row (x ∷ xs) t = put_more f row x xs t (comes_before row x) (class_at-put f row xs t)

-- rows that are put in order
class_at-in_order : (f : Row → List BusyTime) (xs : List Row) (t : ℤ) → class_at (flat_map f (in_order xs)) t ≡ class_at (flat_map f xs) t
class_at-in_order f [] t = refl
class_at-in_order f (x ∷ xs) t =
    class_at-put f x (in_order xs) t
    ∙ class_at-append (f x) (flat_map f (in_order xs)) t
    ∙ ap (join (class_at (f x) t)) (class_at-in_order f xs t)
    ∙ sym (class_at-append (f x) (flat_map f xs) t)

-- Objects

times_in-rows : (zone : ZoneTable) (object : Object) (windows : List ℤ) → times_in zone object windows ≡ times_of_rows zone object (flat_map (rows_in object) windows)
times_in-rows zone object [] = refl
times_in-rows zone object (w ∷ ws) =
    ap (λ times. times_of_rows zone object (rows_in object w) ++ times) (times_in-rows zone object ws)
    ∙ sym (flat_map-append (times_of_row zone object) (rows_in object w) (flat_map (rows_in object) ws))

object_classes : (zone : ZoneTable) (range : Range) (object : Object) → IsKept object → (t : ℤ)
    → class_at (times_by_windows zone object (windows_needed object (FreeBusy range))) t
    ≡ class_at (times_over zone object (filter (is_looked_at object (FreeBusy range)) (rows object))) t
object_classes zone range object kept t =
    let windows = windows_needed object (FreeBusy range) in
    let f = times_of_row zone object in
    let stored = stored_times object.components in
    class_at-append (times_in zone object windows) stored t
    ∙ ap (λ o. join o (class_at stored t))
    (ap (λ times. class_at times t) (times_in-rows zone object windows)
    ∙ sym (class_at-in_order f (flat_map (rows_in object) windows) t)
    ∙ ap (λ rs. class_at (flat_map f rs) t) (sym (looked_at-windows object (FreeBusy range) kept)))
    ∙ sym (class_at-append (flat_map f (filter is_dated (filter (is_looked_at object (FreeBusy range)) (rows object)))) stored t)

calendar_classes : (zone : ZoneTable) (range : Range) (t : ℤ) (objects : List Object) → AllByRecursion IsKept objects
    → class_at (flat_map (λ object. times_by_windows zone object (windows_needed object (FreeBusy range))) objects) t
    ≡ class_at (flat_map (λ object. times_over zone object (filter (is_looked_at object (FreeBusy range)) (rows object))) objects) t
calendar_classes zone range t [] all = refl
calendar_classes zone range t (object ∷ objects) all =
    let mine : Object → List BusyTime = λ o. times_by_windows zone o (windows_needed o (FreeBusy range)) in
    let theirs : Object → List BusyTime = λ o. times_over zone o (filter (is_looked_at o (FreeBusy range)) (rows o)) in
    class_at-append (mine object) (flat_map mine objects) t
    ∙ ap (λ o. join o (class_at (flat_map mine objects) t)) (object_classes zone range object all.0 t)
    ∙ ap (join (class_at (theirs object) t)) (calendar_classes zone range t objects all.1)
    ∙ sym (class_at-append (theirs object) (flat_map theirs objects) t)

all_read : (objects : List Object) → AllByRecursion IsKept objects → AllByRecursion IsRead objects
all_read [] all = tt
all_read (object ∷ objects) all =
    (record { near = HasNearRows-read object all.0.read; stated = is_stated-row object (IsReadObject-read object all.0.read) }, all_read objects all.1)

-- Over the rows in the windows that they need, window by window, the objects of a calendar have its runs.
pub runs-by_windows : (zone : ZoneTable) (objects : List Object) (range : Range) → HasShortOffsets zone → AllByRecursion IsKept objects
    → runs (flat_map (λ object. times_by_windows zone object (windows_needed object (FreeBusy range))) objects) range ≡ calendar_runs zone objects range
runs-by_windows zone objects range short kept =
    runs-same_classes (flat_map (λ object. times_by_windows zone object (windows_needed object (FreeBusy range))) objects)
    (flat_map (λ object. times_over zone object (filter (is_looked_at object (FreeBusy range)) (rows object))) objects) range
    (λ t l m. calendar_classes zone range t objects kept)
    ∙ runs-looked_at zone objects range short (all_read objects kept)
