-- The rows near a range: all that overlap it are among them, and each can be written.
use Rattle.std.proofs.Common.{◌≡◌, Bool, true, false, [], ◌∷◌, refl, sym, ap, ◌∙◌, subst, arith, ℤ}
use Rattle.std.specs.Prelude.{◌&&◌, ◌||◌, not, All, Contains, filter}
use Rattle.std.proofs.lemmas.Bool.{and_from}
use Rattle.std.proofs.lemmas.List.Elements.{All-filter}
use Rattle.cal_model.specs.declared.object.Object.{Object}
use Rattle.cal_model.specs.declared.row.Range.{Range}
use Rattle.cal_model.specs.declared.zone.ZoneTable.{ZoneTable}
use Rattle.cal_model.specs.Instances.Rows.{is_dated, rows, window_of}
use Rattle.cal_model.specs.Objects.ObjectFacts.{IsRead}
use Rattle.cal_model.specs.Ranges.Nearness.{HasShortOffsets}
use Rattle.cal_model.specs.Ranges.RowRanges.{row_alarm_in_range, row_in_range}
use Rattle.cal_model.specs.Reports.NeededWindows.{counts, is_stated_window}
use Rattle.cal_model.specs.TimeZones.TableBounds.{IsTable}
use Rattle.cal_model.proofs.Instances.ServedStarts.{is_stated-row}
use Rattle.cal_model.proofs.Objects.ObjectFactLaws.{IsReadObject-read}
use Rattle.cal_model.proofs.Objects.ObjectNearness.{HasNearRows-read}
use Rattle.cal_model.proofs.Reports.ReportLaws.{counts-row_meets}
use Rattle.cal_model.proofs.TimeZones.NearTimes.{HasShortOffsets-table}
use Rattle.cal_model.proofs.Words.ListTests.{Keeps, filter_kept, or_left}
use Rattle.expand_limit.specs.InstanceLines.{IsShownRow}
use Rattle.expand_limit.proofs.ShownRows.{rows_shown}
use Rattle.ics_tool.specs.Listings.{rows_met}
use Rattle.ics_tool.specs.NearRows.{rows_near}
use Rattle.ics_tool.proofs.LookedRows.{is_looked_at, looked_rows}

here : (range : Range) → Contains (range ∷ []) range
here range = (0, omega arith, refl)

abbrev near : Object → Range → ℤ → Bool
near object range = counts object (range ∷ [])

-- a row that overlaps the range has no date, or lies in a window that the range needs
kept_where_met : (object : Object) (zone : ZoneTable) (range : Range) → IsRead object → HasShortOffsets zone → Keeps (is_looked_at object (near object range)) (rows object) (row_in_range object zone range)
kept_where_met object zone range read short row among e = by_date (is_dated row) refl
  where
    by_date : (dated : Bool) → is_dated row ≡ dated → (not dated || (is_stated_window (window_of object row) && near object range (window_of object row))) ≡ true
    by_date false d = refl
    by_date true d =
        and_from (is_stated_window (window_of object row)) (near object range (window_of object row))
        (is_stated-row object (IsReadObject-read object read) row among d)
        (counts-row_meets object zone (range ∷ []) (HasNearRows-read object read) short range (here range) row among d
        (or_left (row_in_range object zone range row) (row_alarm_in_range object zone range row) e))

-- So of the rows near the range those that overlap it are those of all rows.
pub met_near : (object : Object) (zone : ZoneTable) (range : Range) → IsRead object → IsTable zone → filter (row_in_range object zone range) (rows_near object range) ≡ rows_met object zone range
met_near object zone range read table =
    ap (filter (row_in_range object zone range)) (looked_rows object (near object range) read)
    ∙ filter_kept (is_looked_at object (near object range)) (row_in_range object zone range) (rows object) (kept_where_met object zone range read (HasShortOffsets-table zone table))

pub near_shown : (object : Object) (range : Range) → IsRead object → All IsShownRow (rows_near object range)
near_shown object range read =
    subst (All IsShownRow) (sym (looked_rows object (near object range) read)) (All-filter (is_looked_at object (near object range)) IsShownRow (rows object) (rows_shown object read))
