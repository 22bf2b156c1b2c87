-- Examples of overrides, ids, order and windows.
use Rattle.std.specs.Prelude.{◌≡◌, refl, ℕ, List, [], ◌∷◌, pos, Some, None}
use Rattle.cal_moment.specs.Calendar.{day_of_date, year_of, month_of, day_of_month}
use Rattle.cal_model.specs.declared.object.Component.{Component}
use Rattle.cal_model.specs.declared.object.Object.{Object}
use Rattle.cal_model.specs.declared.object.Kind.TheVariants.{Todo}
use Rattle.cal_model.specs.declared.object.Extent.TheVariants as extent
use Rattle.cal_model.specs.declared.row.RowKind.TheVariants as kind
use Rattle.cal_model.specs.declared.rule.Freq.TheVariants.{Weekly}
use Rattle.cal_model.specs.Words.Lists.{counted_from}
use Rattle.cal_model.specs.Recurrence.Passing.{day_passes, time_passes}
use Rattle.cal_model.specs.TimeZones.Zones.{offset_at, exists_in, instant_of}
use Rattle.cal_model.specs.Instances.Rows.{rows_over, rows_in_over, row_of}
use Rattle.cal_examples.proofs.PassingExamples.{each}
use Rattle.cal_examples.proofs.RecurrenceSetExamples.{daily_at}
use Rattle.cal_examples.proofs.ZoneExamples.{written}
use Rattle.cal_examples.proofs.RowExamples.{event, object_of, instant_row, meeting, utc, zoned, floating, date}

-- the mornings of two months
abbrev pub mornings : List ℕ
mornings = daily_at 36000 (day_of_date 2025 3 1) 60

-- the meeting of 25 March is moved to the next day
abbrev pub moved : Component
moved = record (event (Some (zoned 2025 3 26 14 0)) (extent.End (zoned 2025 3 26 15 0))) { recurrence_id = Some (zoned 2025 3 25 10 0) }

-- one that is taken away, and one that is moved
meetings : rows_over mornings (object_of (meeting ∷ moved ∷ []))
    ≡ instant_row (written 2025 3 4 15 0 0) (written 2025 3 4 15 0 0) (written 2025 3 4 16 0 0) 0
    ∷ instant_row (written 2025 3 11 14 0 0) (written 2025 3 11 14 0 0) (written 2025 3 11 15 0 0) 0
    ∷ instant_row (written 2025 3 25 14 0 0) (written 2025 3 26 18 0 0) (written 2025 3 26 19 0 0) 1
    ∷ instant_row (written 2025 4 1 14 0 0) (written 2025 4 1 14 0 0) (written 2025 4 1 15 0 0) 0
    ∷ []
unfolding year_of month_of day_of_month day_passes time_passes counted_from exists_in instant_of offset_at
meetings = refl

-- two meetings, of which something overrides the second
abbrev pub two_meetings : Component
two_meetings = record meeting { except = []; rules = record (each Weekly) { count = Some 2 } ∷ [] }

-- an override whose RECURRENCE-ID is a day names the instance of that day, whose id it has
by_day : rows_over mornings (object_of (two_meetings ∷ record moved { recurrence_id = Some (date 2025 3 11) } ∷ []))
    ≡ instant_row (written 2025 3 4 15 0 0) (written 2025 3 4 15 0 0) (written 2025 3 4 16 0 0) 0
    ∷ instant_row (written 2025 3 11 14 0 0) (written 2025 3 26 18 0 0) (written 2025 3 26 19 0 0) 1
    ∷ []
unfolding year_of month_of day_of_month day_passes time_passes counted_from exists_in instant_of offset_at
by_day = refl

-- as one in UTC does, and one of no zone
by_moment : (rows_over mornings (object_of (two_meetings ∷ record moved { recurrence_id = Some (utc 2025 3 11 14 0) } ∷ []))
    ≡ instant_row (written 2025 3 4 15 0 0) (written 2025 3 4 15 0 0) (written 2025 3 4 16 0 0) 0
    ∷ instant_row (written 2025 3 11 14 0 0) (written 2025 3 26 18 0 0) (written 2025 3 26 19 0 0) 1
    ∷ [])
    × (rows_over mornings (object_of (two_meetings ∷ record moved { recurrence_id = Some (floating 2025 3 11 10 0) } ∷ []))
    ≡ instant_row (written 2025 3 4 15 0 0) (written 2025 3 4 15 0 0) (written 2025 3 4 16 0 0) 0
    ∷ instant_row (written 2025 3 11 14 0 0) (written 2025 3 26 18 0 0) (written 2025 3 26 19 0 0) 1
    ∷ [])
unfolding year_of month_of day_of_month day_passes time_passes counted_from exists_in instant_of offset_at
by_moment = (refl, refl)

-- one that names no instance is added: with its RECURRENCE-ID as id, or with the day's midnight
abbrev pub one_meeting : Component
one_meeting = record meeting { except = []; rules = [] }

added : (rows_over [] (object_of (one_meeting ∷ record moved { recurrence_id = Some (zoned 2025 3 20 10 0) } ∷ []))
    ≡ instant_row (written 2025 3 4 15 0 0) (written 2025 3 4 15 0 0) (written 2025 3 4 16 0 0) 0
    ∷ instant_row (written 2025 3 20 14 0 0) (written 2025 3 26 18 0 0) (written 2025 3 26 19 0 0) 1
    ∷ [])
    × (rows_over [] (object_of (one_meeting ∷ record moved { recurrence_id = Some (date 2025 3 20) } ∷ []))
    ≡ instant_row (written 2025 3 4 15 0 0) (written 2025 3 4 15 0 0) (written 2025 3 4 16 0 0) 0
    ∷ instant_row (written 2025 3 20 4 0 0) (written 2025 3 26 18 0 0) (written 2025 3 26 19 0 0) 1
    ∷ [])
unfolding exists_in instant_of offset_at
added = (refl, refl)

-- an instance that EXDATE took away can be overridden all the same
of_excepted : rows_over [] (object_of (record one_meeting { except = zoned 2025 3 4 10 0 ∷ [] } ∷ record moved { recurrence_id = Some (zoned 2025 3 4 10 0) } ∷ []))
    ≡ instant_row (written 2025 3 4 15 0 0) (written 2025 3 26 18 0 0) (written 2025 3 26 19 0 0) 1 ∷ []
unfolding exists_in instant_of offset_at
of_excepted = refl

-- an override without DTSTART takes its instance away, and stands first, Undated
undated : rows_over mornings (object_of (two_meetings ∷ record (event None extent.Point) { recurrence_id = Some (zoned 2025 3 4 10 0) } ∷ []))
    ≡ row_of (pos 0) (pos 0) (pos 0) 1 kind.Undated kind.Undated
    ∷ instant_row (written 2025 3 11 14 0 0) (written 2025 3 11 14 0 0) (written 2025 3 11 15 0 0) 0
    ∷ []
unfolding year_of month_of day_of_month day_passes time_passes counted_from exists_in instant_of offset_at
undated = refl

-- overrides alone: ids are read beside the first RECURRENCE-ID, here an instant
alone : rows_over [] (object_of (moved ∷ record (event (Some (zoned 2025 3 5 8 0)) extent.Point) { recurrence_id = Some (utc 2025 3 4 15 0) } ∷ []))
    ≡ instant_row (written 2025 3 4 15 0 0) (written 2025 3 5 13 0 0) (written 2025 3 5 13 0 0) 1
    ∷ instant_row (written 2025 3 25 14 0 0) (written 2025 3 26 18 0 0) (written 2025 3 26 19 0 0) 0
    ∷ []
unfolding exists_in instant_of offset_at
alone = refl

-- and here a day, so all ids are days
alone_by_day : rows_over [] (object_of (record moved { recurrence_id = Some (date 2025 3 25) } ∷ record (event (Some (zoned 2025 3 5 8 0)) extent.Point) { recurrence_id = Some (utc 2025 3 4 15 0) } ∷ []))
    ≡ row_of (written 2025 3 4 0 0 0) (written 2025 3 5 13 0 0) (written 2025 3 5 13 0 0) 1 kind.Date kind.Instant
    ∷ row_of (written 2025 3 25 0 0 0) (written 2025 3 26 18 0 0) (written 2025 3 26 19 0 0) 0 kind.Date kind.Instant
    ∷ []
unfolding exists_in instant_of offset_at
alone_by_day = refl

-- a VTODO with DUE alone has one instance, which can be overridden
overridden_due : rows_over [] (object_of (record (event None (extent.Due (utc 2025 3 10 9 0))) { kind = Todo } ∷ record (event None (extent.Due (utc 2025 3 10 11 0))) { kind = Todo; recurrence_id = Some (utc 2025 3 10 9 0) } ∷ []))
    ≡ instant_row (written 2025 3 10 9 0 0) (written 2025 3 10 11 0 0) (written 2025 3 10 11 0 0) 1 ∷ []
overridden_due = refl

-- An override's row lies in the window of its own start: the week of 25 March is in window 315, 2 June in 316.

abbrev pub far : Object
far = object_of (record two_meetings { rules = record (each Weekly) { count = Some 4 } ∷ [] } ∷ record (event (Some (zoned 2025 6 2 14 0)) extent.Point) { recurrence_id = Some (zoned 2025 3 25 10 0) } ∷ [])

moved_away : (rows_in_over mornings far (pos 315) ≡ instant_row (written 2025 3 18 14 0 0) (written 2025 3 18 14 0 0) (written 2025 3 18 15 0 0) 0 ∷ [])
    × (rows_in_over mornings far (pos 316) ≡ instant_row (written 2025 3 25 14 0 0) (written 2025 6 2 18 0 0) (written 2025 6 2 18 0 0) 1 ∷ [])
unfolding year_of month_of day_of_month day_passes time_passes counted_from exists_in instant_of offset_at
moved_away = (refl, refl)

-- the window of a row is that of its written local day: 23:00 in New York of the last day of a window lies in it, though the instant is a day later
abbrev pub late : Object
late = object_of (event (Some (zoned 2025 1 7 23 0)) extent.Point ∷ [])

in_window : (rows_in_over [] late (pos 313) ≡ instant_row (written 2025 1 8 4 0 0) (written 2025 1 8 4 0 0) (written 2025 1 8 4 0 0) 0 ∷ []) × (rows_in_over [] late (pos 314) ≡ [])
unfolding exists_in instant_of offset_at
in_window = (refl, refl)
