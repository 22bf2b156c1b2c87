-- Examples of the windows that a report may need.
use Rattle.std.specs.Prelude.{◌≡◌, refl, true, false, [], ◌∷◌, codes, pos, neg_ℤ, Some, None}
use Rattle.cal_model.specs.declared.object.Extent.TheVariants as extent
use Rattle.cal_model.specs.declared.object.Object.{Object}
use Rattle.cal_model.specs.declared.property.Props.TheVariants.{None as NoProps}
use Rattle.cal_model.specs.declared.report.ReportRequest.TheVariants.{Query, Multiget, FreeBusy}
use Rattle.cal_model.specs.declared.row.Range.{Range}
use Rattle.cal_model.specs.declared.selection.Recur.TheVariants.{Whole, Limit}
use Rattle.cal_model.specs.Reports.NamedRanges.{ranges_named}
use Rattle.cal_model.specs.Words.Lists.{counted_from}
use Rattle.cal_model.specs.Reports.NeededWindows.{first_window, last_window, windows_needed, is_needed, override_windows}
use Rattle.cal_model.specs.TimeZones.Zones.{exists_in, instant_of, offset_at}
use Rattle.cal_examples.proofs.ShownDataExamples.{plan, asked}
use Rattle.cal_model.proofs.Filters.FilterLemmas.{ranges_of_filter_roll}
use Rattle.cal_examples.proofs.MatchingExamples.{comp, event_asks, prop, minutes}
use Rattle.cal_examples.proofs.RowExamples.{event, object_of, utc}
use Rattle.cal_examples.proofs.ZoneExamples.{written}
use Rattle.cal_model.specs.declared.filter.PropTest.TheVariants.{Time}

-- 16000101 and 21001231
stated : (first_window ≡ neg_ℤ (pos 2112)) × (last_window ≡ pos 747)
stated = (refl, refl)

-- an event of a hundred days, and a query for an hour of its last day: a hundred and four days on both sides
abbrev pub hundred_days : Object
hundred_days = object_of (event (Some (utc 2025 1 1 0 0)) (extent.End (utc 2025 4 11 0 0)) ∷ [])

abbrev pub hour : Range
hour = record { start = record { 0 = written 2025 4 10 0 0 0 }; end = record { 0 = written 2025 4 10 1 0 0 } }

long_event : windows_needed hundred_days (FreeBusy hour) ≡ pos 313 ∷ pos 314 ∷ pos 315 ∷ pos 316 ∷ pos 317 ∷ []
unfolding counted_from
long_event = refl

-- the window that holds an override's start counts wherever the range is, and none where no range is named
abbrev pub years_later : Range
years_later = record { start = record { 0 = written 2030 1 1 0 0 0 }; end = record { 0 = written 2030 1 2 0 0 0 } }

override_start : (override_windows plan ≡ pos 315 ∷ []) × (is_needed plan (Multiget NoProps (asked (Limit years_later)) []) (pos 315) ≡ true)
    × (is_needed plan (Multiget NoProps (asked (Limit years_later)) []) (pos 314) ≡ false) × (is_needed plan (Multiget NoProps (asked Whole) []) (pos 315) ≡ false)
unfolding exists_in instant_of offset_at
override_start = (refl, refl, refl, refl)

-- no window beyond the stated dates
beyond : is_needed hundred_days (FreeBusy (record { start = record { 0 = written 2100 12 31 0 0 0 }; end = record { 0 = written 2100 12 31 1 0 0 } })) (pos 748) ≡ false
beyond = refl

-- the ranges of a query: those of what it selects, and those of its filter at every depth, a component's own before those of its properties
named : ranges_named (Query NoProps (record { comp = None; recur = Limit hour; busy = Some years_later }) (record { top = comp (codes "VCALENDAR") None [] (event_asks (Some (minutes 0 1)) (prop (codes "DTSTAMP") (Time (minutes 1 2)) [] ∷ []) (comp (codes "VALARM") (Some (minutes 2 3)) [] [] ∷ []) ∷ []) }) None)
    ≡ hour ∷ years_later ∷ minutes 0 1 ∷ minutes 1 2 ∷ minutes 2 3 ∷ []
named = simp (ranges_of_filter_roll) refl
