-- Examples of overlap at the edges of each line, after RFC 4791, 9.9. The instance is from 9 to 10, or at 9, in hours.
use Rattle.std.specs.Prelude.{◌≡◌, refl, ℕ, ◌*◌, true, false, List, [], ◌∷◌, codes, ℤ, pos, neg_ℤ, Option, Some, None, option_map}
use Rattle.cal_base.specs.declared.line.Param.{Param}
use Rattle.cal_moment.specs.declared.stamp.Stamp.{Stamp}
use Rattle.cal_moment.specs.declared.stamp.Stamp.TheVariants.{Utc}
use Rattle.cal_moment.specs.declared.stamp.PeriodEnd.TheVariants.{After}
use Rattle.cal_model.specs.declared.object.Component.{Component}
use Rattle.cal_model.specs.declared.object.Alarm.{Alarm}
use Rattle.cal_model.specs.declared.object.Kind.TheVariants.{Todo, Journal, FreeBusy}
use Rattle.cal_model.specs.declared.object.Extent.{Extent}
use Rattle.cal_model.specs.declared.object.Extent.TheVariants as extent
use Rattle.cal_model.specs.declared.object.Trigger.TheVariants as trigger
use Rattle.cal_model.specs.declared.object.Related.TheVariants as related
use Rattle.cal_model.specs.declared.row.Range.{Range}
use Rattle.cal_model.specs.declared.row.Fixed.{Fixed}
use Rattle.cal_model.specs.declared.row.Row.{Row}
use Rattle.cal_model.specs.declared.row.RowKind.TheVariants as kind
use Rattle.cal_model.specs.Words.Lists.{counted_from}
use Rattle.cal_examples.proofs.RowExamples.{event, days_and_time, date, floating, utc, zoned}
use Rattle.cal_examples.proofs.ZoneExamples.{new_york, written}
use Rattle.cal_model.specs.TimeZones.Zones.{offset_at, instant_of}
use Rattle.cal_model.specs.Instances.Alignment.{utc_zone}
use Rattle.cal_model.specs.Filters.DateProperties.{DatedLine, date_of_line}
use Rattle.cal_model.specs.Instances.Rows.{row_of}
use Rattle.cal_model.specs.Values.StampTexts.{stamps_in_grammar}
use Rattle.cal_model.specs.Values.ValueTexts.{date_of, time_of, date_time_of}
use Rattle.cal_model.specs.Ranges.Overlap.{overlaps, row_overlaps, fixed, alarm_overlaps, is_in, date_in, effective_end}

abbrev pub hour : ℕ → ℤ
hour h = pos (3600 * h)

abbrev pub at_hour : ℕ → Stamp
at_hour h = Utc (record { 0 = hour h })

abbrev pub from_to : ℕ → ℕ → Range
from_to a b = record { start = record { 0 = hour a }; end = record { 0 = hour b } }

abbrev pub instance : ℕ → ℕ → Fixed
instance s e = record { start = hour s; end = hour e }

-- an event to DTEND: neither an end at its start nor a start at its end meets it
abbrev pub meeting : Component
meeting = event (Some (at_hour 9)) (extent.End (at_hour 10))

event_with_end : (overlaps meeting (instance 9 10) (from_to 8 9) ≡ false) × (overlaps meeting (instance 9 10) (from_to 8 10) ≡ true)
    × (overlaps meeting (instance 9 10) (from_to 9 10) ≡ true) × (overlaps meeting (instance 9 10) (from_to 10 11) ≡ false)
event_with_end = (refl, refl, refl, refl)

-- one that takes no time: at the range's start, not at its end; with a DTEND that is its DTSTART it meets neither
abbrev pub no_time : Component
no_time = event (Some (at_hour 9)) (extent.Lasting (days_and_time (pos 0) (pos 0)))

event_at_once : (overlaps no_time (instance 9 9) (from_to 9 10) ≡ true) × (overlaps no_time (instance 9 9) (from_to 8 9) ≡ false)
    × (overlaps meeting (instance 9 9) (from_to 9 10) ≡ false) × (overlaps meeting (instance 9 9) (from_to 8 10) ≡ true)
event_at_once = (refl, refl, refl, refl)

event_without_start : overlaps (event None extent.None) (instance 0 0) (from_to 0 10) ≡ false
event_without_start = refl

-- a to-do to DUE counts at its DUE, and one without time at DTSTART
abbrev pub to_do : Component
to_do = record (event (Some (at_hour 9)) (extent.Due (at_hour 10))) { kind = Todo }

to_do_to_due : (overlaps to_do (instance 9 10) (from_to 8 9) ≡ false) × (overlaps to_do (instance 9 10) (from_to 10 11) ≡ false)
    × (overlaps to_do (instance 9 10) (from_to 9 10) ≡ true) × (overlaps to_do (instance 9 9) (from_to 9 10) ≡ true) × (overlaps to_do (instance 9 9) (from_to 8 9) ≡ true)
to_do_to_due = (refl, refl, refl, refl, refl)

-- DURATION in place of DUE: a range that begins at the end still meets it
to_do_with_duration : overlaps (record to_do { extent = extent.Lasting (days_and_time (pos 0) (pos 3600)) }) (instance 9 10) (from_to 10 11) ≡ true
to_do_with_duration = refl

-- DUE alone: a range that ends there meets it, one that begins there doesn't
abbrev pub only_due : Component
only_due = record (event None (extent.Due (at_hour 9))) { kind = Todo }

to_do_due_alone : (overlaps only_due (instance 9 9) (from_to 8 9) ≡ true) × (overlaps only_due (instance 9 9) (from_to 9 10) ≡ false)
to_do_due_alone = (refl, refl)

-- no date at all meets every range; COMPLETED counts at both ends, CREATED up to the end without it
abbrev pub bare : Component
bare = record (event None extent.None) { kind = Todo }

to_do_without_dates : overlaps bare (instance 0 0) (from_to 8 9) ≡ true
to_do_without_dates = refl

to_do_completed : (overlaps (record bare { completed = Some (record { 0 = hour 9 }) }) (instance 0 0) (from_to 8 9) ≡ true) × (overlaps (record bare { completed = Some (record { 0 = hour 9 }) }) (instance 0 0) (from_to 9 10) ≡ true)
to_do_completed = (refl, refl)

to_do_created : (overlaps (record bare { created = Some (record { 0 = hour 9 }) }) (instance 0 0) (from_to 8 9) ≡ false) × (overlaps (record bare { created = Some (record { 0 = hour 9 }) }) (instance 0 0) (from_to 20 21) ≡ true)
to_do_created = (refl, refl)

-- a VFREEBUSY counts at its end
free_busy : overlaps (record meeting { kind = FreeBusy }) (instance 9 10) (from_to 10 11) ≡ true
free_busy = refl

-- a quarter of an hour before the start, and twice more, five minutes apart
abbrev pub quarter_before : ℕ → Alarm
quarter_before repeat = record { trigger = trigger.From related.Start (days_and_time (pos 0) (neg_ℤ (pos 900))); repeat = repeat; gap = days_and_time (pos 0) (pos 300) }

abbrev pub minutes : ℕ → ℕ → Range
minutes a b = record { start = record { 0 = pos (60 * a) }; end = record { 0 = pos (60 * b) } }

alarm_once : (alarm_overlaps (quarter_before 0) meeting (Some (instance 9 10)) (minutes 525 526) ≡ true) × (alarm_overlaps (quarter_before 0) meeting (Some (instance 9 10)) (minutes 526 570) ≡ false)
unfolding counted_from
alarm_once = (refl, refl)

alarm_again : alarm_overlaps (quarter_before 2) meeting (Some (instance 9 10)) (minutes 530 531) ≡ true
unfolding counted_from
alarm_again = refl

-- DURATION may be negative, and repeats then come before the first: 08:45, 08:40, 08:35
alarm_backwards : (alarm_overlaps (record (quarter_before 2) { gap = days_and_time (pos 0) (neg_ℤ (pos 300)) }) meeting (Some (instance 9 10)) (minutes 515 516) ≡ true)
    × (alarm_overlaps (record (quarter_before 2) { gap = days_and_time (pos 0) (neg_ℤ (pos 300)) }) meeting (Some (instance 9 10)) (minutes 530 531) ≡ false)
unfolding counted_from
alarm_backwards = (refl, refl)

-- an alarm counts from the end only where a line gives one: DTEND, or DUE also where it stands alone, but not the start of an event without end
abbrev pub at_end : Alarm
at_end = record { trigger = trigger.From related.End (days_and_time (pos 0) (pos 0)); repeat = 0; gap = days_and_time (pos 0) (pos 0) }

alarm_at_end : (alarm_overlaps at_end meeting (Some (instance 9 10)) (from_to 10 11) ≡ true) × (alarm_overlaps at_end (event (Some (at_hour 9)) extent.Point) (Some (instance 9 9)) (from_to 0 24) ≡ false)
    × (alarm_overlaps at_end only_due (Some (instance 9 9)) (from_to 9 10) ≡ true) × (alarm_overlaps (quarter_before 0) only_due (Some (instance 9 9)) (from_to 0 24) ≡ false)
unfolding counted_from
alarm_at_end = (refl, refl, refl, refl)

-- an alarm at a moment of its own needs no row; without a row a length has no moment from which it counts
alarm_without_row : (alarm_overlaps (record at_end { trigger = trigger.At (record { 0 = hour 9 }) }) meeting None (from_to 9 10) ≡ true) × (alarm_overlaps (quarter_before 2) meeting None (minutes 0 1440) ≡ false)
unfolding counted_from
alarm_without_row = (refl, refl)

-- Rows, with days and times of no zone read in New York.

abbrev pub on : ℕ → ℕ → ℕ → ℕ → Range
on day from later to = record { start = record { 0 = written 2025 1 day from 0 0 }; end = record { 0 = written 2025 1 later to 0 0 } }

-- a journal of 6 January lasts that day, also where DTEND is two days later: up to 05:00 of the 7th in UTC
abbrev pub journal : Extent → Component
journal extent = record (event (Some (date 2025 1 6)) extent) { kind = Journal }

abbrev pub of_days : ℕ → ℕ → Row
of_days first end = row_of (written 2025 1 first 0 0 0) (written 2025 1 first 0 0 0) (written 2025 1 end 0 0 0) 0 kind.Date kind.Date

journal_day : (row_overlaps (journal (extent.End (date 2025 1 8))) (of_days 6 8) (on 7 4 7 5) new_york ≡ true) × (row_overlaps (journal (extent.End (date 2025 1 8))) (of_days 6 8) (on 7 5 7 6) new_york ≡ false)
    × (row_overlaps (journal extent.WholeDay) (of_days 6 7) (on 6 4 6 5) new_york ≡ false) × (row_overlaps (journal extent.WholeDay) (of_days 6 7) (on 6 4 6 6) new_york ≡ true)
unfolding instant_of offset_at
journal_day = (refl, refl, refl, refl)

-- an event of the same days lasts up to its DTEND
event_days : row_overlaps (event (Some (date 2025 1 6)) (extent.End (date 2025 1 8))) (of_days 6 8) (on 7 5 7 6) new_york ≡ true
unfolding instant_of offset_at
event_days = refl

-- the row's own end would say otherwise, so the test takes the row
journal_by_its_end : (overlaps (journal (extent.End (date 2025 1 8))) (fixed (of_days 6 8) new_york) (on 7 5 7 6) ≡ true) × (row_overlaps (journal (extent.End (date 2025 1 8))) (of_days 6 8) (on 7 5 7 6) new_york ≡ false)
unfolding instant_of offset_at
journal_by_its_end = (refl, refl)

-- a journal at a time counts at its start alone
journal_at_time : (overlaps (record meeting { kind = Journal }) (instance 9 10) (from_to 9 10) ≡ true) × (overlaps (record meeting { kind = Journal }) (instance 9 10) (minutes 541 560) ≡ false)
journal_at_time = (refl, refl)

-- the end that an RDATE period gives isn't looked at where the component has none
period_of_point : overlaps (event (Some (at_hour 9)) extent.Point) (instance 12 14) (from_to 13 14) ≡ false
period_of_point = refl

-- a VFREEBUSY without DTEND counts by its periods, free ones too
abbrev pub stored_from_9 : Component
stored_from_9 = record (event None extent.None) { kind = FreeBusy; stored_busy = (None, record { start = at_hour 9; end = After (days_and_time (pos 0) (pos 3600)) }) ∷ [] }

free_busy_stored : (overlaps stored_from_9 (instance 0 0) (from_to 8 9) ≡ false) × (overlaps stored_from_9 (instance 0 0) (minutes 599 610) ≡ true) × (overlaps stored_from_9 (instance 0 0) (from_to 10 11) ≡ false)
free_busy_stored = (refl, refl, refl)

-- DURATION is no DTEND there: a VFREEBUSY of the first day with a period at 9 on the third counts by that period alone
abbrev pub lasting_from_0 : Component
lasting_from_0 = record (event (Some (at_hour 0)) (extent.Lasting (days_and_time (pos 1) (pos 0)))) {
  kind = FreeBusy;
  stored_busy = (None, record { start = at_hour 57; end = After (days_and_time (pos 0) (pos 3600)) }) ∷ [];
}

free_busy_lasting : (overlaps lasting_from_0 (instance 0 0) (minutes 3450 3465) ≡ true) × (overlaps lasting_from_0 (instance 0 0) (from_to 0 24) ≡ false)
free_busy_lasting = (refl, refl)

-- COMPLETED and CREATED, here at 9 and 12: either may lie before, in or after
abbrev pub done_and_made : Component
done_and_made = record bare { completed = Some (record { 0 = hour 12 }); created = Some (record { 0 = hour 9 }) }

to_do_done_and_made : (overlaps done_and_made (instance 0 0) (from_to 10 11) ≡ true) × (overlaps done_and_made (instance 0 0) (from_to 12 13) ≡ true)
    × (overlaps done_and_made (instance 0 0) (from_to 13 14) ≡ false) × (overlaps done_and_made (instance 0 0) (from_to 7 8) ≡ false)
to_do_done_and_made = (refl, refl, refl, refl)

-- Date properties, values of no zone read in New York.

dates : (is_in (on 6 14 6 15) (date_in [] new_york (floating 2025 1 6 9 0)) ≡ true) × (is_in (on 6 5 6 6) (date_in [] new_york (date 2025 1 6)) ≡ true)
    × (is_in (on 6 9 6 10) (date_in [] new_york (utc 2025 1 6 9 0)) ≡ true) × (is_in (on 6 9 6 10) (date_in (utc_zone ∷ []) new_york (zoned 2025 1 6 9 0)) ≡ true)
    × (is_in (on 6 8 6 9) (date_in [] new_york (utc 2025 1 6 9 0)) ≡ false)
unfolding instant_of offset_at
dates = (refl, refl, refl, refl, refl)

-- CREATED without Z is UTC all the same; a zone that is nowhere defined gives no moment
abbrev moment_in : List ℕ → List Param → Option ℤ
moment_in name params =
    option_map (λ (date : DatedLine). date.moment)
    (date_of_line (record { zones = []; floating = new_york }) false (record { name = name; params = params; value = codes "20250106T090000"; raw = [] }))

read_in_utc : (moment_in (codes "CREATED") [] ≡ Some (written 2025 1 6 9 0 0)) × (moment_in (codes "DTSTART") [] ≡ Some (written 2025 1 6 14 0 0))
    × (moment_in (codes "DTSTART") (record { name = codes "TZID"; values = codes "Nowhere" ∷ [] } ∷ []) ≡ None)
unfolding stamps_in_grammar date_of time_of date_time_of instant_of offset_at
read_in_utc = (refl, refl, refl)

-- the end that DTSTART and DURATION give: a day and an hour after 09:00 of the 6th
effective : (is_in (on 7 15 7 16) (effective_end [] new_york (floating 2025 1 6 9 0) (days_and_time (pos 1) (pos 3600))) ≡ true)
    × (is_in (on 7 5 7 6) (effective_end [] new_york (date 2025 1 6) (days_and_time (pos 1) (pos 0))) ≡ true)
unfolding instant_of offset_at
effective = (refl, refl)
