-- The windows that a report may need are enough: each row that can meet one of its ranges lies in one of them.
use Rattle.std.proofs.Common.{◌≡◌, ℕ, ◌≤◌, Bool, true, false, not, ◌&&◌, ◌||◌, List, [], ◌∷◌, length, Option, Some, None, refl, sym, ⊎_elim, arith}
use Rattle.std.specs.Prelude.{◌==◌, All, filter as filter_rows, take, option_to_list, slice_get}
use Rattle.std.specs.List.{list_any, Contains}
use Rattle.std.proofs.lemmas.Bool.{false≢true, and_parts, and_from, or_cases}
use Rattle.std.proofs.lemmas.List.Elements.{All-contains, All-take, Contains-append_right, Contains-append_left}
use Rattle.std.proofs.lemmas.List.Folds.{Any-from_list_any}
use Rattle.std.proofs.lemmas.Option.{slice_get_read}
use Rattle.cal_moment.specs.declared.stamp.Length.{Length}
use Rattle.cal_model.specs.declared.filter.Filter.{Filter}
use Rattle.cal_model.specs.declared.object.Alarm.{Alarm}
use Rattle.cal_model.specs.declared.object.Component.{Component}
use Rattle.cal_model.specs.declared.object.Object.{Object}
use Rattle.cal_model.specs.declared.object.Related.{Related}
use Rattle.cal_model.specs.declared.object.Trigger.{Trigger}
use Rattle.cal_model.specs.declared.object.Trigger.TheVariants.{At, From}
use Rattle.cal_model.specs.declared.property.Props.{Props}
use Rattle.cal_model.specs.declared.selection.Recur.{Recur}
use Rattle.cal_model.specs.declared.selection.Recur.TheVariants.{Whole, Expand, Limit}
use Rattle.cal_model.specs.declared.selection.Selection.{Selection}
use Rattle.cal_model.specs.Selections.ShownData.{shown, shown_of_object}
use Rattle.cal_model.specs.declared.report.ReportRequest.{ReportRequest}
use Rattle.cal_model.specs.declared.report.ReportRequest.TheVariants.{Query, Multiget}
use Rattle.cal_model.specs.declared.row.Range.{Range}
use Rattle.cal_model.specs.declared.row.Row.{Row}
use Rattle.cal_model.specs.declared.zone.ZoneTable.{ZoneTable}
use Rattle.cal_model.specs.Ranges.Cost.{margin, window_meets}
use Rattle.cal_model.specs.Ranges.Nearness.{HasNearRows, HasShortOffsets}
use Rattle.cal_model.specs.Filters.Matching.{matches, matches_object}
use Rattle.cal_model.specs.Reports.NamedRanges.{ranges_named, ranges_of_filter, ranges_of_recur, ranges_of_selection}
use Rattle.cal_model.specs.Words.Lists.{is_empty}
use Rattle.cal_model.specs.Words.Integers.{same_int}
use Rattle.cal_model.specs.Ranges.Overlap.{row_overlaps, alarm_overlaps, dated_fixed}
use Rattle.cal_model.specs.Recurrence.RecurrenceSet.{every_moment}
use Rattle.cal_model.specs.Reports.NeededWindows.{is_stated_window, meets_some, counts, is_needed, override_windows}
use Rattle.cal_model.specs.Ranges.RowRanges.{row_meets, row_in_range, row_alarm_in_range, alarm_in_range, is_relative}
use Rattle.cal_model.specs.Instances.Rows.{Numbered, rows, masters, is_dated, window_of}
use Rattle.cal_model.proofs.Words.ListTests.{any_from, or_left, or_right, not_empty, each_of, Keeps}
use Rattle.cal_model.specs.Selections.EnoughRows.{AreEnoughToShow, is_dated_of, KeepsFirsts}
use Rattle.cal_model.proofs.Selections.ShownDataLaws.{shown-enough_rows}
use Rattle.cal_model.proofs.Reports.OverrideWindows.{IsInWindow, first_rows-in_windows}
use Rattle.cal_model.proofs.Filters.MatchingLaws.{matches-enough_rows_of_object}
use Rattle.cal_model.proofs.Ranges.NearRanges.{rows-near, alarms-near}
use Rattle.cal_model.proofs.Ranges.WindowLaws.{Contains-filter, Contains-unfilter}

-- a window that meets a widened range
abbrev Meets : Object → Range → Row → Type 0
Meets object range row = window_meets (margin object) range (window_of object row) ≡ true

-- a test of the one component of a row
of_found : (p : Component → Bool) (found : Option Component) → list_any p (option_to_list found) ≡ true → (c : Component) × (found ≡ Some c) × (p c ≡ true)
of_found p None e = absurd (false≢true e)
of_found p (Some c) e = (c, refl, ⊎_elim (λ h. h) (λ h. absurd (false≢true h)) (or_cases (p c) false e))

by_own_time : (object : Object) (zone : ZoneTable) (range : Range) → HasNearRows object → HasShortOffsets zone → (row : Row) → Contains (rows object) row → is_dated row ≡ true → row_in_range object zone range row ≡ true → Meets object range row
by_own_time object zone range near short row among dated e =
    let found = of_found (λ c. row_overlaps c row range zone) (slice_get object.components row.component) e in
    All-contains (λ (r : Row). (c : Component) → slice_get object.components r.component ≡ Some c → is_dated r ≡ true → row_overlaps c r range zone ≡ true → window_meets (margin object) range (window_of object r) ≡ true)
    (rows object) row (rows-near every_moment object zone range near short) among found.0 found.1 dated found.2

-- a trigger that counts from a row
of_relative : (trigger : Trigger) → is_relative trigger ≡ true → (r : Related) × (length : Length) × (trigger ≡ From r length)
of_relative (At u) e = absurd (false≢true e)
of_relative (From r length) e = (r, length, refl)

by_alarm : (object : Object) (zone : ZoneTable) (range : Range) → HasNearRows object → HasShortOffsets zone → (row : Row) → Contains (rows object) row → row_alarm_in_range object zone range row ≡ true → Meets object range row
by_alarm object zone range near short row among e =
    let found = of_found (λ (c : Component). list_any (alarm_in_range zone range row c) c.alarms) (slice_get object.components row.component) e in
    let alarm = Any-from_list_any (alarm_in_range zone range row found.0) found.0.alarms found.2 in
    let both = and_parts (is_relative alarm.1.trigger) (alarm_overlaps alarm.1 found.0 (dated_fixed row zone) range) alarm.4 in
    let from = of_relative alarm.1.trigger both.0 in
    All-contains (λ (r : Row). (c : Component) (k : ℕ) (a : Alarm) (related : Related) (length : Length) → slice_get object.components r.component ≡ Some c → slice_get c.alarms k ≡ Some a → a.trigger ≡ From related length → alarm_overlaps a c (dated_fixed r zone) range ≡ true → window_meets (margin object) range (window_of object r) ≡ true)
    (rows object) row (alarms-near every_moment object zone range near short) among found.0 alarm.0 alarm.1 from.0 from.1 found.1 (slice_get_read found.0.alarms (length found.0.alarms) alarm.0 alarm.1 refl alarm.2 (sym alarm.3)) from.2 both.1

row_near : (object : Object) (zone : ZoneTable) (range : Range) → HasNearRows object → HasShortOffsets zone → (row : Row) → Contains (rows object) row → is_dated row ≡ true → row_meets object zone range row ≡ true → Meets object range row
row_near object zone range near short row among dated e =
    ⊎_elim (by_own_time object zone range near short row among dated) (by_alarm object zone range near short row among) (or_cases (row_in_range object zone range row) (row_alarm_in_range object zone range row) e)

-- the window of a row that can meet one of some ranges counts for these
pub counts-row_meets : (object : Object) (zone : ZoneTable) (ranges : List Range) → HasNearRows object → HasShortOffsets zone → (range : Range) → Contains ranges range → (row : Row) → Contains (rows object) row → is_dated row ≡ true
    → row_meets object zone range row ≡ true → counts object ranges (window_of object row) ≡ true
counts-row_meets object zone ranges near short range named row among dated e =
    and_from (not (is_empty ranges)) (meets_some object ranges (window_of object row) || list_any (same_int (window_of object row)) (override_windows object))
    (not_empty ranges range named)
    (or_left (meets_some object ranges (window_of object row)) (list_any (same_int (window_of object row)) (override_windows object))
    (any_from (λ r. window_meets (margin object) r (window_of object row)) ranges range named (row_near object zone range near short row among dated e)))

-- the rows that a report looks at: those without a date, and those of the windows that it may need
abbrev pub is_looked_at : Object → ReportRequest → Row → Bool
is_looked_at object report row = not (is_dated row) || is_needed object report (window_of object row)

looked_at : (object : Object) (zone : ZoneTable) (report : ReportRequest) → HasNearRows object → HasShortOffsets zone → ((row : Row) → Contains (rows object) row → is_dated row ≡ true → is_stated_window (window_of object row) ≡ true)
    → (range : Range) → Contains (ranges_named report) range → (row : Row) → Contains (rows object) row → row_meets object zone range row ≡ true → is_looked_at object report row ≡ true
looked_at object zone report near short stated range named row among e = by_date (is_dated row) refl
  where
    by_date : (dated : Bool) → is_dated row ≡ dated → (not dated || is_needed object report (window_of object row)) ≡ true
    by_date false d = refl
    by_date true d = and_from (is_stated_window (window_of object row)) (counts object (ranges_named report) (window_of object row)) (stated row among d)
        (counts-row_meets object zone (ranges_named report) near short range named row among d e)

-- The law of a query: over the rows that it looks at the filter gives what it gives over all rows of the object.
pub matches-looked_at : (props : Props) (select : Selection) (filter : Filter) (timezone : Option (List ℕ)) (object : Object) (zone : ZoneTable) → HasNearRows object → HasShortOffsets zone
    → ((row : Row) → Contains (rows object) row → is_dated row ≡ true → is_stated_window (window_of object row) ≡ true)
    → matches filter object (filter_rows (is_looked_at object (Query props select filter timezone)) (rows object)) zone ≡ matches_object filter object zone
matches-looked_at props select filter timezone object zone near short stated =
    let report : ReportRequest = Query props select filter timezone in
    matches-enough_rows_of_object filter object zone (filter_rows (is_looked_at object report) (rows object))
    (λ row c. (Contains-unfilter (is_looked_at object report) row (rows object) c).1)
    (λ range named row c e. Contains-filter (is_looked_at object report) row (rows object)
    (looked_at object zone report near short stated range (Contains-append_right (ranges_of_selection select) (ranges_of_filter filter.top) range named) row c e) c)

-- The same of calendar data

-- two things that hold of each give a third
All-with : {X : Type 0} (P Q R : X → Type 0) → ((x : X) → P x → Q x → R x) → (xs : List X) → All P xs → All Q xs → All R xs
All-with P Q R f xs all each = λ k d lt. f _ (all k d lt) (each k d lt)

-- the first dated row of each override is looked at, where some range is named
firsts_looked_at : (object : Object) (report : ReportRequest) → length (masters object) ≤ 1 → ((row : Row) → Contains (rows object) row → is_dated row ≡ true → is_stated_window (window_of object row) ≡ true)
    → (range : Range) → Contains (ranges_named report) range → KeepsFirsts object (is_looked_at object report) (rows object)
firsts_looked_at object report one stated range named n c =
    All-with (IsInWindow object) (λ row. Contains (rows object) row × (is_dated_of n row ≡ true)) (λ row. is_looked_at object report row ≡ true) each
    (take 1 (filter_rows (is_dated_of n) (rows object)))
    (first_rows-in_windows object one n c)
    (All-take (λ row. Contains (rows object) row × (is_dated_of n row ≡ true)) 1 (filter_rows (is_dated_of n) (rows object))
    (each_of (λ row. Contains (rows object) row × (is_dated_of n row ≡ true)) (filter_rows (is_dated_of n) (rows object)) (λ row d. let both = Contains-unfilter (is_dated_of n) row (rows object) d in (both.1, both.0))))
  where
    each : (row : Row) → IsInWindow object row → Contains (rows object) row × (is_dated_of n row ≡ true) → is_looked_at object report row ≡ true
    each row there of =
        let dated = (and_parts (row.component == n.number) (is_dated row) of.1).1 in
        or_right (not (is_dated row)) (is_needed object report (window_of object row))
        (and_from (is_stated_window (window_of object row)) (counts object (ranges_named report) (window_of object row)) (stated row of.0 dated)
        (and_from (not (is_empty (ranges_named report))) (meets_some object (ranges_named report) (window_of object row) || list_any (same_int (window_of object row)) (override_windows object))
        (not_empty (ranges_named report) range named)
        (or_right (meets_some object (ranges_named report) (window_of object row)) (list_any (same_int (window_of object row)) (override_windows object)) there)))

overlapping_looked_at : (object : Object) (zone : ZoneTable) (report : ReportRequest) → HasNearRows object → HasShortOffsets zone → ((row : Row) → Contains (rows object) row → is_dated row ≡ true → is_stated_window (window_of object row) ≡ true)
    → (range : Range) → Contains (ranges_named report) range → Keeps (is_looked_at object report) (rows object) (row_in_range object zone range)
overlapping_looked_at object zone report near short stated range named row among e =
    looked_at object zone report near short stated range named row among (or_left (row_in_range object zone range row) (row_alarm_in_range object zone range row) e)

here : (range : Range) → Contains (range ∷ []) range
here range = (0, omega arith, refl)

recur_enough : (object : Object) (zone : ZoneTable) (report : ReportRequest) → HasNearRows object → HasShortOffsets zone → length (masters object) ≤ 1 → ((row : Row) → Contains (rows object) row → is_dated row ≡ true → is_stated_window (window_of object row) ≡ true)
    → (recur : Recur) → ((range : Range) → Contains (ranges_of_recur recur) range → Contains (ranges_named report) range) → AreEnoughToShow object zone (is_looked_at object report) (rows object) recur
recur_enough object zone report near short one stated Whole named = tt
recur_enough object zone report near short one stated (Expand range) named = overlapping_looked_at object zone report near short stated range (named range (here range))
recur_enough object zone report near short one stated (Limit range) named =
    (overlapping_looked_at object zone report near short stated range (named range (here range)), firsts_looked_at object report one stated range (named range (here range)))

-- The law of a query and of a multiget: over the rows that it looks at an object is shown as over all of its rows.
pub shown-looked_at : (report : ReportRequest) (select : Selection) → ((range : Range) → Contains (ranges_of_recur select.recur) range → Contains (ranges_named report) range)
    → (octets : List ℕ) (object : Object) (zone : ZoneTable) → HasNearRows object → HasShortOffsets zone → length (masters object) ≤ 1
    → ((row : Row) → Contains (rows object) row → is_dated row ≡ true → is_stated_window (window_of object row) ≡ true)
    → shown octets object (filter_rows (is_looked_at object report) (rows object)) select zone ≡ shown_of_object octets object select zone
shown-looked_at report select named octets object zone near short one stated =
    shown-enough_rows octets object select zone (is_looked_at object report) (rows object) (recur_enough object zone report near short one stated select.recur named)

-- both reports name the ranges of what they select
pub names-query : (props : Props) (select : Selection) (filter : Filter) (timezone : Option (List ℕ)) (range : Range) → Contains (ranges_of_recur select.recur) range → Contains (ranges_named (Query props select filter timezone)) range
names-query props select filter timezone range c =
    Contains-append_left (ranges_of_selection select) (ranges_of_filter filter.top) range (Contains-append_left (ranges_of_recur select.recur) (option_to_list select.busy) range c)

pub names-multiget : (props : Props) (select : Selection) (hrefs : List (List ℕ)) (range : Range) → Contains (ranges_of_recur select.recur) range → Contains (ranges_named (Multiget props select hrefs)) range
names-multiget props select hrefs range c = Contains-append_left (ranges_of_recur select.recur) (option_to_list select.busy) range c
