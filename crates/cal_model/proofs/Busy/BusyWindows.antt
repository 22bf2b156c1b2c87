-- The windows that a query for busy times may need are enough: each row that makes busy within its range lies in one of them.
use Rattle.std.proofs.Common.{◌≡◌, ◌+◌, Bool, true, false, cond, not, ◌&&◌, List, [], ◌∷◌, ◌++◌, map, Option, Some, None, refl, sym, ap, ◌∙◌, ℤ, ◌<ℤ◌, ◌≤ℤ◌, arith}
use Rattle.std.specs.Prelude.{filter, flat_map, option_to_list}
use Rattle.std.specs.List.{list_any, Contains, AllByRecursion}
use Rattle.std.proofs.lemmas.Bool.{and_from}
use Rattle.std.proofs.lemmas.Int.{ints}
use Rattle.std.proofs.lemmas.List.Elements.{All-contains, filter-append, filter_agree}
use Rattle.cal_model.specs.declared.object.Class.{Class}
use Rattle.cal_model.specs.declared.object.Component.{Component}
use Rattle.cal_model.specs.declared.object.Object.{Object}
use Rattle.cal_model.specs.declared.report.ReportRequest.TheVariants.{FreeBusy}
use Rattle.cal_model.specs.Busy.BusyTimes.{BusyTime, busy_times, times_of_row, time_of_row, class_of_row, times_of_stored, stored_periods}
use Rattle.cal_model.specs.Busy.BusyRuns.{covers, greatest_class, runs, calendar_times, calendar_runs}
use Rattle.cal_model.specs.Words.Integers.{same_int}
use Rattle.cal_model.specs.Reports.NeededWindows.{is_stated_window, meets_some, counts, is_needed, override_windows}
use Rattle.cal_model.specs.declared.row.Range.{Range}
use Rattle.cal_model.specs.declared.row.Row.{Row}
use Rattle.cal_model.specs.declared.zone.ZoneTable.{ZoneTable}
use Rattle.cal_model.specs.Ranges.Cost.{longest, margin, window_meets}
use Rattle.cal_model.specs.Ranges.Nearness.{HasNearRows, HasShortOffsets}
use Rattle.cal_model.specs.Ranges.Overlap.{fixed}
use Rattle.cal_model.specs.Recurrence.RecurrenceSet.{every_moment}
use Rattle.cal_model.specs.Instances.Rows.{rows, is_dated, nominal_start, window_of}
use Rattle.cal_model.proofs.Busy.BusyRunLaws.{runs-same_classes}
use Rattle.cal_model.proofs.Words.ListTests.{or_left, or_right, each, filter-filter}
use Rattle.cal_model.proofs.Reports.ReportLaws.{is_looked_at}
use Rattle.cal_model.proofs.Ranges.WindowLaws.{Contains-unfilter}
use Rattle.cal_model.proofs.Ranges.NearRanges.{moments-near, window_meets-of}
use Rattle.cal_model.proofs.Ranges.NearRows.{IsRowOf, rows-of_components}

-- a row whose time has a second of a range lies in a window that the widened range meets
pub busy_row-near : (object : Object) (zone : ZoneTable) (range : Range) → HasNearRows object → HasShortOffsets zone → (row : Row) → Contains (rows object) row → is_dated row ≡ true
    → range.start.0 <ℤ (fixed row zone).end → (fixed row zone).start <ℤ range.end.0 → window_meets (margin object) range (window_of object row) ≡ true
busy_row-near object zone range near short row among dated ends starts =
    let is = All-contains (λ r. is_dated r ≡ true → IsRowOf object r) (rows object) row (rows-of_components every_moment object near) among dated in
    let lies = moments-near object row zone is row.end near short is.end_near in
    let first = lies.start in
    let last = lies.end in
    window_meets-of (margin object) (259200 + longest object) range (nominal_start object row) (omega arith)
    (omega (arith, ints, last.1, last.0, ends), omega (arith, ints, first.0, first.1, starts))

-- The runs of a calendar over the rows that are looked at

-- the busy times of an object as far as some rows give them
abbrev pub times_over : ZoneTable → Object → List Row → List BusyTime
times_over zone object some =
    flat_map (times_of_row zone object) (filter is_dated some) ++ flat_map times_of_stored (flat_map (λ (c : Component). stored_periods c.kind c) object.components)

filter_flat_map : {X Y : Type 0} (p : Y → Bool) (f : X → List Y) (q : X → Bool) (xs : List X) → AllByRecursion (λ x. q x ≡ false → filter p (f x) ≡ []) xs → filter p (flat_map f (filter q xs)) ≡ filter p (flat_map f xs)
filter_flat_map p f q [] a = refl
filter_flat_map p f q (x ∷ xs) a = by_test (q x) refl (filter_flat_map p f q xs a.1)
  where
    by_test : (test : Bool) → q x ≡ test → filter p (flat_map f (filter q xs)) ≡ filter p (flat_map f xs) → filter p (flat_map f (cond test (x ∷ filter q xs) (filter q xs))) ≡ filter p (f x ++ flat_map f xs)
    by_test true e rest = filter-append p (f x) (flat_map f (filter q xs)) ∙ ap (λ ys. filter p (f x) ++ ys) rest ∙ sym (filter-append p (f x) (flat_map f xs))
    by_test false e rest = rest ∙ ap (λ ys. ys ++ filter p (flat_map f xs)) (sym (a.0 e)) ∙ sym (filter-append p (f x) (flat_map f xs))

and_comm : (s t : Bool) → (s && t) ≡ (t && s)
and_comm true true = refl
and_comm true false = refl
and_comm false true = refl
and_comm false false = refl

filter_turn : {X : Type 0} (p q : X → Bool) (xs : List X) → filter p (filter q xs) ≡ filter q (filter p xs)
filter_turn p q xs = filter-filter p q xs ∙ filter_agree (λ x. q x && p x) (λ x. p x && q x) (λ x. and_comm (q x) (p x)) xs ∙ sym (filter-filter q p xs)

covers_parts : (t : ℤ) (time : BusyTime) → covers t time ≡ true → (time.start ≤ℤ t) × (t <ℤ time.end)
covers_parts t time e = (grind (arith, ints, e), grind (arith, ints, e))

-- a row that is not looked at covers no second of the range
not_covered : (object : Object) (zone : ZoneTable) (range : Range) → HasNearRows object → HasShortOffsets zone → ((row : Row) → Contains (rows object) row → is_dated row ≡ true → is_stated_window (window_of object row) ≡ true)
    → (t : ℤ) → range.start.0 ≤ℤ t → t <ℤ range.end.0 → (row : Row) → Contains (rows object) row → is_dated row ≡ true → (class : Class) → is_looked_at object (FreeBusy range) row ≡ false → covers t (time_of_row zone row class) ≡ false
not_covered object zone range near short stated t l m row among dated class e = by_test (covers t (time_of_row zone row class)) refl
  where
    by_test : (test : Bool) → covers t (time_of_row zone row class) ≡ test → test ≡ false
    by_test false h = refl
    by_test true h =
        let time = covers_parts t (time_of_row zone row class) h in
        let meets = busy_row-near object zone range near short row among dated (omega (arith, ints, l, time.1)) (omega (arith, ints, m, time.0)) in
        let counted : counts object (range ∷ []) (window_of object row) ≡ true =
        or_left (meets_some object (range ∷ []) (window_of object row)) (list_any (same_int (window_of object row)) (override_windows object)) (or_left (window_meets (margin object) range (window_of object row)) false meets) in
        sym (sym e ∙ or_right (not (is_dated row)) (is_needed object (FreeBusy range) (window_of object row)) (and_from (is_stated_window (window_of object row)) (counts object (range ∷ []) (window_of object row)) (stated row among dated) counted))

row_not_covered : (object : Object) (zone : ZoneTable) (range : Range) → HasNearRows object → HasShortOffsets zone → ((row : Row) → Contains (rows object) row → is_dated row ≡ true → is_stated_window (window_of object row) ≡ true)
    → (t : ℤ) → range.start.0 ≤ℤ t → t <ℤ range.end.0 → (row : Row) → Contains (filter is_dated (rows object)) row → is_looked_at object (FreeBusy range) row ≡ false → filter (covers t) (times_of_row zone object row) ≡ []
row_not_covered object zone range near short stated t l m row c e = by_class (class_of_row object row)
  where
    by_class : (class : Option Class) → filter (covers t) (map (time_of_row zone row) (option_to_list class)) ≡ []
    by_class None = refl
    by_class (Some class) = rw (not_covered object zone range near short stated t l m row (Contains-unfilter is_dated row (rows object) c).1 (Contains-unfilter is_dated row (rows object) c).0 class e) refl

object_same : (object : Object) (zone : ZoneTable) (range : Range) → HasNearRows object → HasShortOffsets zone → ((row : Row) → Contains (rows object) row → is_dated row ≡ true → is_stated_window (window_of object row) ≡ true)
    → (t : ℤ) → range.start.0 ≤ℤ t → t <ℤ range.end.0 → filter (covers t) (times_over zone object (filter (is_looked_at object (FreeBusy range)) (rows object))) ≡ filter (covers t) (busy_times zone object)
object_same object zone range near short stated t l m =
    let keep = is_looked_at object (FreeBusy range) in
    let stored = flat_map times_of_stored (flat_map (λ (c : Component). stored_periods c.kind c) object.components) in
    filter-append (covers t) (flat_map (times_of_row zone object) (filter is_dated (filter keep (rows object)))) stored
    ∙ ap (λ ys. ys ++ filter (covers t) stored)
    (ap (λ rs. filter (covers t) (flat_map (times_of_row zone object) rs)) (filter_turn is_dated keep (rows object))
    ∙ filter_flat_map (covers t) (times_of_row zone object) keep (filter is_dated (rows object))
    (each (λ row. keep row ≡ false → filter (covers t) (times_of_row zone object row) ≡ []) (filter is_dated (rows object)) (row_not_covered object zone range near short stated t l m)))
    ∙ sym (filter-append (covers t) (flat_map (times_of_row zone object) (filter is_dated (rows object))) stored)

-- what an object has that was read
pub record IsRead (object : Object) : Type 0 where
  pub near : HasNearRows object
  pub stated : (row : Row) → Contains (rows object) row → is_dated row ≡ true → is_stated_window (window_of object row) ≡ true

objects_same : (zone : ZoneTable) (range : Range) → HasShortOffsets zone → (t : ℤ) → range.start.0 ≤ℤ t → t <ℤ range.end.0 → (objects : List Object) → AllByRecursion IsRead objects
    → filter (covers t) (flat_map (λ object. times_over zone object (filter (is_looked_at object (FreeBusy range)) (rows object))) objects) ≡ filter (covers t) (calendar_times zone objects)
objects_same zone range short t l m [] a = refl
objects_same zone range short t l m (object ∷ objects) a =
    let mine : Object → List BusyTime = λ o. times_over zone o (filter (is_looked_at o (FreeBusy range)) (rows o)) in
    filter-append (covers t) (mine object) (flat_map mine objects)
    ∙ (λ i. object_same object zone range a.0.near short a.0.stated t l m i ++ objects_same zone range short t l m objects a.1 i)
    ∙ sym (filter-append (covers t) (busy_times zone object) (calendar_times zone objects))

-- The law of a query for busy times: over the rows that it looks at a calendar has the runs that it has over all rows.
pub runs-looked_at : (zone : ZoneTable) (objects : List Object) (range : Range) → HasShortOffsets zone → AllByRecursion IsRead objects
    → runs (flat_map (λ object. times_over zone object (filter (is_looked_at object (FreeBusy range)) (rows object))) objects) range ≡ calendar_runs zone objects range
runs-looked_at zone objects range short read =
    runs-same_classes (flat_map (λ object. times_over zone object (filter (is_looked_at object (FreeBusy range)) (rows object))) objects) (calendar_times zone objects) range
    (λ t l m. ap greatest_class (objects_same zone range short t l m objects read))
