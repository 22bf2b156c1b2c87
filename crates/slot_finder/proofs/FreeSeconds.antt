-- Seconds are free of the runs of all calendars exactly where all runs lie outside them.
use Rattle.std.proofs.Common.{◌≡◌, true, false, List, [], ◌∷◌, map, refl, sym, ◌∙◌, inl, inr, arith}
use Rattle.std.specs.Prelude.{ℤ, ◌≤ℤ◌, ◌<ℤ◌, All}
use Rattle.std.specs.List.{list_any}
use Rattle.std.proofs.lemmas.Int.{ints, by_lt_z}
use Rattle.std.proofs.lemmas.Bool.{false≢true, not-true, not_from_false, or_from, or_parts}
use Rattle.std.proofs.lemmas.List.Elements.{All-nil, All-cons, All-head, All-tail}
use Rattle.cal_model.specs.Busy.BusyRuns.{covers}
use Rattle.freebusy.specs.declared.busy.Run.{Run}
use Rattle.freebusy.specs.Times.{time_of_run}
use Rattle.slot_finder.specs.FreeTimes.{AreInOrder, free_of_runs}
use Rattle.slot_finder.specs.Fits.{IsOutside, AreOutside, AreAllOutside}

-- One run.

covers_is : (run : Run) (t : ℤ) → run.start.0 ≤ℤ t → t <ℤ run.end.0 → covers t (time_of_run run) ≡ true
covers_is run t from before = grind (arith, ints)

over_by : (run : Run) (t : ℤ) → run.end.0 ≤ℤ t → covers t (time_of_run run) ≡ false
over_by run t over = grind (arith, ints)

starts_behind : (run : Run) (t : ℤ) → t <ℤ run.start.0 → covers t (time_of_run run) ≡ false
starts_behind run t behind = grind (arith, ints)

not_covered : (run : Run) (low high t : ℤ) → low ≤ℤ t → t <ℤ high → IsOutside low high run → covers t (time_of_run run) ≡ false
not_covered run low high t from before (inl over) = over_by run t (omega (arith, ints, over, from))
not_covered run low high t from before (inr behind) = starts_behind run t (omega (arith, ints, before, behind))

covered_no_more : {P : Type 0} (run : Run) (t : ℤ) → run.start.0 ≤ℤ t → t <ℤ run.end.0 → covers t (time_of_run run) ≡ false → P
covered_no_more run t from before is = absurd (false≢true (sym is ∙ covers_is run t from before))

outside_run : (run : Run) (low high : ℤ) → low <ℤ high → run.start.0 <ℤ run.end.0 → ((t : ℤ) → low ≤ℤ t → t <ℤ high → covers t (time_of_run run) ≡ false) → IsOutside low high run
outside_run run low high less some none = by_lt_z low run.end.0
    (λ before. by_lt_z run.start.0 high
    (λ near. by_lt_z low run.start.0
    (λ later. covered_no_more run run.start.0 (omega (arith, ints)) some (none run.start.0 (omega (arith, ints, later)) near))
    (λ sooner. covered_no_more run low sooner before (none low (omega (arith, ints)) less)))
    (λ behind. inr behind))
    (λ over. inl over)

-- Those of a calendar.

free_of_calendar : (runs : List Run) (low high t : ℤ) → low ≤ℤ t → t <ℤ high → AreOutside low high runs → list_any (covers t) (map time_of_run runs) ≡ false
free_of_calendar [] low high t from before outside = refl
free_of_calendar (run ∷ runs) low high t from before outside =
    or_from (covers t (time_of_run run)) (list_any (covers t) (map time_of_run runs))
    (not_covered run low high t from before (All-head (IsOutside low high) run runs outside))
    (free_of_calendar runs low high t from before (All-tail (IsOutside low high) run runs outside))

outside_of_calendar : (runs : List Run) (low high : ℤ) → low <ℤ high → All (λ (run : Run). run.start.0 <ℤ run.end.0) runs
    → ((t : ℤ) → low ≤ℤ t → t <ℤ high → list_any (covers t) (map time_of_run runs) ≡ false) → AreOutside low high runs
outside_of_calendar [] low high less some none = All-nil (IsOutside low high)
outside_of_calendar (run ∷ runs) low high less some none =
    All-cons (IsOutside low high) run runs
    (outside_run run low high less (All-head (λ (r : Run). r.start.0 <ℤ r.end.0) run runs some)
    (λ t from before. (or_parts (covers t (time_of_run run)) (list_any (covers t) (map time_of_run runs)) (none t from before)).0))
    (outside_of_calendar runs low high less (All-tail (λ (r : Run). r.start.0 <ℤ r.end.0) run runs some)
    (λ t from before. (or_parts (covers t (time_of_run run)) (list_any (covers t) (map time_of_run runs)) (none t from before)).1))

-- Those of all calendars.

busy_of_all : (calendars : List (List Run)) (low high t : ℤ) → low ≤ℤ t → t <ℤ high → AreAllOutside low high calendars → list_any (list_any (covers t)) (map (map time_of_run) calendars) ≡ false
busy_of_all [] low high t from before outside = refl
busy_of_all (runs ∷ calendars) low high t from before outside =
    or_from (list_any (covers t) (map time_of_run runs)) (list_any (list_any (covers t)) (map (map time_of_run) calendars))
    (free_of_calendar runs low high t from before (All-head (AreOutside low high) runs calendars outside))
    (busy_of_all calendars low high t from before (All-tail (AreOutside low high) runs calendars outside))

pub free_of_all : (calendars : List (List Run)) (low high t : ℤ) → low ≤ℤ t → t <ℤ high → AreAllOutside low high calendars → free_of_runs calendars t ≡ true
free_of_all calendars low high t from before outside =
    not_from_false (list_any (list_any (covers t)) (map (map time_of_run) calendars)) (busy_of_all calendars low high t from before outside)

outside_all_where : (calendars : List (List Run)) (low high : ℤ) → low <ℤ high → All AreInOrder calendars
    → ((t : ℤ) → low ≤ℤ t → t <ℤ high → list_any (list_any (covers t)) (map (map time_of_run) calendars) ≡ false) → AreAllOutside low high calendars
outside_all_where [] low high less order none = All-nil (AreOutside low high)
outside_all_where (runs ∷ calendars) low high less order none =
    All-cons (AreOutside low high) runs calendars
    (outside_of_calendar runs low high less (All-head AreInOrder runs calendars order).each
    (λ t from before. (or_parts (list_any (covers t) (map time_of_run runs)) (list_any (list_any (covers t)) (map (map time_of_run) calendars)) (none t from before)).0))
    (outside_all_where calendars low high less (All-tail AreInOrder runs calendars order)
    (λ t from before. (or_parts (list_any (covers t) (map time_of_run runs)) (list_any (list_any (covers t)) (map (map time_of_run) calendars)) (none t from before)).1))

pub outside_where_free : (calendars : List (List Run)) (low high : ℤ) → low <ℤ high → All AreInOrder calendars → ((t : ℤ) → low ≤ℤ t → t <ℤ high → free_of_runs calendars t ≡ true)
    → AreAllOutside low high calendars
outside_where_free calendars low high less order free =
    outside_all_where calendars low high less order (λ t from before. not-true (list_any (list_any (covers t)) (map (map time_of_run) calendars)) (free t from before))
