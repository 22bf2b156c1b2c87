-- For those who look for free time: the runs of a calendar stand in order, and in their range a second is free of the runs of several calendars exactly where it is free of their times.
use Rattle.std.proofs.Common.{◌≡◌, Bool, true, false, cond, ◌||◌, List, [], ◌∷◌, map, refl, sym, ap, subst, arith}
use Rattle.std.specs.Prelude.{ℤ, ◌≤ℤ◌, ◌<ℤ◌, AllPairs, filter}
use Rattle.std.specs.Option.{is_some}
use Rattle.std.specs.List.{list_any}
use Rattle.std.proofs.lemmas.Int.{ints}
use Rattle.std.proofs.lemmas.List.{get_or-map, length-map}
use Rattle.std.proofs.lemmas.List.Elements.{All-weaker}
use Rattle.cal_model.specs.declared.row.Range.{Range}
use Rattle.cal_model.specs.Busy.BusyTimes.{BusyTime}
use Rattle.cal_model.specs.Busy.BusyRuns.{AreRuns, class_at, covers, greatest_class, runs}
use Rattle.cal_model.proofs.Busy.BusyRunLaws.{AreRuns-runs}
use Rattle.cal_model.proofs.Words.AllLemmas.{All-unmap}
use Rattle.freebusy.specs.declared.busy.Run.{Run}
use Rattle.freebusy.specs.Times.{time_of_run}
use Rattle.slot_finder.specs.FreeTimes.{AreInOrder}

apart_unmapped : (found : List Run) → AllPairs (λ (run later : BusyTime). run.end ≤ℤ later.start) (map time_of_run found) → AllPairs (λ (run later : Run). run.end.0 ≤ℤ later.start.0) found
apart_unmapped found apart i j d less below =
    let there = apart i j (time_of_run d) less (omega (arith, below, length-map found time_of_run)) in
    let first = ap (λ (time : BusyTime). time.end) (get_or-map time_of_run found i d (time_of_run d) (omega (arith, less, below))) in
    let second = ap (λ (time : BusyTime). time.start) (get_or-map time_of_run found j d (time_of_run d) below) in
    omega (arith, ints, there, first, second)

pub runs_in_order : (times : List BusyTime) (range : Range) (found : List Run) → map time_of_run found ≡ runs times range → AreInOrder found
runs_in_order times range found is =
    let right : AreRuns times range (map time_of_run found) = subst (AreRuns times range) (sym is) (AreRuns-runs times range) in
    record {
      each = All-weaker (λ (run : Run). (range.start.0 ≤ℤ run.start.0) × (run.start.0 <ℤ run.end.0) × (run.end.0 ≤ℤ range.end.0)) (λ (run : Run). run.start.0 <ℤ run.end.0) (λ run within. within.1) found
          (All-unmap (λ (time : BusyTime). (range.start.0 ≤ℤ time.start) × (time.start <ℤ time.end) × (time.end ≤ℤ range.end.0)) time_of_run found right.within);
      apart = apart_unmapped found right.in_order;
    }

-- a second has a class exactly where some time covers it

covered_by : (v : Bool) (time : BusyTime) (rest : List BusyTime) (others : Bool) → is_some (greatest_class rest) ≡ others → is_some (greatest_class (cond v (time ∷ rest) rest)) ≡ (v || others)
covered_by true time rest others is = refl
covered_by false time rest others is = is

pub has_class : (times : List BusyTime) (t : ℤ) → is_some (class_at times t) ≡ list_any (covers t) times
has_class [] t = refl
has_class (time ∷ times) t = covered_by (covers t time) time (filter (covers t) times) (list_any (covers t) times) (has_class times t)
