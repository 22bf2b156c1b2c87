-- The runs of a calendar in a range that is served can be written.
use Rattle.std.proofs.Common.{◌≡◌, List, map, Option, Some, None, refl, sym, subst, arith}
use Rattle.std.specs.Prelude.{All, IsSome, ◌≤ℤ◌, ◌<ℤ◌}
use Rattle.std.proofs.lemmas.Int.{ints}
use Rattle.std.proofs.lemmas.List.Elements.{All-weaker}
use Rattle.cal_model.specs.declared.object.Object.{Object}
use Rattle.cal_model.specs.declared.row.Range.{Range}
use Rattle.cal_model.specs.declared.zone.ZoneTable.{ZoneTable}
use Rattle.cal_model.specs.Busy.BusyRuns.{calendar_runs, calendar_times}
use Rattle.cal_model.specs.Busy.BusyTimes.{BusyTime}
use Rattle.cal_model.proofs.Busy.BusyRunLaws.{AreRuns-runs}
use Rattle.cal_model.proofs.Words.AllLemmas.{All-unmap}
use Rattle.freebusy.specs.declared.busy.Run.{Run}
use Rattle.freebusy.specs.Times.{time_of_run}
use Rattle.dav_reports.specs.FreeBusyLines.{IsWithinDates}
use Rattle.dav_reports.specs.ReportOutcomes.{IsServedRange}

pub some_there : {X : Type 0} (o : Option X) → IsSome o → (x : X) × (o ≡ Some x)
some_there None e = absurd cc
some_there (Some x) e = (x, refl)

-- a run within a range
abbrev IsWithin : Range → BusyTime → Type 0
IsWithin range run = (range.start.0 ≤ℤ run.start) × (run.start <ℤ run.end) × (run.end ≤ℤ range.end.0)

pub runs_within : (zone : ZoneTable) (objects : List Object) (range : Range) (found : List Run) → IsServedRange range → map time_of_run found ≡ calendar_runs zone objects range → All IsWithinDates found
runs_within zone objects range found served e =
    let within = (AreRuns-runs (calendar_times zone objects) range).within in
    All-weaker (λ (run : Run). IsWithin range (time_of_run run)) IsWithinDates
    (λ run h.
    let from = served.start in
    let to = served.end in
    let a = h.0 in
    let b = h.1 in
    let z = h.2 in
    record {
      start = (grind (arith, ints), grind (arith, ints));
      end = (grind (arith, ints), grind (arith, ints));
    })
    found (All-unmap (IsWithin range) time_of_run found (subst (All (IsWithin range)) (sym e) within))
