-- Over the objects of a calendar, one after another.
use Rattle.std.proofs.Common.{◌≡◌, ℕ, ◌+◌, ◌≤◌, List, [], ◌∷◌, ◌++◌, map, Option, Some, None, refl, sym, ap, subst, arith}
use Rattle.std.specs.Prelude.{Ok, flat_map, option_to_list}
use Rattle.std.specs.List.{AllByRecursion}
use Rattle.std.specs.Map.{values_of}
use Rattle.std.specs.Result.{result_ok}
use Rattle.std.proofs.lemmas.List.{append-nil}
use Rattle.std.proofs.lemmas.List.Elements.{recursion_from_All}
use Rattle.cal_base.specs.Lists.NameMap.{Named}
use Rattle.cal_model.specs.declared.object.Object.{Object}
use Rattle.cal_model.specs.declared.report.ReportRequest.{ReportRequest}
use Rattle.cal_model.specs.declared.row.Range.{Range}
use Rattle.cal_model.specs.declared.zone.ZoneTable.{ZoneTable}
use Rattle.cal_model.specs.Busy.BusyTimes.{BusyTime}
use Rattle.cal_model.specs.Objects.ObjectReading.{read_object}
use Rattle.cal_model.specs.Refusals.Preconditions.{IsServable}
use Rattle.cal_model.specs.Reports.NeededWindows.{windows_needed}
use Rattle.cal_model.specs.State.ServerState.{Calendar, Directory, ServerState, calendar_at, object_of, objects_of}
use Rattle.cal_model.specs.State.SoundStates.{IsSound}
use Rattle.cal_model.proofs.State.NameWalkLaws.{calendar-sound}
use Rattle.freebusy.specs.declared.gathering.Gathered.{Gathered}
use Rattle.freebusy.specs.Gathering.{Gathers}
use Rattle.object_walk.specs.WalkedObjects.{objects_at}
use Rattle.rrule_sets.proofs.AskedLemmas.{sum-cons}
use Rattle.dav_reports.specs.CalendarObjects.{OriginOf, entries_cost, entry_cost, object_cost, times_needed, times_of_entries}
use Rattle.dav_reports.specs.PieceRows.{Held, needed_cost}
use Rattle.dav_reports.proofs.GatheredTimes.{AreLeftOf, left-behind}

-- each object of a calendar can be served
abbrev pub IsServed : List ℕ × List ℕ → Type 0
IsServed entry = IsServable entry.1

each_value : (entries : Named (List ℕ)) → AllByRecursion IsServable (values_of entries) → AllByRecursion IsServed entries
each_value [] all = tt
each_value (entry ∷ entries) all = (all.0, each_value entries all.1)

pub all_served : (directory : Directory) (state : ServerState) (home : ℕ) (name : List ℕ) → IsSound directory state → AllByRecursion IsServed (objects_at state home name)
all_served directory state home name sound = by (calendar_at state home name) refl
  where
    by : (found : Option Calendar) → calendar_at state home name ≡ found → AllByRecursion IsServed (flat_map (λ (c : Calendar). c.objects) (option_to_list found))
    by None e = tt
    by (Some c) e =
        subst (AllByRecursion IsServed) (sym (append-nil c.objects))
        (each_value c.objects (recursion_from_All IsServable (values_of c.objects) (calendar-sound directory state home name c sound e).servable))

-- An entry whose object is known

object_known : (octets : List ℕ) (object : Object) → read_object octets ≡ Ok object → object_of octets ≡ Some object
object_known octets object reading = ap result_ok reading

pub entry_cost-known : (held : Held) (report : ReportRequest) (origin_of : OriginOf) (entry : List ℕ × List ℕ) (origin : ℕ) (object : Object) → origin_of entry.0 ≡ Some origin → read_object entry.1 ≡ Ok object
    → entry_cost held report origin_of entry ≡ needed_cost held origin object (windows_needed object report)
entry_cost-known held report origin_of entry origin object at reading = λ i. object_cost held report (at i) (object_known entry.1 object reading i)

-- the steps so far, and what those of the entries behind one more may cost
pub counted_next : (held : Held) (report : ReportRequest) (origin_of : OriginOf) (entry : List ℕ × List ℕ) (rest : Named (List ℕ)) (origin : ℕ) (object : Object) (so_far now limit : ℕ)
    → origin_of entry.0 ≡ Some origin → read_object entry.1 ≡ Ok object → so_far + entries_cost held report origin_of (entry ∷ rest) ≤ limit → now ≤ so_far + needed_cost held origin object (windows_needed object report)
    → now + entries_cost held report origin_of rest ≤ limit
counted_next held report origin_of entry rest origin object so_far now limit at reading counted steps =
    let whole = sum-cons (entry_cost held report origin_of entry) (map (entry_cost held report origin_of) rest) in
    let cost = entry_cost-known held report origin_of entry origin object at reading in
    omega (arith, whole, cost)

pub counted_within : (held : Held) (report : ReportRequest) (origin_of : OriginOf) (entry : List ℕ × List ℕ) (rest : Named (List ℕ)) (origin : ℕ) (object : Object) (so_far now limit : ℕ)
    → origin_of entry.0 ≡ Some origin → read_object entry.1 ≡ Ok object → so_far + entries_cost held report origin_of (entry ∷ rest) ≤ limit → now ≤ so_far + needed_cost held origin object (windows_needed object report) → now ≤ limit
counted_within held report origin_of entry rest origin object so_far now limit at reading counted steps =
    let next = counted_next held report origin_of entry rest origin object so_far now limit at reading counted steps in
    omega arith

pub times_known : (zone : ZoneTable) (range : Range) (old now next : Gathered) (all : List BusyTime) (entry : List ℕ × List ℕ) (rest : Named (List ℕ)) (object : Object) → read_object entry.1 ≡ Ok object
    → Gathers now next (times_needed zone range object) → AreLeftOf old now all (times_of_entries zone range (entry ∷ rest)) → AreLeftOf old next all (times_of_entries zone range rest)
times_known zone range old now next all entry rest object reading put so_far =
    left-behind old now next all (times_needed zone range object) (times_of_entries zone range rest) put
    (subst (λ (found : Option Object). AreLeftOf old now all (flat_map (times_needed zone range) (option_to_list found ++ objects_of rest))) (object_known entry.1 object reading) so_far)
