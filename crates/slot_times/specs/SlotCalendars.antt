-- The calendars that paths name, as the program has them: owners and names, and their runs.
-- Given: the users, a state, and the user who looks.
use Rattle.std.specs.Prelude.{◌≡◌, ℕ, if◌then◌else◌, List, [], ◌∷◌, ◌++◌, map, flat_map, take, Result, Ok, Err, Option, Some, None, IsSome, option_and_then, option_map, option_to_list, ℤ, ◌≤ℤ◌}
use Rattle.std.specs.List.{AllZip}
use Rattle.cal_moment.specs.Calendar.{IsCalendarMoment}
use Rattle.cal_model.specs.declared.object.Class.{Class}
use Rattle.cal_model.specs.declared.path.Path.{Path}
use Rattle.cal_model.specs.declared.path.Path.TheVariants.{Calendar}
use Rattle.cal_model.specs.declared.row.Range.{Range}
use Rattle.cal_model.specs.Access.Privileges.{has_all, read_free_busy}
use Rattle.cal_model.specs.Busy.BusyRuns.{calendar_runs}
use Rattle.cal_model.specs.Reports.FloatingZone.{floating_zone}
use Rattle.cal_model.specs.Sight.Views.{Sight, View, seen_by, served_class}
use Rattle.cal_model.specs.State.ServerState.{Calendar as CalendarState, Directory, ServerState, calendar_at, objects_of, own_zone}
use Rattle.cal_model.specs.Words.Limits.{first_date, last_date}
use Rattle.freebusy.specs.declared.busy.Run.{Run}
use Rattle.freebusy.specs.Times.{time_of_run}
use Rattle.slot_finder.specs.FreeTimes.{free_times}
use Rattle.slot_times.specs.SlotTimes.{busy_seen, calendar_seen, first_unseen, is_free_in}
use Rattle.slot_times.specs.declared.slot_calendars.CalendarPlace.{CalendarPlace}
use Rattle.slot_times.specs.declared.slot_calendars.Unseen.{Unseen}
use Rattle.slot_times.specs.declared.slot_calendars.Unseen.TheVariants.{Word, NoMemory}

-- Places

-- the owner of a calendar on which these privileges are held, where they let it be seen as busy or free
abbrev pub owner_by : Option ℕ → Option ℕ → Option ℕ
owner_by None user = None
owner_by (Some held) user = if has_all held read_free_busy then user else None

-- a calendar's place, where its owner is known
abbrev pub place_with : Path → Option ℕ → Option CalendarPlace
place_with (Calendar user name) owner = option_map (λ home. record { home = home; name = name }) owner
place_with other owner = None

-- the calendar is there
abbrev pub IsThere : ServerState → CalendarPlace → Type 0
IsThere state place = IsSome (calendar_at state place.home place.name)

-- the class of each second is not seen, and no calendar is found; or it is that of the calendar that is found, which is there
abbrev pub IsFoundAs : ServerState → Option (ℤ → Option Class) → Option CalendarPlace → Type 0
IsFoundAs state class None = class ≡ None
IsFoundAs state class (Some place) = (c : CalendarState) × (calendar_at state place.home place.name ≡ Some c) × (class ≡ Some (served_class c))

-- what the user sees of the class of each second at a path
abbrev pub busy_at : Directory → View → ℕ → Path → Option (ℤ → Option Class)
busy_at directory view who path = option_and_then (λ (sight : Sight). sight.busy) (calendar_seen directory view who path)

-- the calendar at a path, and that of a text which names one, is found as the user sees it
abbrev pub IsSeenAt : Directory → ServerState → ℕ → Path → Option CalendarPlace → Type 0
IsSeenAt directory state who path place = IsFoundAs state (busy_at directory (seen_by directory state who) who path) place

abbrev pub IsCalendarOf : Directory → ServerState → ℕ → List ℕ → Option CalendarPlace → Type 0
IsCalendarOf directory state who text place = IsFoundAs state (busy_seen directory (seen_by directory state who) who text) place

-- the calendar of a path was put behind others; or the path has none, which its number tells
abbrev pub IsPut : {T : Type 0} → Directory → ServerState → ℕ → List ℕ → ℕ → List CalendarPlace → List CalendarPlace → Result T Unseen → Type 0
IsPut directory state who text number old new (Ok done) = (place : CalendarPlace) × IsCalendarOf directory state who text (Some place) × (new ≡ old ++ place ∷ [])
IsPut directory state who text number old new (Err (Word told)) = (told ≡ number) × IsCalendarOf directory state who text None
IsPut directory state who text number old new (Err NoMemory) = Unit {0}

-- the calendars of some paths, each in the place of its path; or the number of the first path that has none
abbrev pub AreCalendarsOf : Directory → ServerState → ℕ → List (List ℕ) → Result (List CalendarPlace) Unseen → Type 0
AreCalendarsOf directory state who paths (Ok places) =
    (first_unseen directory (seen_by directory state who) who paths ≡ None) × AllZip (λ text place. IsCalendarOf directory state who text (Some place)) paths places
AreCalendarsOf directory state who paths (Err (Word number)) = first_unseen directory (seen_by directory state who) who paths ≡ Some number
AreCalendarsOf directory state who paths (Err NoMemory) = Unit {0}

-- Runs and times

abbrev pub IsServedRange : Range → Type 0
IsServedRange range = (first_date ≤ℤ range.start.0) × (range.end.0 ≤ℤ last_date)

-- the runs of a calendar that is there
abbrev pub AreRunsAt : ServerState → Range → CalendarPlace → List Run → Type 0
AreRunsAt state range place found =
    (c : CalendarState) → calendar_at state place.home place.name ≡ Some c → map time_of_run found ≡ calendar_runs (floating_zone None (own_zone c.texts)) (objects_of c.objects) range

abbrev pub AreRunsOf : ServerState → Range → List CalendarPlace → List (List Run) → Type 0
AreRunsOf state range places runs = AllZip (AreRunsAt state range) places runs

-- the classes of the calendars
abbrev pub classes_of : ServerState → List CalendarPlace → List (ℤ → Option Class)
classes_of state places = flat_map (λ (place : CalendarPlace). option_to_list (option_map served_class (calendar_at state place.home place.name))) places

-- their first free times
abbrev pub times_of : ServerState → List CalendarPlace → Range → ℕ → ℕ → List Range
times_of state places range seconds most = take most (free_times (is_free_in (classes_of state places)) range seconds)

-- both ends can be written
abbrev pub IsWritable : Range → Type 0
IsWritable time = IsCalendarMoment time.start.0 × IsCalendarMoment time.end.0
