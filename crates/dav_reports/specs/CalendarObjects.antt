-- The objects of a calendar in a state, which pieces of their rows are right, and what it costs to find the other rows that a report needs.
use Rattle.std.specs.Prelude.{◌≡◌, ℕ, Bool, false, ◌&&◌, if◌then◌else◌, List, filter, map, flat_map, sum, bytes_eq, Option, Some, None, option_and_then, Ok}
use Rattle.std.specs.List.{AllByRecursion, list_any}
use Rattle.std.specs.Option.{option_map_or}
use Rattle.cal_base.specs.Lists.NameMap.{Named, value_at}
use Rattle.cal_model.specs.declared.path.Path.{Path}
use Rattle.cal_model.specs.declared.path.Path.TheVariants.{Object as ObjectPath}
use Rattle.cal_model.specs.declared.object.Object.{Object}
use Rattle.cal_model.specs.declared.report.ReportRequest.{ReportRequest}
use Rattle.cal_model.specs.declared.filter.Filter.{Filter}
use Rattle.cal_model.specs.declared.property.Props.{Props}
use Rattle.cal_model.specs.declared.property.Props.TheVariants.{None as NoProps}
use Rattle.cal_model.specs.declared.selection.Selection.{Selection}
use Rattle.cal_model.specs.Serving.ReportReplies.{Reported, object_response, octets_match}
use Rattle.cal_model.specs.declared.report.ReportRequest.TheVariants.{FreeBusy, Multiget, Query}
use Rattle.cal_model.specs.declared.row.Range.{Range}
use Rattle.cal_model.specs.declared.zone.ZoneTable.{ZoneTable}
use Rattle.cal_model.specs.Busy.BusyTimes.{BusyTime}
use Rattle.cal_model.specs.History.Origins.{Origins}
use Rattle.cal_model.specs.Objects.ObjectReading.{read_object}
use Rattle.cal_model.specs.Paths.TargetPaths.{target_path}
use Rattle.cal_model.specs.Reports.NeededWindows.{windows_needed}
use Rattle.cal_model.specs.State.ServerState.{Directory, ServerState, object_of, objects_of, octets_at, user_name}
use Rattle.object_walk.specs.WalkedObjects.{objects_at}
use Rattle.dav_reports.specs.ObjectTimes.{times_by_windows}
use Rattle.dav_reports.specs.PieceRows.{AreRowsOf, Held, needed_cost}

-- the origins of the objects of a calendar, by their names
abbrev pub OriginOf : Type 0
OriginOf = List ℕ → Option ℕ

-- what is held of an object are its rows
abbrev pub IsHeldRight : Held → OriginOf → List ℕ × List ℕ → Type 0
IsHeldRight held origin_of entry = (origin : ℕ) (object : Object) → origin_of entry.0 ≡ Some origin → read_object entry.1 ≡ Ok object → AreRowsOf held origin object

-- Of each object of a calendar what is held are its rows. Nothing is asked of what is held of other objects.
abbrev pub AreHeldRight : Held → Origins → ServerState → ℕ → List ℕ → Type 0
AreHeldRight held origins state home calendar = AllByRecursion (IsHeldRight held (origins home calendar)) (objects_at state home calendar)

-- the steps that an object costs: those of the windows that a report needs and of which no rows are held
abbrev pub object_cost : Held → ReportRequest → Option ℕ → Option Object → ℕ
object_cost held report None object = 0
object_cost held report (Some origin) None = 0
object_cost held report (Some origin) (Some object) = needed_cost held origin object (windows_needed object report)

abbrev pub entry_cost : Held → ReportRequest → OriginOf → List ℕ × List ℕ → ℕ
entry_cost held report origin_of entry = object_cost held report (origin_of entry.0) (object_of entry.1)

-- and all objects
abbrev pub entries_cost : Held → ReportRequest → OriginOf → Named (List ℕ) → ℕ
entries_cost held report origin_of entries = sum (map (entry_cost held report origin_of) entries)

-- What a report is about

-- the name of an object of a calendar, where an href names one (RFC 4791, 7.9)
abbrev pub name_in : List ℕ → List ℕ → Path → Option (List ℕ)
name_in owner calendar (ObjectPath user within name) = if bytes_eq user owner && bytes_eq within calendar then Some name else None
name_in owner calendar other = None

abbrev pub name_at : List ℕ → List ℕ → List ℕ → Option (List ℕ)
name_at owner calendar href = option_and_then (name_in owner calendar) (target_path href)

-- an href names the object of a name
abbrev pub names_object : List ℕ → List ℕ → List ℕ → List ℕ → Bool
names_object owner calendar name href = option_map_or (bytes_eq name) (name_at owner calendar href) false

-- of the objects of a calendar those that a report is about: where it has hrefs, those that they name, else all
abbrev pub concerned : List ℕ → List ℕ → ReportRequest → Named (List ℕ) → Named (List ℕ)
concerned owner calendar (Multiget props select hrefs) entries = filter (λ (entry : List ℕ × List ℕ). list_any (names_object owner calendar entry.0) hrefs) entries
concerned owner calendar other entries = entries

abbrev pub objects_concerned : Directory → ServerState → ℕ → List ℕ → ReportRequest → Named (List ℕ)
objects_concerned directory state home calendar report = concerned (user_name directory home) calendar report (objects_at state home calendar)

-- the object of a name stands among some entries, if it is there; and so does the one that an href names
abbrev pub StandsAmong : ServerState → ℕ → List ℕ → Named (List ℕ) → List ℕ → Type 0
StandsAmong state home calendar entries name = (octets : List ℕ) → octets_at state home calendar name ≡ Some octets → value_at entries name ≡ Some octets

abbrev pub NamesAmong : Directory → ServerState → ℕ → List ℕ → Named (List ℕ) → List ℕ → Type 0
NamesAmong directory state home calendar entries href = (name : List ℕ) → name_at (user_name directory home) calendar href ≡ Some name → StandsAmong state home calendar entries name

-- the busy times of some objects, over the rows in the windows that a range may need
abbrev pub times_needed : ZoneTable → Range → Object → List BusyTime
times_needed zone range object = times_by_windows zone object (windows_needed object (FreeBusy range))

abbrev pub times_of_entries : ZoneTable → Range → Named (List ℕ) → List BusyTime
times_of_entries zone range entries = flat_map (times_needed zone range) (objects_of entries)

-- what a query costs so: its properties and its zone make no window needed
abbrev pub query_cost : Held → Selection → Filter → OriginOf → Named (List ℕ) → ℕ
query_cost held select wanted origin_of entries = entries_cost held (Query NoProps select wanted None) origin_of entries

-- the responses of the objects that match a filter
abbrev pub sought_responses : Reported → Selection → ZoneTable → Props → Filter → Named (List ℕ) → List ℕ
sought_responses reported select zone props wanted entries =
    flat_map (object_response reported select zone props) (filter (λ (entry : List ℕ × List ℕ). octets_match wanted zone entry.1) entries)
