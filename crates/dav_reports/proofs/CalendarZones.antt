-- The zone of a calendar that is there, and its objects.
use Rattle.std.proofs.Common.{◌≡◌, ℕ, List, [], ◌∷◌, ◌++◌, Option, Some, None, refl, sym, ap, ◌∙◌, subst}
use Rattle.std.specs.Prelude.{Ok, Err, Result, flat_map, option_and_then, option_map, option_to_list, unwrap_or}
use Rattle.std.specs.List.{AllByRecursion}
use Rattle.std.specs.Result.{result_ok}
use Rattle.std.proofs.lemmas.List.{append-nil}
use Rattle.std.proofs.lemmas.Option.{none-some}
use Rattle.cal_base.specs.Lists.NameMap.{Named, value_at}
use Rattle.cal_model.specs.declared.object.Object.{Object}
use Rattle.cal_model.specs.declared.row.Range.{Range}
use Rattle.cal_model.specs.declared.store.CalendarData.{CalendarData}
use Rattle.cal_model.specs.declared.zone.ZoneTable.{ZoneTable}
use Rattle.cal_model.specs.Busy.BusyRuns.{calendar_runs, runs}
use Rattle.cal_model.specs.Instances.Alignment.{utc_zone}
use Rattle.cal_model.specs.Objects.ObjectReading.{Unread, read_object, read_zone}
use Rattle.cal_model.specs.Reports.FloatingZone.{floating_zone}
use Rattle.cal_model.specs.State.PropertyTexts.{Texts, text_at}
use Rattle.cal_model.specs.State.ServerState.{Calendar, Directory, Home, ServerState, calendar_at, calendar_timezone, home_at, objects_of, own_zone}
use Rattle.cal_model.specs.State.SoundStates.{IsSound}
use Rattle.cal_model.specs.State.StoredData.{data_at, data_of}
use Rattle.cal_model.specs.TimeZones.TableBounds.{IsTable}
use Rattle.cal_model.proofs.Objects.ObjectFactLaws.{IsZone-read_zone}
use Rattle.cal_model.proofs.TimeZones.NearTimes.{HasShortOffsets-table}
use Rattle.cal_model.proofs.TimeZones.ZoneTableLaws.{IsTable-table_of}
use Rattle.object_walk.specs.WalkedObjects.{objects_at}
use Rattle.dav_reports.specs.CalendarObjects.{times_of_entries}
use Rattle.dav_reports.specs.PieceRows.{IsKept}
use Rattle.dav_reports.proofs.CalendarWalks.{IsServed, all_served}
use Rattle.dav_reports.proofs.KeptObjects.{IsKept-stored}
use Rattle.dav_reports.proofs.TimeClasses.{runs-by_windows}

-- the data of a calendar are those of one that is there
pub data_known : (state : ServerState) (home : ℕ) (name : List ℕ) (found : CalendarData) → data_at state home name ≡ Some found
    → (c : Calendar) × (calendar_at state home name ≡ Some c) × (found ≡ data_of home c)
data_known state home name found e = by_home (home_at state home) e
  where
    by_name : (value : Option Calendar) → option_map (data_of home) value ≡ Some found → (c : Calendar) × (value ≡ Some c) × (found ≡ data_of home c)
    by_name None e = absurd (none-some found e)
    by_name (Some c) e = (c, refl, sym (ap (λ o. unwrap_or o (data_of home c)) e))

    by_home : (h : Option Home) → option_and_then (λ (h : Home). option_map (data_of home) (value_at h.calendars name)) h ≡ Some found
        → (c : Calendar) × (option_and_then (λ (h : Home). value_at h.calendars name) h ≡ Some c) × (found ≡ data_of home c)
    by_home None e = absurd (none-some found e)
    by_home (Some h) e = by_name (value_at h.calendars name) e

-- a zone that was read is a table
pub table_read : (text : List ℕ) (zone : ZoneTable) → read_zone text ≡ Ok zone → IsTable zone
table_read text zone reading = let is = IsZone-read_zone text zone reading in subst IsTable (sym is.table) (IsTable-table_of zone.name is.parts is.read)

-- the zone of a calendar, or another table
pub own_or_table : (texts : Texts) (other : ZoneTable) → IsTable other → IsTable (unwrap_or (own_zone texts) other)
own_or_table texts other is = by_text (text_at texts calendar_timezone)
  where
    by_reading : (text : List ℕ) (reading : Result ZoneTable Unread) → read_zone text ≡ reading → IsTable (unwrap_or (result_ok reading) other)
    by_reading text (Ok zone) e = table_read text zone e
    by_reading text (Err why) e = is

    by_text : (text : Option (List ℕ)) → IsTable (unwrap_or (option_and_then (λ t. result_ok (read_zone t)) text) other)
    by_text None = is
    by_text (Some text) = by_reading text (read_zone text) refl

-- the objects of a calendar are kept
kept_objects : (entries : Named (List ℕ)) → AllByRecursion IsServed entries → AllByRecursion IsKept (objects_of entries)
kept_objects [] all = tt
kept_objects (entry ∷ entries) all = by_reading (read_object entry.1) refl (kept_objects entries all.1)
  where
    by_reading : (reading : Result Object Unread) → read_object entry.1 ≡ reading → AllByRecursion IsKept (objects_of entries) → AllByRecursion IsKept (option_to_list (result_ok reading) ++ objects_of entries)
    by_reading (Ok object) e rest = (IsKept-stored entry.1 object all.0 e, rest)
    by_reading (Err why) e rest = rest

-- Over the times of its entries a calendar has its runs.
pub runs_known : (directory : Directory) (state : ServerState) (home : ℕ) (name : List ℕ) (c : Calendar) (zone : ZoneTable) (range : Range) → IsSound directory state → calendar_at state home name ≡ Some c
    → IsTable zone → runs (times_of_entries zone range (objects_at state home name)) range ≡ calendar_runs zone (objects_of c.objects) range
runs_known directory state home name c zone range sound there table =
    let served = all_served directory state home name sound in
    let entries : objects_at state home name ≡ c.objects = ap (λ o. flat_map (λ (x : Calendar). x.objects) (option_to_list o)) there ∙ append-nil c.objects in
    ap (λ es. runs (times_of_entries zone range es) range) entries
    ∙ runs-by_windows zone (objects_of c.objects) range (HasShortOffsets-table zone table) (kept_objects c.objects (rw entries at served))

-- the zone in which floating times are read
pub zone_known : (state : ServerState) (home : ℕ) (name : List ℕ) (c : Calendar) (found : CalendarData) (zone : ZoneTable) → data_at state home name ≡ Some found → calendar_at state home name ≡ Some c
    → zone ≡ unwrap_or found.zone utc_zone → zone ≡ floating_zone None (own_zone c.texts)
zone_known state home name c found zone e there is =
    let known = data_known state home name found e in
    let same : known.0 ≡ c = ap (λ o. unwrap_or o c) (sym known.1 ∙ there) in
    is ∙ ap (λ (d : CalendarData). unwrap_or d.zone utc_zone) known.2 ∙ ap (λ (x : Calendar). unwrap_or (own_zone x.texts) utc_zone) same
