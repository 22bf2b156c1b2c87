-- The windows that a report needs where the rows of all of them are held: then the report costs nothing.
use Rattle.std.specs.Prelude.{◌≡◌, ℕ, List, All, IsSome, Some, Ok}
use Rattle.cal_base.specs.Lists.NameMap.{Named}
use Rattle.cal_model.specs.declared.object.Object.{Object}
use Rattle.cal_model.specs.declared.report.ReportRequest.{ReportRequest}
use Rattle.cal_model.specs.Objects.ObjectReading.{read_object}
use Rattle.cal_model.specs.Reports.NeededWindows.{windows_needed}
use Rattle.dav_reports.specs.CalendarObjects.{OriginOf, entries_cost}
use Rattle.dav_reports.specs.PieceRows.{Held}

-- the rows of an object are held in each window that a report needs
abbrev pub AreWindowsHeld : Held → ReportRequest → ℕ → Object → Type 0
AreWindowsHeld held report origin object = All (λ window. IsSome (held origin window)) (windows_needed object report)

-- and so for each object of a calendar, which has an origin
abbrev pub AreNeededHeld : Held → ReportRequest → OriginOf → Named (List ℕ) → Type 0
AreNeededHeld held report origin_of entries =
    All (λ (entry : List ℕ × List ℕ). (origin : ℕ) (object : Object) → origin_of entry.0 ≡ Some origin → read_object entry.1 ≡ Ok object → AreWindowsHeld held report origin object) entries

-- A report costs nothing where the rows of all windows that it needs are held, whichever rows those are.
abbrev pub HeldReportsAreFree : Type 0
HeldReportsAreFree = (held : Held) (report : ReportRequest) (origin_of : OriginOf) (entries : Named (List ℕ)) → AreNeededHeld held report origin_of entries → entries_cost held report origin_of entries ≡ 0
