-- What is held costs nothing.
use Rattle.std.proofs.Common.{◌≡◌, Bool, true, false, ℕ, ◌+◌, List, [], ◌∷◌, Option, Some, None, refl, ap, ◌∙◌, ℤ}
use Rattle.std.specs.Prelude.{All, IsSome, Ok, Err, Result, fold, map, sum, is_some, if◌then◌else◌}
use Rattle.std.specs.Option.{unwrap_or}
use Rattle.std.specs.Result.{result_ok}
use Rattle.std.proofs.lemmas.List.Elements.{All-head, All-tail, All-weaker}
use Rattle.cal_model.specs.declared.object.Object.{Object}
use Rattle.cal_model.specs.declared.report.ReportRequest.{ReportRequest}
use Rattle.cal_model.specs.declared.row.Row.{Row}
use Rattle.cal_model.specs.Instances.HappensOnce.{happens_once}
use Rattle.cal_model.specs.Objects.ObjectReading.{Unread, read_object}
use Rattle.cal_model.specs.Ranges.Cost.{cost}
use Rattle.cal_model.specs.Reports.NeededWindows.{windows_needed}
use Rattle.dav_reports.specs.CalendarObjects.{entry_cost, object_cost}
use Rattle.dav_reports.specs.HeldWindows.{AreWindowsHeld, HeldReportsAreFree}
use Rattle.dav_reports.specs.PieceRows.{Held, window_cost, windows_cost}

none_costs : {X : Type 0} (price : X → ℕ) (xs : List X) → All (λ x. price x ≡ 0) xs → sum (map price xs) ≡ 0
none_costs price [] free = refl
none_costs price (x ∷ xs) free = ap (λ n. fold (λ s x. s + x) (0 + n) (map price xs)) (All-head (λ x. price x ≡ 0) x xs free) ∙ none_costs price xs (All-tail (λ x. price x ≡ 0) x xs free)

held_free : (rows : Option (List Row)) (anew : ℕ) → IsSome rows → (if is_some rows then 0 else anew) ≡ 0
held_free None anew there = absurd cc
held_free (Some rows) anew there = refl

windows_free : (held : Held) (origin : ℕ) (object : Object) (windows : List ℤ) → All (λ window. IsSome (held origin window)) windows → windows_cost held origin object windows ≡ 0
windows_free held origin object windows there =
    none_costs (window_cost held origin object) windows
    (All-weaker (λ window. IsSome (held origin window)) (λ window. window_cost held origin object window ≡ 0) (λ window. held_free (held origin window) (cost object window)) windows there)

-- an object that happens once costs nothing in any case
needed_free : (once : Bool) (anew : ℕ) → anew ≡ 0 → (if once then 0 else anew) ≡ 0
needed_free true anew free = refl
needed_free false anew free = free

-- nor does one that is not there, or is none
object_free : (held : Held) (report : ReportRequest) (origin : Option ℕ) (object : Option Object)
    → ((n : ℕ) (o : Object) → origin ≡ Some n → object ≡ Some o → AreWindowsHeld held report n o) → object_cost held report origin object ≡ 0
object_free held report None object there = refl
object_free held report (Some n) None there = refl
object_free held report (Some n) (Some o) there =
    needed_free (happens_once o) (windows_cost held n o (windows_needed o report)) (windows_free held n o (windows_needed o report) (there n o refl refl))

read_whole : (reading : Result Object Unread) (object : Object) → result_ok reading ≡ Some object → reading ≡ Ok object
read_whole (Ok o) object is = ap (λ (found : Option Object). Ok (unwrap_or found o)) is
read_whole (Err e) object is = absurd cc

pub held_reports_free : HeldReportsAreFree
held_reports_free held report origin_of entries there =
    none_costs (entry_cost held report origin_of) entries
    (All-weaker
    (λ (entry : List ℕ × List ℕ). (n : ℕ) (o : Object) → origin_of entry.0 ≡ Some n → read_object entry.1 ≡ Ok o → AreWindowsHeld held report n o)
    (λ entry. entry_cost held report origin_of entry ≡ 0)
    (λ entry known. object_free held report (origin_of entry.0) (result_ok (read_object entry.1)) (λ n o at is. known n o at (read_whole (read_object entry.1) o is)))
    entries there)
