-- The rows and times that are needed of an object that happens once: those of its row, where the row's window is needed.
use Rattle.std.proofs.Common.{◌≡◌, Bool, true, false, cond, List, [], ◌∷◌, ◌++◌, refl, sym, ap, ◌∙◌, subst, ℤ, inl, inr, append-nil}
use Rattle.std.specs.Prelude.{◌&&◌, ℕ, All, AllPairs, filter, flat_map, if◌then◌else◌}
use Rattle.std.specs.List.{list_any}
use Rattle.std.proofs.lemmas.Bool.{cases_Bool}
use Rattle.std.proofs.lemmas.List.Elements.{All-contains, All-head}
use Rattle.std.proofs.lemmas.List.Folds.{Any-from_list_any}
use Rattle.cal_model.specs.declared.object.Object.{Object}
use Rattle.cal_model.specs.declared.row.Range.{Range}
use Rattle.cal_model.specs.declared.row.Row.{Row}
use Rattle.cal_model.specs.declared.zone.ZoneTable.{ZoneTable}
use Rattle.cal_model.specs.Busy.BusyTimes.{times_of_row}
use Rattle.cal_model.specs.Instances.HappensOnce.{happens_once}
use Rattle.cal_model.specs.Instances.Rows.{in_order, rows_in, undated_rows}
use Rattle.cal_model.specs.Reports.NeededWindows.{counts, is_stated_window, stated_windows}
use Rattle.cal_model.specs.Words.Integers.{same_int}
use Rattle.cal_model.proofs.Instances.RisingLists.{AllPairs-head, AllPairs-tail}
use Rattle.cal_model.proofs.Words.IntegerLemmas.{same_int-self, same_int-true}
use Rattle.overlap_rules.specs.Bounds.{IsNearRow}
use Rattle.dav_reports.specs.NeededRows.{rows_needed}
use Rattle.dav_reports.specs.ObjectTimes.{times_in, times_of_rows}
use Rattle.dav_reports.specs.PieceRows.{Held, IsKept, needed_cost, windows_cost}
use Rattle.dav_reports.proofs.KeptObjects.{rows_near}
use Rattle.dav_reports.proofs.MissingWindows.{times_by_window}
use Rattle.dav_reports.proofs.NeededRows.{among_stated, apart_stated}

-- an object has one row, in a window
abbrev pub HasOneRow : Object → Row → ℤ → Type 0
HasOneRow object row window = (w : ℤ) → rows_in object w ≡ cond (same_int window w) (row ∷ []) []

abbrev Differ : ℤ → ℤ → Type 0
Differ a b = (a ≡ b) → ⊥

none_else : (w v : ℤ) (ws : List ℤ) → w ≡ v → All (Differ v) ws → list_any (same_int w) ws ≡ false
none_else w v ws same apart = elim (cases_Bool (list_any (same_int w) ws)) [
  | inl some ↦ (
      let found = Any-from_list_any (same_int w) ws some in
      absurd (All-contains (Differ v) ws found.1 apart (found.0, found.2, found.3) (sym same ∙ same_int-true w found.1 found.4)))
  | inr none ↦ none
]

-- of windows of which no two are one, those of which only one gives anything
one_of : {X : Type 0} (f : ℤ → List X) (xs : List X) (w : ℤ) → ((v : ℤ) → f v ≡ cond (same_int w v) xs []) → (ws : List ℤ) → AllPairs Differ ws → flat_map f ws ≡ cond (list_any (same_int w) ws) xs []
one_of f xs w each [] apart = refl
one_of f xs w each (v ∷ ws) apart =
    let rest = one_of f xs w each ws (AllPairs-tail Differ v ws apart) in
    elim (cases_Bool (same_int w v)) [
      | inl t ↦ (let none = none_else w v ws (same_int-true w v t) (AllPairs-head Differ v ws apart) in rw (each v, t, rest, none) (append-nil xs))
      | inr t ↦ rw (each v, t) rest
    ]

row_needed : (object : Object) (p : ℤ → Bool) (row : Row) (window : ℤ) → HasOneRow object row window
    → flat_map (rows_in object) (filter p stated_windows) ≡ cond (is_stated_window window && p window) (row ∷ []) []
row_needed object p row window one =
    one_of (rows_in object) (row ∷ []) window one (filter p stated_windows) (apart_stated p) ∙ ap (λ b. cond b (row ∷ []) []) (among_stated p window)

pub only_needed : (object : Object) (ranges : List Range) (row : Row) (window : ℤ) (needed : Bool) → HasOneRow object row window → undated_rows object ≡ []
    → needed ≡ (is_stated_window window && counts object ranges window) → cond needed (row ∷ []) [] ≡ rows_needed object ranges
only_needed object ranges row window needed one none is =
    ordered needed
    ∙ ap in_order (ap (λ b. cond b (row ∷ []) []) is ∙ sym (row_needed object (counts object ranges) row window one))
    ∙ ap (λ front. front ++ in_order (flat_map (rows_in object) (filter (counts object ranges) stated_windows))) (sym none)
  where
    ordered : (b : Bool) → cond b (row ∷ []) [] ≡ in_order (cond b (row ∷ []) [])
    ordered true = refl
    ordered false = refl

pub only_times : (zone : ZoneTable) (object : Object) (p : ℤ → Bool) (row : Row) (window : ℤ) (needed : Bool) → HasOneRow object row window
    → needed ≡ (is_stated_window window && p window) → times_in zone object (filter p stated_windows) ≡ cond needed (times_of_row zone object row) []
only_times zone object p row window needed one is =
    sym (times_by_window zone object (filter p stated_windows))
    ∙ ap (times_of_rows zone object) (row_needed object p row window one ∙ ap (λ b. cond b (row ∷ []) []) (sym is))
    ∙ times needed
  where
    times : (b : Bool) → times_of_rows zone object (cond b (row ∷ []) []) ≡ cond b (times_of_row zone object row) []
    times true = append-nil (times_of_row zone object row)
    times false = refl

pub only_near : (object : Object) (row : Row) (window : ℤ) → IsKept object → HasOneRow object row window → IsNearRow row
only_near object row window kept one =
    All-head IsNearRow row [] (subst (All IsNearRow) (one window ∙ ap (λ b. cond b (row ∷ []) []) (same_int-self window)) (rows_near object kept window))

-- the rows of any other object cost what its windows cost
pub recurring_cost : (held : Held) (origin : ℕ) (object : Object) (windows : List ℤ) → happens_once object ≡ false → needed_cost held origin object windows ≡ windows_cost held origin object windows
recurring_cost held origin object windows recurs = ap (λ (once : Bool). if once then 0 else windows_cost held origin object windows) recurs
