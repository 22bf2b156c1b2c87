-- Which rows of an object are enough to show it (RFC 4791, 9.6.5 and 9.6.6): over them it is shown as over all of its rows.
-- Given: all rows of the object, those of them that are kept, and what the selection says of recurrence.
use Rattle.std.specs.Prelude.{ℕ, ◌≡◌, ◌==◌, Bool, true, ◌&&◌, List, All, filter, take}
use Rattle.std.specs.List.{Contains}
use Rattle.cal_model.specs.declared.object.Object.{Object}
use Rattle.cal_model.specs.declared.row.Row.{Row}
use Rattle.cal_model.specs.declared.selection.Recur.{Recur}
use Rattle.cal_model.specs.declared.selection.Recur.TheVariants.{Whole, Expand, Limit}
use Rattle.cal_model.specs.declared.selection.Selection.{Selection}
use Rattle.cal_model.specs.declared.zone.ZoneTable.{ZoneTable}
use Rattle.cal_model.specs.Instances.Rows.{Numbered, overrides, is_dated}
use Rattle.cal_model.specs.Ranges.RowRanges.{row_in_range}
use Rattle.cal_model.specs.Selections.ShownData.{shown}

-- each row that passes a test is kept
abbrev pub KeepsEach : (Row → Bool) → List Row → (Row → Bool) → Type 0
KeepsEach keep all test = (row : Row) → Contains all row → test row ≡ true → keep row ≡ true

-- the first row that passes a test is kept
abbrev pub KeepsFirst : (Row → Bool) → List Row → (Row → Bool) → Type 0
KeepsFirst keep all test = All (λ row. keep row ≡ true) (take 1 (filter test all))

-- a dated row of a component
abbrev pub is_dated_of : Numbered → Row → Bool
is_dated_of n row = (row.component == n.number) && is_dated row

-- the first dated row of each override: its own, which stands before those that it governs
abbrev pub KeepsFirsts : Object → (Row → Bool) → List Row → Type 0
KeepsFirsts object keep all = (n : Numbered) → Contains (overrides object) n → KeepsFirst keep all (is_dated_of n)

-- Without options no row is needed; for a range of expand those that overlap it; and where overrides are limited the first of each override too.
abbrev pub AreEnoughToShow : Object → ZoneTable → (Row → Bool) → List Row → Recur → Type 0
AreEnoughToShow object zone keep all Whole = Unit {0}
AreEnoughToShow object zone keep all (Expand range) = KeepsEach keep all (row_in_range object zone range)
AreEnoughToShow object zone keep all (Limit range) = KeepsEach keep all (row_in_range object zone range) × KeepsFirsts object keep all

-- The law of them (`Selections.ShownDataLaws`).
abbrev pub EnoughRowsAreShown : Type 0
EnoughRowsAreShown = (octets : List ℕ) (object : Object) (select : Selection) (zone : ZoneTable) (keep : Row → Bool) (all : List Row) → AreEnoughToShow object zone keep all select.recur → shown octets object (filter keep all) select zone ≡ shown octets object all select zone
