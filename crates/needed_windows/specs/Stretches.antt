-- Stretches of the windows that have a date that is served. Such a window is known here by its place among them, counted from 0.
use Rattle.std.specs.Prelude.{◌≡◌, ℕ, ◌<◌, ◌≤◌, Bool, ◌&&◌, ◌||◌, nat_le, nat_lt, ℤ, pos, ◌+ℤ◌, is_some, if◌then◌else◌, List, [], map, option_to_list, All, filter}
use Rattle.std.specs.List.{list_any}
use Rattle.cal_model.specs.declared.object.Component.{Component}
use Rattle.cal_model.specs.declared.zone.ZoneTable.{ZoneTable}
use Rattle.cal_model.specs.Instances.HappensOnce.{window_of_start}
use Rattle.cal_model.specs.Instances.Starts.{own_start}
use Rattle.cal_model.specs.Reports.NeededWindows.{first_window}
use Rattle.cal_model.specs.Words.Lists.{numbers_between}
use Rattle.needed_windows.specs.declared.windows.Stretch.{Stretch}

-- how many such windows there are, and the one at a place
abbrev pub places : ℕ
places = 2860

abbrev pub window_of_place : ℕ → ℤ
window_of_place place = first_window +ℤ pos place

abbrev pub windows_at : List ℕ → List ℤ
windows_at = map window_of_place

-- a place lies in a stretch, or in some of several
abbrev pub holds : ℕ → Stretch → Bool
holds place stretch = nat_le stretch.first place && nat_lt place stretch.end

abbrev pub some_holds : List Stretch → ℕ → Bool
some_holds stretches place = list_any (holds place) stretches

-- places in some stretch, in order
abbrev pub places_in : List Stretch → List ℕ
places_in stretches = filter (some_holds stretches) (numbers_between 0 places)

-- a stretch of such windows
pub record IsStretch (stretch : Stretch) : Type 0 where
  pub first : stretch.first ≤ places
  pub end : stretch.end ≤ places

abbrev pub StartsNoLater : Stretch → Stretch → Type 0
StartsNoLater a b = a.first ≤ b.first

-- stretches are put to others: those for which a test holds are covered now, beside those that were
pub record Puts (test : ℕ → Bool) (old new : List Stretch) : Type 0 where
  pub covered : (place : ℕ) → place < places → some_holds new place ≡ (some_holds old place || test place)
  pub each : All IsStretch old → All IsStretch new

-- the windows in which the overrides among components start
abbrev pub override_windows : List ZoneTable → Component → List ℤ
override_windows zones c = if is_some c.recurrence_id then map (window_of_start zones) (option_to_list (own_start c)) else []
