-- The rows of an object where some pieces of them are held: which pieces are right, and what it costs to find the other rows.
use Rattle.std.specs.Prelude.{◌≡◌, ℕ, ◌<◌, ◌^◌, false, List, length, map, sum, is_some, if◌then◌else◌, ℤ, Option, Some, None}
use Rattle.cal_model.specs.declared.object.Object.{Object}
use Rattle.cal_model.specs.declared.row.Row.{Row}
use Rattle.cal_model.specs.Instances.HappensOnce.{happens_once}
use Rattle.cal_model.specs.Instances.Rows.{rows_in, has_fine_rule}
use Rattle.cal_model.specs.Objects.ObjectFacts.{IsRead}
use Rattle.cal_model.specs.Ranges.Cost.{cost}

-- the rows that are held of an object, known by its origin, and a window
abbrev pub Held : Type 0
Held = ℕ → ℤ → Option (List Row)

-- what is held of an object are its rows
abbrev pub AreRowsOf : Held → ℕ → Object → Type 0
AreRowsOf held origin object = (window : ℤ) (rows : List Row) → held origin window ≡ Some rows → rows ≡ rows_in object window

-- an object as the server keeps it
pub record IsKept (object : Object) : Type 0 where
  pub read : IsRead object
  pub few : length object.components < 2 ^ 32
  pub coarse : has_fine_rule object ≡ false

-- the steps that the rows of an object in a window cost: none where they are held
abbrev pub window_cost : Held → ℕ → Object → ℤ → ℕ
window_cost held origin object window = if is_some (held origin window) then 0 else cost object window

abbrev pub windows_cost : Held → ℕ → Object → List ℤ → ℕ
windows_cost held origin object windows = sum (map (window_cost held origin object) windows)

-- the steps that the rows of an object cost which a report needs, given the windows: none of an object that happens once, whose row is known from its start
abbrev pub needed_cost : Held → ℕ → Object → List ℤ → ℕ
needed_cost held origin object windows = if happens_once object then 0 else windows_cost held origin object windows

-- no rows are held of a window
abbrev pub IsMissing : Held → ℕ → ℤ → Type 0
IsMissing held origin window = held origin window ≡ None
