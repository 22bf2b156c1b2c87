-- What the scan of all lines gives, where they are nested.
use Rattle.std.specs.Prelude.{◌≡◌, ℕ, List, map, find, filter, Option, option_map}
use Rattle.std.specs.List.{enumerate_from}
use Rattle.cal_base.specs.declared.line.Line.{Line}
use Rattle.cal_model.specs.Objects.LineValues.{has_own_fault}
use Rattle.cal_model.specs.Objects.DateFaults.{stamp_outside}
use Rattle.cal_model.specs.Objects.CalendarChildren.{begins_child}
use Rattle.cal_object.specs.declared.scan.Scan.{Scan}
use Rattle.cal_object.specs.DatesOutside.{stamp_beside}

-- the number of the first line that cannot stand
abbrev pub own_number : List Line → Option ℕ
own_number lines = option_map (λ (found : ℕ × Line). found.0) (find (λ (found : ℕ × Line). has_own_fault lines found.0 found.1) (enumerate_from 0 lines))

-- the numbers of the lines at which the components within the outermost one begin
abbrev pub child_numbers : List Line → List ℕ
child_numbers lines = map (λ (found : ℕ × Line). found.0) (filter (λ (found : ℕ × Line). begins_child lines found.0 found.1) (enumerate_from 0 lines))

pub record IsScanOf (lines : List Line) (scan : Scan) : Type 0 where
  pub own : scan.own_fault ≡ own_number lines
  pub children : scan.children ≡ child_numbers lines
  -- the date is numbered once the zones are known
  pub outside : (zones : List (List ℕ)) → option_map (stamp_beside zones) scan.outside ≡ stamp_outside zones lines
