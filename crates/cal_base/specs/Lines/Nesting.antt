-- The nesting of lines (RFC 5545, 3.4 and 3.6) read from the front, with the components that are open: what code that builds a tree keeps, and what the
-- proofs show to be the faults of `ComponentTrees`.
use Rattle.std.specs.Prelude.{ℕ, not, ◌&&◌, ◌||◌, ◌==◌, nat_lt, nat_le, if◌then◌else◌, List, [], ◌∷◌, length, Option, Some, None, suc}
use Rattle.std.specs.Str.{bytes_eq}
use Rattle.cal_base.specs.declared.line.Line.{Line}
use Rattle.cal_base.specs.Lines.ComponentTrees.{is_begin, is_end, component_name, NestingFault, unclosed, wrong_end, too_deep, or_else}

-- an open component: the number of its BEGIN, and its name
pub record Opening : Type 0 where
  pub line : ℕ
  pub name : List ℕ

-- the name of the innermost open component
abbrev pub innermost_name : List Opening → List ℕ
innermost_name [] = []
innermost_name (opening ∷ around) = opening.name

-- the fault of a line of a number, where these components are open, the innermost first
abbrev pub fault_of_next : ℕ → List Opening → Line → Option NestingFault
fault_of_next number open_ones line =
    if ((length open_ones == 0) && (nat_lt 0 number || not (is_begin line))) || (is_end line && not (bytes_eq (component_name line) (innermost_name open_ones)))
    then Some (wrong_end number)
    else (if is_begin line && nat_le 4 (length open_ones) then Some (too_deep number) else None)

abbrev pub without_innermost : List Opening → List Opening
without_innermost [] = []
without_innermost (opening ∷ around) = around

-- the components that are open behind a line
abbrev pub open_behind : ℕ → List Opening → Line → List Opening
open_behind number open_ones line =
    if is_begin line then record { line = number; name = component_name line } ∷ open_ones
    else (if is_end line then without_innermost open_ones else open_ones)

-- the fault of the end, behind so many lines
abbrev pub fault_of_last : ℕ → List Opening → Option NestingFault
fault_of_last number [] = if number == 0 then Some (unclosed 0) else None
fault_of_last number (opening ∷ around) = Some (unclosed opening.line)

-- the first fault of lines that begin at a number, where these components are open
abbrev pub fault_from : ℕ → List Opening → List Line → Option NestingFault
fault_from number open_ones [] = fault_of_last number open_ones
fault_from number open_ones (line ∷ lines) =
    or_else (fault_of_next number open_ones line) (fault_from (suc number) (open_behind number open_ones line) lines)
