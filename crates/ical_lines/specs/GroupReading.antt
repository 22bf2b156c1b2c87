-- The reading of a text by its logical lines, one after another, and of a logical line by its physical lines: what the private
-- functions do. That it is the reading of the whole text is a theorem.
use Rattle.std.specs.Prelude.{ℕ, zero, suc, Bool, true, false, ◌&&◌, ◌||◌, nat_lt, if◌then◌else◌, List, [], ◌∷◌, ◌++◌, length, drop, flat_map, Option, Some, None, Result, Ok, Err}
use Rattle.std.specs.Option.{option_or, option_to_list}
use Rattle.cal_base.specs.declared.line.Line.{Line}
use Rattle.cal_base.specs.Lines.ContentLines.{Physical, continues, is_refused, unfolded, place_of, line_of}

-- the place of a physical line, if it is refused
abbrev pub refused_place : Physical → Option ℕ
refused_place physical = if is_refused physical then Some physical.place else None

-- the place of the first physical line that is refused
abbrev pub first_refused : List Physical → Option ℕ
first_refused [] = None
first_refused (physical ∷ more) = option_or (refused_place physical) (first_refused more)

-- whether a text is no line of the grammar
abbrev pub is_no_line : List ℕ → Bool
is_no_line text = elim (line_of text) [ None ↦ true | Some line ↦ false ]

-- the first fault of a logical line: of its place and text, and the first of its physical lines that is refused
abbrev pub text_fault : ℕ → List ℕ → Option ℕ → Option ℕ
text_fault place text refused = if nat_lt 0 (length text) && is_no_line text then Some place else refused

-- the line of a logical line's text, none if it is empty
abbrev pub text_lines : List ℕ → List Line
text_lines text = if nat_lt 0 (length text) then option_to_list (line_of text) else []

-- the reading that goes on with the logical lines behind those that are done
abbrev pub read_groups : List Line → List (List Physical) → Result (List Line) ℕ
read_groups done [] = Ok done
read_groups done (group ∷ groups) = elim (text_fault (place_of group) (unfolded group) (first_refused group)) [
  | Some place ↦ Err place
  | None ↦ read_groups (done ++ text_lines (unfolded group)) groups
]

-- the same where the next logical line is there already
abbrev pub read_text : List Line → ℕ → List ℕ → Option ℕ → List (List Physical) → Result (List Line) ℕ
read_text done place text refused groups = elim (text_fault place text refused) [
  | Some fault ↦ Err fault
  | None ↦ read_groups (done ++ text_lines text) groups
]

-- the same where it is there in part: the physical lines that continue it begin the others
abbrev pub read_open : List Line → ℕ → List ℕ → Option ℕ → List (List Physical) → Result (List Line) ℕ
read_open done place text refused [] = read_text done place text refused []
read_open done place text refused (group ∷ groups) =
    if continues group
    then read_text done place (text ++ flat_map (λ (fold : Physical). drop 1 fold.text) group) (option_or refused (first_refused group)) groups
    else read_text done place text refused (group ∷ groups)

-- Places

-- the place of the logical line of a number, the empty ones left out, or 0 where there is none
abbrev pub place_among : ℕ → List (List Physical) → ℕ
place_among number [] = 0
place_among zero (group ∷ groups) = if nat_lt 0 (length (unfolded group)) then place_of group else place_among zero groups
place_among (suc number) (group ∷ groups) = if nat_lt 0 (length (unfolded group)) then place_among number groups else place_among (suc number) groups

-- the same where the first logical line is there already: its place, and whether it has a text
abbrev pub place_text : ℕ → ℕ → Bool → List (List Physical) → ℕ
place_text zero place has groups = if has then place else place_among zero groups
place_text (suc number) place has groups = if has then place_among number groups else place_among (suc number) groups

-- whether the physical lines that continue a line have a text
abbrev pub have_text : List Physical → Bool
have_text folds = nat_lt 0 (length (flat_map (λ (fold : Physical). drop 1 fold.text) folds))

-- the same where it is there in part
abbrev pub place_open : ℕ → ℕ → Bool → List (List Physical) → ℕ
place_open number place has [] = place_text number place has []
place_open number place has (group ∷ groups) =
    if continues group then place_text number place (has || have_text group) groups else place_text number place has (group ∷ groups)
