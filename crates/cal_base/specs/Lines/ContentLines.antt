-- The content lines of a text (RFC 5545, 3.1): its physical lines, the logical lines that folds join, and the grammar of a
-- logical line. The whole text is cut into pieces and these are joined. Two cuts carry a state from octet to octet, whether a quote is open:
-- `unquoted_pieces` and `first_unquoted`. They are tied to the printed grammar, which has none (`LineGrammar.LinesAreTheGrammar`).
use Rattle.std.specs.Prelude.{ℕ, ◌+◌, ◌-◌, Bool, true, false, not, ◌&&◌, ◌||◌, ◌==◌, nat_eq, nat_lt, nat_le, if◌then◌else◌, List, [], ◌∷◌, ◌++◌, map, length, take, drop, filter, filter_map, flat_map, Option, Some, None, Result, Ok, Err, option_map, option_and_then}
use Rattle.std.specs.List.{list_any, list_all, ends_with}
use Rattle.std.specs.Str.{is_utf8, chars}
use Rattle.cal_base.specs.declared.line.Param.{Param}
use Rattle.cal_base.specs.declared.line.Line.{Line}
use Rattle.cal_base.specs.Texts.Text.{raised_all}
use Rattle.cal_base.specs.Texts.Octets.{tab, line_feed, carriage_return, space, double_quote, comma, hyphen, colon, semicolon, equals_sign}

-- Pieces of a text

-- an octet put before the first of some pieces
abbrev pub onto_first : ℕ → List (List ℕ) → List (List ℕ)
onto_first octet [] = (octet ∷ []) ∷ []
onto_first octet (piece ∷ pieces) = (octet ∷ piece) ∷ pieces

-- the pieces of a text between the separators: at least one
abbrev pub pieces : ℕ → List ℕ → List (List ℕ)
pieces separator [] = [] ∷ []
pieces separator (octet ∷ text) = if octet == separator then [] ∷ pieces separator text else onto_first octet (pieces separator text)

-- whether what follows an octet stands in double quotes
abbrev pub quoted_after : Bool → ℕ → Bool
quoted_after quoted octet = if octet == double_quote then not quoted else quoted

-- the pieces of a text between the separators that stand outside double quotes: at least one
abbrev pub unquoted_pieces : ℕ → Bool → List ℕ → List (List ℕ)
unquoted_pieces separator quoted [] = [] ∷ []
unquoted_pieces separator quoted (octet ∷ text) = elim ((octet == separator) && not quoted) [
  | true ↦ [] ∷ unquoted_pieces separator quoted text
  | false ↦ onto_first octet (unquoted_pieces separator (quoted_after quoted octet) text)
]

-- the text before the first separator outside double quotes, and the text behind it
abbrev pub first_unquoted : ℕ → Bool → List ℕ → Option (List ℕ × List ℕ)
first_unquoted separator quoted [] = None
first_unquoted separator quoted (octet ∷ text) = elim ((octet == separator) && not quoted) [
  | true ↦ Some ([], text)
  | false ↦ option_map (λ (parts : List ℕ × List ℕ). (octet ∷ parts.0, parts.1)) (first_unquoted separator (quoted_after quoted octet) text)
]

-- all values, if each is there
abbrev pub every : {X : Type 0} → List (Option X) → Option (List X)
every [] = Some []
every (None ∷ rest) = None
every (Some x ∷ rest) = option_map (λ xs. x ∷ xs) (every rest)

-- the lesser of a number and another that may be absent
abbrev pub lesser : ℕ → Option ℕ → Option ℕ
lesser n None = Some n
lesser n (Some m) = Some (if nat_le n m then n else m)

-- the least of some numbers
abbrev pub least : List ℕ → Option ℕ
least [] = None
least (n ∷ ns) = lesser n (least ns)

-- Physical lines: they end in CRLF or LF, and the last may lack its end

-- a physical line: the place of its first octet in the text, and its octets without its end
pub record Physical : Type 0 where
  pub place : ℕ
  pub text : List ℕ

-- a text without a CR at its end
abbrev pub without_return : List ℕ → List ℕ
without_return [] = []
without_return (octet ∷ []) = if octet == carriage_return then [] else octet ∷ []
without_return (octet ∷ next ∷ text) = octet ∷ without_return (next ∷ text)

-- The pieces between line feeds as physical lines, the first of them at a place. A line feed stood behind each but the last.
abbrev pub physical_from : ℕ → List (List ℕ) → List Physical
physical_from place [] = []
physical_from place (last ∷ []) = if length last == 0 then [] else record { place = place; text = last } ∷ []
physical_from place (piece ∷ next ∷ more) = record { place = place; text = without_return piece } ∷ physical_from (place + length piece + 1) (next ∷ more)

abbrev pub physical_lines : List ℕ → List Physical
physical_lines octets = physical_from 0 (pieces line_feed octets)

-- a control other than TAB (so also a CR that no LF follows), or one of the noncharacters U+FFFE and U+FFFF
abbrev pub is_refused_character : ℕ → Bool
is_refused_character character = (nat_lt character 32 && not (character == tab)) || (character == 0xFFFE) || (character == 0xFFFF)

-- a physical line that is not UTF-8, so also one that a fold within a character begins or ends, or that has a refused character
abbrev pub is_refused : Physical → Bool
is_refused physical = not (is_utf8 physical.text) || list_any is_refused_character (chars physical.text)

-- Logical lines: a line end before a SPACE or TAB is a fold, and goes with that octet

abbrev pub begins_with_blank : List ℕ → Bool
begins_with_blank [] = false
begins_with_blank (octet ∷ text) = (octet == space) || (octet == tab)

-- whether the first of these physical lines continues the one before it
abbrev pub continues : List Physical → Bool
continues [] = false
continues (physical ∷ more) = begins_with_blank physical.text

-- one more physical line before the logical lines that follow it
abbrev pub joined : Physical → List (List Physical) → List (List Physical)
joined physical [] = (physical ∷ []) ∷ []
joined physical (group ∷ groups) = if continues group then (physical ∷ group) ∷ groups else (physical ∷ []) ∷ group ∷ groups

-- the physical lines of each logical line
abbrev pub groups : List Physical → List (List Physical)
groups [] = []
groups (physical ∷ more) = joined physical (groups more)

-- a logical line's text: of each physical line but the first the blank that makes it a continuation is left out
abbrev pub unfolded : List Physical → List ℕ
unfolded [] = []
unfolded (physical ∷ folds) = physical.text ++ flat_map (λ (fold : Physical). drop 1 fold.text) folds

-- the place of a logical line is that of its first physical line
abbrev pub place_of : List Physical → ℕ
place_of [] = 0
place_of (physical ∷ folds) = physical.place

-- the logical lines, the empty ones left out
abbrev pub logical_lines : List ℕ → List (List Physical)
logical_lines octets = filter (λ group. nat_lt 0 (length (unfolded group))) (groups (physical_lines octets))

-- The grammar of a logical line: name *(";" name "=" value *("," value)) ":" value

-- `A-Z a-z 0-9 -`
abbrev pub is_name_octet : ℕ → Bool
is_name_octet octet = (nat_le 65 octet && nat_le octet 90) || (nat_le 97 octet && nat_le octet 122) || (nat_le 48 octet && nat_le octet 57) || (octet == hyphen)

abbrev pub is_name : List ℕ → Bool
is_name text = nat_lt 0 (length text) && list_all is_name_octet text

-- `" ; : ,`, which a parameter's value has in quotes alone
abbrev pub is_special : ℕ → Bool
is_special octet = (octet == double_quote) || (octet == semicolon) || (octet == colon) || (octet == comma)

-- what stands behind an opening quote: a text without quotes, and the closing quote
abbrev pub quoted_value : List ℕ → Option (List ℕ)
quoted_value text =
    let inside = take (length text - 1) text in
    if ends_with nat_eq text (double_quote ∷ []) && not (list_any (λ octet. octet == double_quote) inside) then Some inside else None

-- a parameter's value: in double quotes, which are no part of it, or with none of the special octets
abbrev pub param_value : List ℕ → Option (List ℕ)
param_value [] = Some []
param_value (octet ∷ text) =
    if octet == double_quote then quoted_value text
    else (if list_any is_special (octet ∷ text) then None else Some (octet ∷ text))

-- a parameter of its name and what stands behind the equals sign
abbrev pub param_of_parts : List ℕ × List ℕ → Option Param
param_of_parts parts =
    if is_name parts.0
    then option_map (λ values. record { name = raised_all parts.0; values = values }) (every (map param_value (unquoted_pieces comma false parts.1)))
    else None

-- a parameter: name "=" value *("," value)
abbrev pub param_of : List ℕ → Option Param
param_of text = option_and_then param_of_parts (first_unquoted equals_sign false text)

-- a line of what stands between the semicolons before its colon
abbrev pub line_of_pieces : List ℕ → List ℕ → List (List ℕ) → Option Line
line_of_pieces raw value [] = None
line_of_pieces raw value (name ∷ params) =
    if is_name name
    then option_map (λ those. record { name = raised_all name; params = those; value = value; raw = raw }) (every (map param_of params))
    else None

-- a line of what stands before and behind its colon
abbrev pub line_of_parts : List ℕ → List ℕ × List ℕ → Option Line
line_of_parts raw parts = line_of_pieces raw parts.1 (unquoted_pieces semicolon false parts.0)

-- the line that a logical line's text is, if it is in the grammar
abbrev pub line_of : List ℕ → Option Line
line_of raw = option_and_then (line_of_parts raw) (first_unquoted colon false raw)

-- The reading of a text

-- a line and the place of its first octet in the text
pub record Placed : Type 0 where
  pub place : ℕ
  pub line : Line

abbrev pub placed_line : List Physical → Option Placed
placed_line group = option_map (λ line. record { place = place_of group; line = line }) (line_of (unfolded group))

abbrev pub is_outside_grammar : List Physical → Bool
is_outside_grammar group = elim (line_of (unfolded group)) [ None ↦ true | Some line ↦ false ]

-- the place of the first fault: that of a physical line with a refused octet, or of the first one of a logical line outside the grammar
abbrev pub line_fault : List ℕ → Option ℕ
line_fault octets =
    least (map (λ (physical : Physical). physical.place) (filter is_refused (physical_lines octets))
    ++ map place_of (filter is_outside_grammar (logical_lines octets)))

-- the lines of a text, each with its place; those outside the grammar are passed over
abbrev pub placed_lines : List ℕ → List Placed
placed_lines octets = filter_map placed_line (logical_lines octets)

abbrev pub lines_of : List ℕ → List Line
lines_of octets = map (λ (placed : Placed). placed.line) (placed_lines octets)

-- the reading of a text: its lines, or the place of its first fault
abbrev pub read_lines : List ℕ → Result (List Line) ℕ
read_lines octets = elim (line_fault octets) [ None ↦ Ok (lines_of octets) | Some place ↦ Err place ]
