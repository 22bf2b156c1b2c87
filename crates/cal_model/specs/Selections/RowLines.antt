-- Lines with the values of a row, as `expand` writes them (RFC 4791, 9.6.5; RFC 5545, 3.3.4, 3.3.5, 3.2.19 and 3.2.20).
-- Each line is a record with its parts and its text: the picks that follow go by its name, and what is printed is its text.
use Rattle.std.specs.Prelude.{ℕ, ◌-◌, Bool, true, false, not, ◌&&◌, if◌then◌else◌, List, [], ◌∷◌, ◌++◌, length, take, filter, option_to_list, bytes_eq, codes, ℤ, Some, None}
use Rattle.std.specs.List.{list_any, join_with_byte}
use Rattle.cal_base.specs.declared.line.Line.{Line}
use Rattle.cal_base.specs.declared.line.Param.{Param}
use Rattle.cal_base.specs.Lines.ComponentTrees.{first}
use Rattle.cal_base.specs.Lines.ContentLines.{unquoted_pieces, param_of}
use Rattle.cal_base.specs.Texts.Octets.{semicolon}
use Rattle.cal_base.specs.Texts.Text.{raised_all}
use Rattle.cal_moment.specs.Calendar.{day_of_moment, moment_of_seconds}
use Rattle.cal_moment.specs.Texts.{written_date, written_local}
use Rattle.cal_model.specs.declared.row.RowKind.{RowKind}
use Rattle.cal_model.specs.declared.row.RowKind.TheVariants.{Date, Floating}

-- the text of a row's value: an instant in UTC, others by their local digits
abbrev pub value_text : RowKind → ℤ → List ℕ
value_text Date seconds = written_date (day_of_moment (moment_of_seconds seconds))
value_text Floating seconds = written_local (moment_of_seconds seconds)
value_text other seconds = written_local (moment_of_seconds seconds) ++ codes "Z"

abbrev pub is_date_kind : RowKind → Bool
is_date_kind Date = true
is_date_kind other = false

-- A line with a new value

-- the parameters that go from each line with a new value
abbrev pub dropped_names : List (List ℕ)
dropped_names = codes "TZID" ∷ codes "RANGE" ∷ []

-- the first value of a parameter is this word, without ASCII case
abbrev pub param_says : List ℕ → Param → Bool
param_says word param = list_any (λ value. bytes_eq (raised_all value) word) (option_to_list (first param.values))

-- a parameter stays, but for those and for VALUE=DATE beside a new value that is no date
abbrev pub stays : RowKind → Param → Bool
stays kind param =
    not (list_any (bytes_eq param.name) dropped_names)
    && not (bytes_eq param.name (codes "VALUE") && param_says (codes "DATE") param && not (is_date_kind kind))

abbrev pub text_stays : RowKind → List ℕ → Bool
text_stays kind text = elim (param_of text) [ None ↦ true | Some param ↦ stays kind param ]

-- the text of a line's name and parameters, without those that go
abbrev pub kept_pieces : RowKind → List (List ℕ) → List (List ℕ)
kept_pieces kind [] = []
kept_pieces kind (name ∷ params) = name ∷ filter (text_stays kind) params

abbrev pub kept_header : RowKind → Line → List ℕ
kept_header kind line =
    join_with_byte semicolon (kept_pieces kind (unquoted_pieces semicolon false (take (length line.raw - length line.value - 1) line.raw)))

-- the line with the text of a row's value: up to the colon it stays as it was written, but for the parameters that go
abbrev pub rewritten : RowKind → ℤ → Line → Line
rewritten kind seconds line = record line {
  params = filter (stays kind) line.params;
  value = value_text kind seconds;
  raw = kept_header kind line ++ (codes ":" ++ value_text kind seconds);
}

-- a line of its own, with VALUE=DATE for a date
abbrev pub text_line : List ℕ → List ℕ → Line
text_line name value = record { name = name; params = []; value = value; raw = name ++ (codes ":" ++ value) }

abbrev pub date_line : List ℕ → List ℕ → Line
date_line name value = record {
  name = name;
  params = record { name = codes "VALUE"; values = codes "DATE" ∷ [] } ∷ [];
  value = value;
  raw = name ++ (codes ";VALUE=DATE:" ++ value);
}

abbrev pub new_line : List ℕ → RowKind → ℤ → Line
new_line name kind seconds =
    if is_date_kind kind then date_line name (value_text kind seconds) else text_line name (value_text kind seconds)
