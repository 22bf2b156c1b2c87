-- The texts in which rows are listed and an object is summed up. The form of the lines is this server's own; dates and times are spelled as in RFC 5545, 3.3.4 and 3.3.5.
-- Given: rows, or what is known of an object. Each line ends with a line feed. Which rows are listed stands in `Listings`.
use Rattle.std.specs.Prelude.{ℕ, List, ◌++◌, flat_map, codes, decimal, ℤ}
use Rattle.cal_model.specs.declared.object.Kind.{Kind}
use Rattle.cal_model.specs.declared.object.Kind.TheVariants.{Event, Todo, Journal, FreeBusy}
use Rattle.cal_model.specs.declared.row.Row.{Row}
use Rattle.cal_model.specs.declared.row.RowKind.{RowKind}
use Rattle.cal_model.specs.declared.row.RowKind.TheVariants.{Undated}
use Rattle.cal_model.specs.Selections.RowLines.{value_text}

-- a moment of a row: an instant in UTC, a floating time by its local digits, a date by the 8 digits of its day; `-` where the row has no date
abbrev pub moment_text : RowKind → ℤ → List ℕ
moment_text Undated seconds = codes "-"
moment_text kind seconds = value_text kind seconds

-- the line of a row: its id, its start, its end and the number of its component
abbrev pub row_line : Row → List ℕ
row_line row =
    moment_text row.id_kind row.id ++ (codes " " ++ (moment_text row.kind row.start ++ (codes " " ++ (moment_text row.kind row.end ++ (codes " " ++ (decimal row.component ++ codes "\n"))))))

-- a line for each row
abbrev pub rows_text : List Row → List ℕ
rows_text rows = flat_map row_line rows

-- the word for a kind, and a space
abbrev pub kind_word : Kind → List ℕ
kind_word Event = codes "event "
kind_word Todo = codes "todo "
kind_word Journal = codes "journal "
kind_word FreeBusy = codes "freebusy "

-- the line about an object of a kind, with a UID and so many rows
abbrev pub summary_line : Kind → List ℕ → ℕ → List ℕ
summary_line kind uid count = kind_word kind ++ (uid ++ (codes " " ++ (decimal count ++ codes "\n")))
