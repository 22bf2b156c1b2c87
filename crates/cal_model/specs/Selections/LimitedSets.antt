-- Calendar data limited to a range: limit-recurrence-set and limit-freebusy-set (RFC 4791, 9.6.6 and 9.6.7).
-- What stays is a filter over all components and over all periods. The rows are given, in the order of `Rows`.
-- As there `ids` is the one stamp beside which the ids of the object are aligned, and `n` a component with its number.
use Rattle.std.specs.Prelude.{ℕ, ◌==◌, Bool, not, if◌then◌else◌, List, [], ◌∷◌, ◌++◌, map, take, filter, flat_map, option_to_list, bytes_eq, codes, ℤ}
use Rattle.std.specs.List.{list_any, enumerate_from, join_with_byte}
use Rattle.cal_base.specs.declared.line.Line.{Line}
use Rattle.cal_base.specs.declared.line.Node.{Node}
use Rattle.cal_base.specs.declared.line.Node.TheOpen.{Node-F}
use Rattle.cal_base.specs.declared.line.Node.TheFolds.{fold-Node}
use Rattle.cal_base.specs.Lines.ComponentTrees.{component}
use Rattle.cal_base.specs.Lines.ContentLines.{pieces}
use Rattle.cal_base.specs.Texts.Octets.{comma}
use Rattle.cal_moment.specs.declared.stamp.Period.{Period}
use Rattle.cal_moment.specs.declared.stamp.Stamp.{Stamp}
use Rattle.cal_model.specs.declared.object.Object.{Object}
use Rattle.cal_model.specs.declared.row.Range.{Range}
use Rattle.cal_model.specs.declared.row.Row.{Row}
use Rattle.cal_model.specs.declared.zone.ZoneTable.{ZoneTable}
use Rattle.cal_model.specs.Instances.Alignment.{kind_of}
use Rattle.cal_model.specs.Objects.ComponentLines.{lines_of, name_of, children_of}
use Rattle.cal_model.specs.Words.Lists.{is_empty}
use Rattle.cal_model.specs.Ranges.Overlap.{stored_period, some_meets}
use Rattle.cal_model.specs.Selections.Picks.{header}
use Rattle.cal_model.specs.Ranges.RowRanges.{row_in_range}
use Rattle.cal_model.specs.Instances.Rows.{Numbered, overrides, masters, ids_start, named_by, id_of_override, end_from, is_dated, row_of}
use Rattle.cal_model.specs.Values.StampTexts.{period_with, utc_stamp}

-- limit-recurrence-set: the master, and each override of which its own row, one that it governs, or its original instance overlaps the range

abbrev pub rows_of_override : List Row → Numbered → List Row
rows_of_override rows n = filter (λ (row : Row). row.component == n.number) rows

-- The id of an override: that of its own dated row, which stands before those that it governs; else its RECURRENCE-ID beside the start of the ids, where a local day is its midnight.
abbrev pub dated_ids : List Row → Numbered → List ℤ
dated_ids rows n = map (λ (row : Row). row.id) (filter is_dated (rows_of_override rows n))

abbrev pub ids_of_override : Object → List Row → Stamp → Numbered → List ℤ
ids_of_override object rows ids n = dated_ids rows n ++ map (id_of_override object ids []) (named_by object.zones ids n)

-- the row that the master would have where it starts at an id, with the master's own length
abbrev pub original_row : Object → Stamp → ℤ → Numbered → Row
original_row object ids id master =
    row_of id id (end_from object.zones master.component id) master.number (kind_of ids) (kind_of ids)

-- the original instance of an override: the master's at the override's id. Where there is no master there is none.
abbrev pub original_rows : Object → List Row → Numbered → Stamp → List Row
original_rows object rows n ids =
    flat_map (λ id. map (original_row object ids id) (masters object)) (take 1 (ids_of_override object rows ids n))

abbrev pub rows_to_test : Object → List Row → Numbered → List Row
rows_to_test object rows n =
    rows_of_override rows n ++ flat_map (original_rows object rows n) (option_to_list (ids_start object))

-- an override goes where none of these overlaps the range
abbrev pub is_left_out : Object → List Row → ZoneTable → Range → Numbered → Bool
is_left_out object rows zone range n = not (list_any (row_in_range object zone range) (rows_to_test object rows n))

abbrev pub left_out : Object → List Row → ZoneTable → Range → List ℕ
left_out object rows zone range =
    map (λ (n : Numbered). n.component.child) (filter (is_left_out object rows zone range) (overrides object))

abbrev pub limited : Object → List Row → ZoneTable → Range → Node
limited object rows zone range =
    let gone = left_out object rows zone range in
    component (name_of object.tree) (record {
      lines = lines_of object.tree;
      children = map (λ (child : ℕ × Node). child.1) (filter (λ (child : ℕ × Node). not (list_any (λ place. place == child.0) gone)) (enumerate_from 0 (children_of object.tree)));
    })

-- limit-freebusy-set: in FREEBUSY lines the periods that meet the range, as they are written; a line that is left empty goes

abbrev pub period_meets : Range → Period → Bool
period_meets range period = some_meets range.start.0 range.end.0 (stored_period period ∷ [])

abbrev pub text_meets : Range → List ℕ → Bool
text_meets range text = list_any (period_meets range) (option_to_list (period_with utc_stamp text))

-- a FREEBUSY line with these periods
abbrev pub with_periods : Line → List (List ℕ) → List Line
with_periods line texts =
    if is_empty texts then []
    else record line { value = join_with_byte comma texts; raw = header line ++ join_with_byte comma texts } ∷ []

abbrev pub busy_line : Range → Line → List Line
busy_line range line =
    if bytes_eq line.name (codes "FREEBUSY") then with_periods line (filter (text_meets range) (pieces comma line.value)) else line ∷ []

abbrev pub busy_step : Range → Node-F Node → Node
busy_step range node = component node.name (record { lines = flat_map (busy_line range) node.lines; children = node.children })

-- in components at every depth
abbrev pub busy_limited : Range → Node → Node
busy_limited range = fold-Node Node (busy_step range)
