-- A recurring object as single instances, the option `expand` of calendar data (RFC 4791, 9.6.5): a transformation of the tree by the rows that overlap the range.
-- The rows are given, in the order of `Rows`; `RowRanges` says which of them overlap. Picks come after it (`Picks`).
use Rattle.std.specs.Prelude.{ℕ, Bool, not, ◌&&◌, ◌||◌, if◌then◌else◌, List, [], ◌∷◌, ◌++◌, take, drop, filter, flat_map, option_to_list, slice_get, bytes_eq, codes, is_some, is_none}
use Rattle.std.specs.List.{list_any, position_or_len}
use Rattle.cal_base.specs.declared.line.Line.{Line}
use Rattle.cal_base.specs.declared.line.Node.{Node}
use Rattle.cal_base.specs.declared.line.Node.TheOpen.{Node-F}
use Rattle.cal_base.specs.declared.line.Node.TheFolds.{fold-Node}
use Rattle.cal_base.specs.Lines.ComponentTrees.{component}
use Rattle.cal_model.specs.declared.object.Component.{Component}
use Rattle.cal_model.specs.declared.object.Kind.{Kind}
use Rattle.cal_model.specs.declared.object.Kind.TheVariants.{Todo}
use Rattle.cal_model.specs.declared.object.Object.{Object}
use Rattle.cal_model.specs.declared.row.Range.{Range}
use Rattle.cal_model.specs.declared.row.Row.{Row}
use Rattle.cal_model.specs.declared.zone.ZoneTable.{ZoneTable}
use Rattle.cal_model.specs.Objects.ComponentLines.{has, lines_of, name_of, children_of, component_kind}
use Rattle.cal_model.specs.Words.Lists.{is_empty}
use Rattle.cal_model.specs.Words.Integers.{same_int}
use Rattle.cal_model.specs.Ranges.RowRanges.{row_in_range, component_of_row}
use Rattle.cal_model.specs.Selections.RowLines.{rewritten, text_line, new_line}
use Rattle.cal_model.specs.Instances.Rows.{end_from, is_dated}

-- What goes at every depth: VTIMEZONEs, and the lines of recurrence

abbrev pub recurrence_names : List (List ℕ)
recurrence_names = codes "RRULE" ∷ codes "RDATE" ∷ codes "EXDATE" ∷ []

abbrev pub is_of_recurrence : Line → Bool
is_of_recurrence line = list_any (bytes_eq line.name) recurrence_names

abbrev pub plain_lines : List Line → List Line
plain_lines lines = filter (λ line. not (is_of_recurrence line)) lines

-- a component without them, and nothing for a VTIMEZONE
abbrev pub plain_step : Node-F (List Node) → List Node
plain_step node =
    if bytes_eq node.name (codes "VTIMEZONE") then []
    else component node.name (record { lines = plain_lines node.lines; children = flat_map (λ (nodes : List Node). nodes) node.children }) ∷ []

abbrev pub plain : Node → List Node
plain = fold-Node (List Node) plain_step

-- One instance

-- the name of the line that says when a component of a kind ends
abbrev pub end_name : Kind → List ℕ
end_name Todo = codes "DUE"
end_name other = codes "DTEND"

-- the row's end as a line in place of DURATION
abbrev pub end_line : Component → Row → Line
end_line c row =
    if same_int row.end row.start then text_line (codes "DURATION") (codes "PT0S")
    else new_line (end_name c.kind) row.kind row.end

-- the object has a rule, an RDATE or an override, whether they are used or not
abbrev pub shows_recurrence : Component → Bool
shows_recurrence c = not (is_empty c.rules) || not (is_empty c.dates) || not (is_empty c.periods) || is_some c.recurrence_id

abbrev pub is_recurring : Object → Bool
is_recurring object = list_any shows_recurrence object.components

-- the lines that say when a component ends
abbrev pub end_names : List (List ℕ)
end_names = codes "DTEND" ∷ codes "DUE" ∷ codes "DURATION" ∷ []

abbrev pub says_its_end : List Line → Bool
says_its_end lines = list_any (λ name. has name lines) end_names

-- an RDATE period gave the row its end: no line says one, and it is not the end that the component itself gives
abbrev pub is_end_of_period : Object → Component → List Line → Row → Bool
is_end_of_period object c lines row = not (says_its_end lines) && not (same_int row.end (end_from object.zones c row.start))

-- what stands directly after the DTSTART of a master: in an object that recurs its RECURRENCE-ID, and then the end that a period gave
abbrev pub period_end_lines : Object → Component → List Line → Row → List Line
period_end_lines object c lines row = if is_end_of_period object c lines row then end_line c row ∷ [] else []

abbrev pub lines_after_start : Object → Component → List Line → Row → List Line
lines_after_start object c lines row =
    if is_recurring object && is_none c.recurrence_id
    then new_line (codes "RECURRENCE-ID") row.id_kind row.id ∷ period_end_lines object c lines row
    else []

-- a line of a component in one instance of it
abbrev pub instance_line : Object → Component → List Line → Row → Line → List Line
instance_line object c lines row line =
    if bytes_eq line.name (codes "DTSTART") then rewritten row.kind row.start line ∷ lines_after_start object c lines row
    else (if bytes_eq line.name (codes "DTEND") || bytes_eq line.name (codes "DUE") then rewritten row.kind row.end line ∷ []
    else (if bytes_eq line.name (codes "RECURRENCE-ID") then rewritten row.id_kind row.id line ∷ []
    else (if bytes_eq line.name (codes "DURATION") && is_some c.start then end_line c row ∷ []
    else line ∷ [])))

-- a component without a dated row keeps its lines
abbrev pub instance_lines : Object → Component → Row → List Line → List Line
instance_lines object c row lines = if is_dated row then flat_map (instance_line object c lines row) lines else lines

-- the component of a row as the instance that the row is, with the components in it
abbrev pub instance_from : Object → Row → Component → Node → Node
instance_from object row c node =
    component (name_of node) (record { lines = instance_lines object c row (plain_lines (lines_of node)); children = flat_map plain (children_of node) })

abbrev pub node_of : Object → Component → List Node
node_of object c = option_to_list (slice_get (children_of object.tree) c.child)

abbrev pub instances_of_row : Object → Row → List Node
instances_of_row object row =
    flat_map (λ c. flat_map (λ node. instance_from object row c node ∷ []) (node_of object c)) (component_of_row object row)

-- The whole

-- the rows that overlap the range, in their order
abbrev pub overlapping : Object → List Row → ZoneTable → Range → List Row
overlapping object rows zone range = filter (row_in_range object zone range) rows

abbrev pub is_of_four_kinds : Node → Bool
is_of_four_kinds node = is_some (component_kind node)

-- the components that are none of the four kinds
abbrev pub other_components : List Node → List Node
other_components nodes = flat_map plain (filter (λ node. not (is_of_four_kinds node)) nodes)

-- the instances, where the first component of the four kinds stood
abbrev pub expanded_children : List Node → List Node → List Node
expanded_children instances nodes =
    let place = position_or_len is_of_four_kinds nodes in
    other_components (take place nodes) ++ (instances ++ other_components (drop place nodes))

abbrev pub expanded : Object → List Row → ZoneTable → Range → Node
expanded object rows zone range = component (name_of object.tree) (record {
  lines = plain_lines (lines_of object.tree);
  children = expanded_children (flat_map (instances_of_row object) (overlapping object rows zone range)) (children_of object.tree);
})
