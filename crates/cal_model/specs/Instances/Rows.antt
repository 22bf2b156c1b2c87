-- The instances of an object as rows: overrides, ids, order, and the rows of a window. From RFC 5545, 3.2.13 and 3.8.4.4, and RFC 4791, 4.1.
-- One list of all rows. A window is a filter over it; that a part of the instances is enough to find the rows of one window is `merged-part` (`proofs/Instances/MergedParts`). Each definition takes the list of moments over which rules are taken: the rows themselves are those over `every_moment`.
-- A section, `module _`, says once what its definitions stand beside. From outside they take that first.
-- In all of them `ids` is the one stamp beside which the ids of the object are aligned (`ids_start`), `all` are all starts of the object, `r` is one of them, and `n` a component with its number.
use Rattle.std.specs.Prelude.{ℕ, ◌+◌, Bool, true, false, not, ◌&&◌, nat_le, if◌then◌else◌, List, [], ◌∷◌, ◌++◌, map, filter, filter_map, flat_map, option_to_list, option_and_then, slice_get, ℤ, pos, ◌+ℤ◌, ◌-ℤ◌, int_le, int_lt, Option, Some, None, is_some, is_none}
use Rattle.std.specs.Int.{int_div_euclid}
use Rattle.std.specs.List.{list_any}
use Rattle.cal_moment.specs.declared.stamp.Stamp.{Stamp}
use Rattle.cal_model.specs.declared.zone.ZoneTable.{ZoneTable}
use Rattle.cal_model.specs.declared.object.Component.{Component}
use Rattle.cal_model.specs.declared.object.Object.{Object}
use Rattle.cal_model.specs.declared.row.Row.{Row}
use Rattle.cal_model.specs.declared.row.RowKind.{RowKind}
use Rattle.cal_model.specs.declared.row.RowKind.TheVariants as kind
use Rattle.cal_model.specs.Words.Limits.{first_date, last_date}
use Rattle.cal_model.specs.Words.Integers.{same_int}
use Rattle.cal_model.specs.Words.Lists.{first_or_else}
use Rattle.cal_model.specs.Recurrence.RecurrenceSet.{every_moment}
use Rattle.cal_model.specs.Instances.Alignment.{Aligned, at, on_day, align, reading_of, value_of, kind_of, written_value, names_start}
pub use Rattle.cal_model.specs.Instances.Starts.{is_date, start_or_due, own_start, end_from, end_of_extent, end_of_instance, starts_of, ascending, has_fine_rule}

-- Components by number: the place in the object, counted from 0.

pub record Numbered : Type 0 where
  pub number : ℕ
  pub component : Component

abbrev pub numbered_from : ℕ → List Component → List Numbered
numbered_from n [] = []
numbered_from n (c ∷ cs) = record { number = n; component = c } ∷ numbered_from (n + 1) cs

abbrev pub numbered : Object → List Numbered
numbered object = numbered_from 0 object.components

-- an override has a RECURRENCE-ID
abbrev pub has_id : Numbered → Bool
has_id n = is_some n.component.recurrence_id

abbrev pub overrides : Object → List Numbered
overrides object = filter has_id (numbered object)

-- the component without one, of which an object has one at most
abbrev pub masters : Object → List Numbered
masters object = filter (λ n. not (has_id n)) (numbered object)

-- Ids.

abbrev pub first_of : List Stamp → Option Stamp
first_of [] = None
first_of (x ∷ xs) = Some x

abbrev pub master_stamp : Numbered → Option Stamp
master_stamp n = start_or_due n.component.kind n.component.start n.component.extent

-- the stamp beside which ids are aligned: the master's DTSTART, or of a VTODO without it DUE, else the first RECURRENCE-ID
abbrev pub ids_start : Object → Option Stamp
ids_start object =
    first_of (filter_map master_stamp (masters object) ++ filter_map (λ (n : Numbered). n.component.recurrence_id) (overrides object))

-- what an override's RECURRENCE-ID says
abbrev pub named_by : List ZoneTable → Stamp → Numbered → List Aligned
named_by zones ids n = map (λ x. align zones x ids) (option_to_list n.component.recurrence_id)

-- Rows, and their order.

abbrev pub row_of : ℤ → ℤ → ℤ → ℕ → RowKind → RowKind → Row
row_of id start end number id_kind its_kind = record { id = id; start = start; end = end; component = number; id_kind = id_kind; kind = its_kind }

abbrev pub undated_row : Numbered → Row
undated_row n = row_of (pos 0) (pos 0) (pos 0) n.number kind.Undated kind.Undated

-- the rows of the components that have no start, by component
abbrev pub undated_rows : Object → List Row
undated_rows object = map undated_row (filter (λ (n : Numbered). is_none (own_start n.component)) (numbered object))

-- rows are ordered by id, then component
abbrev pub comes_before : Row → Row → Bool
comes_before a b =
    if int_lt a.id b.id then true else (if same_int a.id b.id then nat_le a.component b.component else false)

abbrev pub put_row : Row → List Row → List Row
put_row row [] = row ∷ []
put_row row (x ∷ xs) = if comes_before row x then row ∷ x ∷ xs else x ∷ put_row row xs

abbrev pub in_order : List Row → List Row
in_order [] = []
in_order (row ∷ rows) = put_row row (in_order rows)

-- all starts of an object, in order
abbrev pub starts : List ℕ → Object → List ℤ
starts moments object = flat_map (λ (n : Numbered). starts_of moments object.zones n.component) (masters object)

-- Overrides that move all later instances (RFC 5545, 3.2.13).

-- one of them: the id of its own row, and the stamp from which it starts. One whose own row is Undated moves none.
pub record Governor : Type 0 where
  pub id : ℤ
  pub start : Stamp
  pub override : Numbered

abbrev pub moves_later : Numbered → Bool
moves_later n = n.component.future

-- the one with the greatest id, of several with that id the last
abbrev pub greatest_id : Governor → List Governor → Governor
greatest_id g [] = g
greatest_id g (h ∷ hs) = greatest_id (if int_le g.id h.id then h else g) hs

-- by how many local digits it moves a start: from those of its id to those that its own start is written with
abbrev pub move_of : List ZoneTable → Governor → ℤ
move_of zones g = written_value g.start -ℤ (reading_of zones g.start).local g.id

-- the digits of a start that is moved so, by the clock of the override's start
abbrev pub moved_digits : List ZoneTable → Governor → ℤ → ℤ
moved_digits zones g r = (reading_of zones g.start).local r +ℤ move_of zones g

-- digits of the dates that are served
abbrev pub are_served : ℤ → Bool
are_served l = int_le first_date l && int_le l last_date

-- Beside an object and the stamp beside which its ids are aligned.

module _ (object : Object) (ids : Stamp) where
  -- some override names a start
  abbrev pub is_named : ℤ → Bool
  is_named r = list_any (λ n. list_any (names_start (reading_of object.zones ids) r) (named_by object.zones ids n)) (overrides object)

  -- the row of a start that an override governs: moved, with the override's own length; none where its digits leave the dates that are served
  abbrev pub moved_row : ℤ → Governor → List Row
  moved_row r g =
      let digits = moved_digits object.zones g r in
      let start = (reading_of object.zones g.start).instant digits in
      if are_served digits then row_of r start (end_from object.zones g.override.component start) g.override.number (kind_of ids) (kind_of g.start) ∷ [] else []

  -- And beside all starts.

  module _ (all : List ℤ) where
    -- the id of an override's row: what its RECURRENCE-ID says; of a local day the first start that it names, else the day's midnight
    abbrev pub id_of_override : Aligned → ℤ
    id_of_override (at v) = v
    id_of_override (on_day midnight) =
        first_or_else ((reading_of object.zones ids).instant midnight) (filter (λ r. names_start (reading_of object.zones ids) r (on_day midnight)) all)

    abbrev pub governors_by : Numbered → List Governor
    governors_by n =
        flat_map (λ s. map (λ x. record { id = id_of_override x; start = s; override = n }) (named_by object.zones ids n)) (option_to_list (own_start n.component))

    -- the overrides that move all later instances
    abbrev pub governors : List Governor
    governors = flat_map governors_by (filter moves_later (overrides object))

    -- the row of an override, if it has a start of its own: from that start, with its own length
    abbrev pub override_row_from : Numbered → Stamp → ℤ → List Row
    override_row_from n s start =
        map (λ x. row_of (id_of_override x) start (end_from object.zones n.component start) n.number (kind_of ids) (kind_of s)) (named_by object.zones ids n)

    abbrev pub override_row : Numbered → List Row
    override_row n = flat_map (λ s. override_row_from n s (value_of object.zones s)) (option_to_list (own_start n.component))

    -- the overrides' rows in place of the instances that they name, or added where they name none. One without a start takes away what it names.
    abbrev pub merged : List Row → List Row
    merged instances = in_order (flat_map override_row (overrides object) ++ filter (λ (r : Row). not (is_named r.id)) instances)

-- The row of a start, over some moments.

module _ (moments : List ℕ) (object : Object) (ids : Stamp) where
  -- the row of a master at a start, which is its id
  abbrev pub master_row : ℤ → Numbered → List Row
  master_row r n =
      map (λ s. row_of r r (end_of_instance moments object.zones s n.component r) n.number (kind_of ids) (kind_of s)) (option_to_list (own_start n.component))

  abbrev pub master_rows : ℤ → List Row
  master_rows r = flat_map (master_row r) (masters object)

  -- governed by the override with the greatest id, else by the master
  abbrev pub governed_row : ℤ → List Governor → List Row
  governed_row r [] = master_rows r
  governed_row r (g ∷ gs) = moved_row object ids r (greatest_id g gs)

  -- One that an override names is not governed: the override's row takes the place of the master's.
  abbrev pub row_at : List ℤ → ℤ → List Row
  row_at all r =
      if is_named object ids r then master_rows r
      else governed_row r (filter (λ (g : Governor). int_lt g.id r) (governors object ids all))

-- All rows.

-- Overrides put in beside all instances, those of overrides that govern too: each has the start that it stands for as its id, so overrides find in these ids what they name (`dated_rows-merged` in `proofs/Instances/RowsInOrder`).
-- Over some of them it is another list: an override by a local day takes its id from the instances that it is given.
abbrev pub merged_with : Object → List Row → List Row
merged_with object instances =
    flat_map (λ ids. merged object ids (map (λ (r : Row). r.id) instances) instances) (option_to_list (ids_start object))

-- the rows that have a date, where `row` gives that of a start beside all starts
abbrev pub dated_rows : (Stamp → List ℤ → ℤ → List Row) → List ℕ → Object → Stamp → List Row
dated_rows row moments object ids =
    let all = starts moments object in merged object ids all (flat_map (row ids all) all)

-- the Undated rows first, then the others by id and component
abbrev pub rows_by : (Stamp → List ℤ → ℤ → List Row) → List ℕ → Object → List Row
rows_by row moments object = undated_rows object ++ flat_map (dated_rows row moments object) (option_to_list (ids_start object))

abbrev pub rows_over : List ℕ → Object → List Row
rows_over moments object = rows_by (row_at moments object) moments object

-- the rows of an object
abbrev pub rows : Object → List Row
rows = rows_over every_moment

abbrev pub has_date : RowKind → Bool
has_date kind.Undated = false
has_date other = true

abbrev pub is_dated : Row → Bool
is_dated row = has_date row.kind

-- Windows of 64 days, counted from 1970.

abbrev pub window_seconds : ℤ
window_seconds = pos 5_529_600

-- the window that holds a moment
abbrev pub window_at : ℤ → ℤ
window_at seconds = int_div_euclid seconds window_seconds

-- a start by the digits of the clock beside which its component starts
abbrev pub nominal_beside : List ZoneTable → ℤ → Option Stamp → ℤ
nominal_beside zones start None = start
nominal_beside zones start (Some s) = (reading_of zones s).local start

-- the start of a row in local time: where its component's start is zoned, in that zone
abbrev pub nominal_start : Object → Row → ℤ
nominal_start object row = nominal_beside object.zones row.start (option_and_then own_start (slice_get object.components row.component))

abbrev pub window_of : Object → Row → ℤ
window_of object row = window_at (nominal_start object row)

-- Undated rows lie in no window
abbrev pub lies_in_window : Object → ℤ → Row → Bool
lies_in_window object window row = if is_dated row then same_int (window_of object row) window else false

abbrev pub rows_in_over : List ℕ → Object → ℤ → List Row
rows_in_over moments object window = filter (lies_in_window object window) (rows_over moments object)

abbrev pub rows_in : Object → ℤ → List Row
rows_in = rows_in_over every_moment
