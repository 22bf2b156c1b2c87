-- The first fault of a table, and what a reading is by the faults that are there.
use Rattle.std.proofs.Common.{◌≡◌, ℕ, List, [], ◌∷◌, ◌++◌, refl, sym, ap, ◌∙◌, subst, true, false}
use Rattle.std.specs.Prelude.{Option, Some, None, Result, Ok, Err, option_map, get_or, codes}
use Rattle.std.specs.Prelude.{is_ok}
use Rattle.std.specs.Result.{result_unwrap_or}
use Rattle.std.proofs.lemmas.Bool.{false≢true}
use Rattle.std.proofs.lemmas.Option.{none-some, same_Some}
use Rattle.cal_base.specs.declared.line.Line.{Line}
use Rattle.cal_base.specs.declared.line.Node.{Node}
use Rattle.cal_base.specs.Lines.ContentLines.{Placed, placed_lines, line_fault, lines_of, read_lines}
use Rattle.cal_base.specs.Lines.ComponentTrees.{NestingFault, nesting_fault, tree_of, or_else}
use Rattle.cal_moment.specs.declared.stamp.Stamp.{Stamp}
use Rattle.cal_model.specs.declared.object.NotResource.{NotResource}
use Rattle.cal_model.specs.declared.object.Object.{Object}
use Rattle.cal_model.specs.declared.zone.ZoneTable.{ZoneTable}
use Rattle.cal_model.specs.Recurrence.RecurrenceSet.{every_moment}
use Rattle.cal_model.specs.Objects.ComponentLines.{is_named, children_of}
use Rattle.cal_model.specs.Objects.LineValues.{lines_in, own_fault}
use Rattle.cal_model.specs.Objects.DateFaults.{stamp_outside}
use Rattle.cal_model.specs.Objects.ResourceFaults.{resource_fault}
use Rattle.cal_model.specs.Objects.ComponentFaults.{component_fault}
use Rattle.cal_model.specs.Objects.CalendarChildren.{Child, child_places, children_in, kinds_among}
use Rattle.cal_model.specs.Objects.ObjectReading.{Unread, not_calendar, not_resource, date_outside, place_at, line_of_fault, first_there, calendar_faults, object_in, settled, object_faults, read_tree, read_lines_by, read_by}
use Rattle.cal_model.specs.Objects.ZoneReading.{zones_of, zone_names}
use Rattle.cal_model.proofs.Objects.ReadingSteps.{unless_line, unless_nested, of_tree}
use Rattle.cal_object.specs.declared.fault.ReadFault.{ReadFault}
use Rattle.cal_object.specs.declared.fault.ReadFault.TheVariants.{NotCalendar, NotResource as NotStored, DateOutside, NoMemory}
use Rattle.cal_object.specs.Faults.{IsFaultOf, IsFound}
use Rattle.cal_object.specs.KindNodes.{object_with, first_bad_component}
use Rattle.cal_object.specs.Outlines.{tree_fault, text_fault, IsTreeOf, line_faults, zones_fault}
use Rattle.cal_object.specs.Scan.{own_number}
use Rattle.cal_object.proofs.KindLaws.{object_of-children, component_fault-children}
use Rattle.cal_object.proofs.PlaceLaws.{own_fault-number}

-- What is told

-- a fault that is found is the one of a larger table, or of a reading, where these have it
pub found_moved : (found other : Option Unread) (fault : ReadFault) → ((unread : Unread) → found ≡ Some unread → other ≡ Some unread) → IsFound found fault → IsFound other fault
found_moved found other (NotCalendar place) moves told = moves (not_calendar place) told
found_moved found other (NotStored why) moves told = moves (not_resource why) told
found_moved found other (DateOutside kind stamp) moves told = moves (date_outside kind stamp) told
found_moved found other NoMemory moves told = tt

pub found_told : {X : Type 0} (found : Option Unread) (reading : Result X Unread) (fault : ReadFault) → ((unread : Unread) → found ≡ Some unread → reading ≡ Err unread) → IsFound found fault → IsFaultOf reading fault
found_told found reading (NotCalendar place) moves told = moves (not_calendar place) told
found_told found reading (NotStored why) moves told = moves (not_resource why) told
found_told found reading (DateOutside kind stamp) moves told = moves (date_outside kind stamp) told
found_told found reading NoMemory moves told = tt

pub told_moved : {X : Type 0} (reading other : Result X Unread) (fault : ReadFault) → reading ≡ other → IsFaultOf reading fault → IsFaultOf other fault
told_moved reading other fault same told = subst (λ r. IsFaultOf r fault) same told

-- Tables

first_there-append : (faults more : List (Option Unread)) → first_there (faults ++ more) ≡ or_else (first_there faults) (first_there more)
first_there-append [] more = refl
first_there-append (None ∷ faults) more = first_there-append faults more
first_there-append (Some fault ∷ faults) more = refl

-- Lines

pub named_told : (placed : List Placed) (calendar : Node) → is_named (codes "VCALENDAR") calendar ≡ false → first_there (line_faults placed calendar) ≡ Some (not_calendar (place_at placed 0))
named_told placed calendar other = rw other refl

pub own_told : (placed : List Placed) (calendar : Node) (number : ℕ) → is_named (codes "VCALENDAR") calendar ≡ true → Some number ≡ own_number (lines_in placed) →
    first_there (line_faults placed calendar) ≡ Some (not_calendar (place_at placed number))
own_told placed calendar number named own =
    let there : own_fault placed ≡ Some (place_at placed number) = own_fault-number placed ∙ ap (option_map (place_at placed)) (sym own) in
    rw (named, there) refl

pub lines_good : (placed : List Placed) (calendar : Node) → is_named (codes "VCALENDAR") calendar ≡ true → None ≡ own_number (lines_in placed) → first_there (line_faults placed calendar) ≡ None
lines_good placed calendar named own =
    let none : own_fault placed ≡ None = own_fault-number placed ∙ ap (option_map (place_at placed)) (sym own) in
    rw (named, none) refl

-- Zones

zones_last : (faults : List (Option Unread)) (last : Option Unread) → first_there faults ≡ None → first_there (faults ++ last ∷ []) ≡ last
zones_last faults last none = first_there-append faults (last ∷ []) ∙ ap (λ found. or_else found (first_there (last ∷ []))) none ∙ only last
  where
    only : (one : Option Unread) → first_there (one ∷ []) ≡ one
    only None = refl
    only (Some fault) = refl

earlier : (faults more : List (Option Unread)) (unread : Unread) → first_there faults ≡ Some unread → first_there (faults ++ more) ≡ Some unread
earlier faults more unread there = first_there-append faults more ∙ ap (λ found. or_else found (first_there more)) there

pub lines_before_zones : (placed : List Placed) (calendar : Node) (unread : Unread) → first_there (line_faults placed calendar) ≡ Some unread → first_there (calendar_faults every_moment placed calendar) ≡ Some unread
lines_before_zones placed calendar unread there = earlier (line_faults placed calendar) (zones_fault placed calendar ∷ []) unread there

pub zones_behind_lines : (placed : List Placed) (calendar : Node) → first_there (line_faults placed calendar) ≡ None → first_there (calendar_faults every_moment placed calendar) ≡ zones_fault placed calendar
zones_behind_lines placed calendar none = zones_last (line_faults placed calendar) (zones_fault placed calendar) none

-- Objects

module _ (placed : List Placed) (object : Object) where
  abbrev kids : List Child
  kids = kinds_among (children_in placed object.tree)

  component_place : (zones : List ZoneTable) (found : Option ℕ) → zones ≡ object.zones → found ≡ first_bad_component zones 0 (children_of object.tree) →
      component_fault object.zones kids ≡ option_map (λ number. get_or (child_places placed) number 0) found
  component_place zones found same is =
      component_fault-children object.zones placed object.tree
      ∙ ap (option_map (λ number. get_or (child_places placed) number 0)) (ap (λ those. first_bad_component those 0 (children_of object.tree)) (sym same) ∙ sym is)

  pub component_told : (zones : List ZoneTable) (number : ℕ) → zones ≡ object.zones → Some number ≡ first_bad_component zones 0 (children_of object.tree) →
      first_there (object_faults placed object.tree object) ≡ Some (not_calendar (get_or (child_places placed) number 0))
  component_told zones number same is = rw (component_place zones (Some number) same is) refl

  pub resource_told : (zones : List ZoneTable) (why : NotResource) → zones ≡ object.zones → None ≡ first_bad_component zones 0 (children_of object.tree) →
      Some why ≡ resource_fault object kids → first_there (object_faults placed object.tree object) ≡ Some (not_resource why)
  resource_told zones why same is there = rw (component_place zones None same is, sym there) refl

  pub outside_told : (zones : List ZoneTable) (names : List (List ℕ)) (stamp : Stamp) → zones ≡ object.zones → None ≡ first_bad_component zones 0 (children_of object.tree) →
      None ≡ resource_fault object kids → names ≡ zone_names object.zones → Some stamp ≡ stamp_outside names (lines_in placed) →
      first_there (object_faults placed object.tree object) ≡ Some (date_outside object.kind stamp)
  outside_told zones names stamp same is stored named there =
      let outside : stamp_outside (zone_names object.zones) (lines_in placed) ≡ Some stamp = ap (λ those. stamp_outside those (lines_in placed)) (sym named) ∙ sym there in
      rw (component_place zones None same is, sym stored, outside) refl

  pub object_good : (zones : List ZoneTable) (names : List (List ℕ)) → zones ≡ object.zones → None ≡ first_bad_component zones 0 (children_of object.tree) →
      None ≡ resource_fault object kids → names ≡ zone_names object.zones → None ≡ stamp_outside names (lines_in placed) → first_there (object_faults placed object.tree object) ≡ None
  object_good zones names same is stored named there =
      let outside : stamp_outside (zone_names object.zones) (lines_in placed) ≡ None = ap (λ those. stamp_outside those (lines_in placed)) (sym named) ∙ sym there in
      rw (component_place zones None same is, sym stored, outside) refl

-- Trees

-- the object of a tree, by its zones
pub object_in-with : (zones : List ZoneTable) (placed : List Placed) (calendar : Node) → zones ≡ zones_of every_moment calendar → object_with zones calendar ≡ object_in every_moment placed calendar
object_in-with zones placed calendar are =
    object_of-children zones placed calendar ∙ ap (λ those. Rattle.cal_model.specs.Objects.CalendarChildren.object_of those calendar (kinds_among (children_in placed calendar))) are

abbrev unless : {X : Type 0} → Option Unread → Result X Unread → Result X Unread
unless found reading = elim found [ Some fault ↦ Err fault | None ↦ reading ]

pub tree_good : (placed : List Placed) (calendar : Node) (object : Object) → first_there (calendar_faults every_moment placed calendar) ≡ None → object ≡ object_in every_moment placed calendar →
    first_there (object_faults placed calendar object) ≡ None → read_tree every_moment placed calendar ≡ Ok (settled object)
tree_good placed calendar object lines is none =
    let whole = object_in every_moment placed calendar in
    let rest : first_there (object_faults placed calendar whole) ≡ None = subst (λ o. first_there (object_faults placed calendar o) ≡ None) is none in
    let all : first_there (calendar_faults every_moment placed calendar ++ object_faults placed calendar whole) ≡ None =
    first_there-append (calendar_faults every_moment placed calendar) (object_faults placed calendar whole) ∙ ap (λ found. or_else found (first_there (object_faults placed calendar whole))) lines ∙ rest in
    ap (λ found. unless found (Ok (settled whole))) all ∙ ap (λ o. Ok (settled o)) (sym is)

pub tree_told_before : (placed : List Placed) (calendar : Node) (unread : Unread) → first_there (calendar_faults every_moment placed calendar) ≡ Some unread → read_tree every_moment placed calendar ≡ Err unread
tree_told_before placed calendar unread there =
    let whole = object_in every_moment placed calendar in
    ap (λ found. unless found (Ok (settled whole))) (earlier (calendar_faults every_moment placed calendar) (object_faults placed calendar whole) unread there)

pub tree_told_behind : (placed : List Placed) (calendar : Node) (unread : Unread) → first_there (calendar_faults every_moment placed calendar) ≡ None →
    first_there (object_faults placed calendar (object_in every_moment placed calendar)) ≡ Some unread → read_tree every_moment placed calendar ≡ Err unread
tree_told_behind placed calendar unread none there =
    let whole = object_in every_moment placed calendar in
    ap (λ found. unless found (Ok (settled whole)))
    (first_there-append (calendar_faults every_moment placed calendar) (object_faults placed calendar whole) ∙ ap (λ found. or_else found (first_there (object_faults placed calendar whole))) none ∙ there)

-- Texts

pub read_by-tree : {X : Type 0} (read : List Placed → Node → Result X Unread) (octets : List ℕ) (calendar : Node) → IsTreeOf octets calendar → read_by read octets ≡ read (placed_lines octets) calendar
read_by-tree read octets calendar is =
    let placed = placed_lines octets in
    ap (λ fault. unless_line fault (read_lines_by read placed)) is.lines
    ∙ ap (λ fault. unless_nested placed fault (of_tree (read placed) (tree_of (lines_in placed)))) is.nested
    ∙ ap (of_tree (read placed)) is.tree

abbrev tree_fault_by : List Placed → Option NestingFault → Option Node → Option Unread
tree_fault_by placed fault tree = elim fault [
  | Some found ↦ Some (not_calendar (place_at placed (line_of_fault found)))
  | None ↦ elim tree [ None ↦ Some (not_calendar 0) | Some made ↦ None ]
]

tree_step : {X : Type 0} (read : List Placed → Node → Result X Unread) (placed : List Placed) (fault : Option NestingFault) (tree : Option Node) (unread : Unread) →
    nesting_fault (lines_in placed) ≡ fault → tree_of (lines_in placed) ≡ tree → tree_fault placed ≡ Some unread → read_lines_by read placed ≡ Err unread
tree_step read placed fault tree unread n t told =
    ap (λ f. unless_nested placed f (of_tree (read placed) (tree_of (lines_in placed)))) n ∙ ap (λ those. unless_nested placed fault (of_tree (read placed) those)) t
    ∙ cases fault tree (sym (ap (λ f. tree_fault_by placed f (tree_of (lines_in placed))) n ∙ ap (tree_fault_by placed fault) t) ∙ told)
  where
    cases : (f : Option NestingFault) (those : Option Node) → tree_fault_by placed f those ≡ Some unread → unless_nested placed f (of_tree (read placed) those) ≡ Err unread
    cases (Some found) those there = ap Err (same_Some _ _ there)
    cases None None there = ap Err (same_Some _ _ there)
    cases None (Some made) there = absurd (none-some unread there)

abbrev text_fault_by : List Placed → Option ℕ → Option Unread
text_fault_by placed found = elim found [ Some place ↦ Some (not_calendar place) | None ↦ tree_fault placed ]

text_step : {X : Type 0} (read : List Placed → Node → Result X Unread) (octets : List ℕ) (fault : Option ℕ) (unread : Unread) →
    line_fault octets ≡ fault → text_fault octets ≡ Some unread → read_by read octets ≡ Err unread
text_step read octets fault unread f told =
    ap (λ found. unless_line found (read_lines_by read (placed_lines octets))) f ∙ cases fault (sym (ap (text_fault_by (placed_lines octets)) f) ∙ told)
  where
    cases : (found : Option ℕ) → text_fault_by (placed_lines octets) found ≡ Some unread → unless_line found (read_lines_by read (placed_lines octets)) ≡ Err unread
    cases (Some place) there = ap Err (same_Some _ _ there)
    cases None there = tree_step read (placed_lines octets) (nesting_fault (lines_in (placed_lines octets))) (tree_of (lines_in (placed_lines octets))) unread refl refl there

pub read_by-fault : {X : Type 0} (read : List Placed → Node → Result X Unread) (octets : List ℕ) (unread : Unread) → text_fault octets ≡ Some unread → read_by read octets ≡ Err unread
read_by-fault read octets unread told = text_step read octets (line_fault octets) unread refl told

line_step : (octets : List ℕ) (fault : Option ℕ) (lines : List Line) → line_fault octets ≡ fault → read_lines octets ≡ Ok lines → lines ≡ lines_in (placed_lines octets)
line_step octets fault lines f good =
    cases fault (sym (ap (λ found. elim found as (λ _. Result (List Line) ℕ) [ None ↦ Ok (lines_of octets) | Some place ↦ Err place ]) f) ∙ good)
  where
    cases : (found : Option ℕ) → (elim found as (λ _. Result (List Line) ℕ) [ None ↦ Ok (lines_of octets) | Some place ↦ Err place ]) ≡ Ok lines → lines ≡ lines_in (placed_lines octets)
    cases None there = sym (ap (λ read. result_unwrap_or read lines) there)
    cases (Some place) there = absurd (false≢true (ap is_ok there))

-- the lines that are read
pub lines_read : (octets : List ℕ) (lines : List Line) → read_lines octets ≡ Ok lines → lines ≡ lines_in (placed_lines octets)
lines_read octets lines good = line_step octets (line_fault octets) lines refl good
