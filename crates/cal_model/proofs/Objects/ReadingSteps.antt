-- What a reading that is Ok has passed: its lines, its tree, and each row of the tables; and the numbers of children.
use Rattle.std.proofs.Common.{◌≡◌, ℕ, ◌+◌, List, [], ◌∷◌, ◌++◌, map, length, arith, refl, ap, sym, ◌∙◌, append_assoc, length-append}
use Rattle.std.proofs.Math.Seq.{get_or-append_seam}
use Rattle.std.proofs.lemmas.Option.{slice_get-get_or}
use Rattle.std.specs.Prelude.{Option, Some, None, Result, Ok, Err, is_ok, option_map, slice_get, codes, if◌then◌else◌}
use Rattle.std.specs.List.{AllByRecursion as Each, enumerate_from}
use Rattle.std.proofs.lemmas.Bool.{false≢true}
use Rattle.std.proofs.lemmas.Option.{none-some}
use Rattle.std.specs.Result.{result_unwrap_or}
use Rattle.cal_base.specs.declared.line.Node.{Node}
use Rattle.cal_base.specs.Lines.ContentLines.{Placed, placed_lines, line_fault}
use Rattle.cal_base.specs.Lines.ComponentTrees.{NestingFault, nesting_fault, tree_of}
use Rattle.cal_model.specs.declared.object.Object.{Object}
use Rattle.cal_model.specs.Objects.LineValues.{lines_in, own_fault}
use Rattle.cal_model.specs.Objects.ZoneReading.{zones_of, zone_names}
use Rattle.cal_model.specs.Objects.ComponentLines.{is_named, children_of}
use Rattle.cal_model.proofs.Words.EachLemmas.{none_of_map}
use Rattle.cal_model.specs.Objects.DateFaults.{stamp_outside}
use Rattle.cal_model.specs.Objects.ResourceFaults.{resource_fault}
use Rattle.cal_model.specs.Objects.ComponentFaults.{component_fault}
use Rattle.cal_model.specs.Objects.ZoneFaults.{zone_fault}
use Rattle.cal_model.specs.Objects.CalendarChildren.{Child, child_at, child_places, children_in, zones_among, kinds_among}
use Rattle.cal_model.specs.Objects.ObjectReading.{Unread, not_calendar, not_resource, date_outside, place_at, line_of_fault, first_there, calendar_faults, object_in, settled, object_faults, read_tree, read_lines_by, read_object_over}

-- Where a reading is Ok, no fault was there

abbrev pub unless_line : {X : Type 0} → Option ℕ → Result X Unread → Result X Unread
unless_line fault read = elim fault [ Some place ↦ Err (not_calendar place) | None ↦ read ]

pub after_lines : {X : Type 0} (fault : Option ℕ) (read : Result X Unread) (x : X) → unless_line fault read ≡ Ok x → read ≡ Ok x
after_lines (Some place) read x good = absurd (false≢true (ap is_ok good))
after_lines None read x good = good

pub lines_none : {X : Type 0} (fault : Option ℕ) (read : Result X Unread) (x : X) → unless_line fault read ≡ Ok x → fault ≡ None
lines_none (Some place) read x good = absurd (false≢true (ap is_ok good))
lines_none None read x good = refl

abbrev pub unless_nested : {X : Type 0} → List Placed → Option NestingFault → Result X Unread → Result X Unread
unless_nested placed fault read = elim fault [ Some f ↦ Err (not_calendar (place_at placed (line_of_fault f))) | None ↦ read ]

pub after_nesting : {X : Type 0} (placed : List Placed) (fault : Option NestingFault) (read : Result X Unread) (x : X) →
    unless_nested placed fault read ≡ Ok x → read ≡ Ok x
after_nesting placed (Some fault) read x good = absurd (false≢true (ap is_ok good))
after_nesting placed None read x good = good

pub nesting_none : {X : Type 0} (placed : List Placed) (fault : Option NestingFault) (read : Result X Unread) (x : X) →
    unless_nested placed fault read ≡ Ok x → fault ≡ None
nesting_none placed (Some fault) read x good = absurd (false≢true (ap is_ok good))
nesting_none placed None read x good = refl

abbrev pub of_tree : {X : Type 0} → (Node → Result X Unread) → Option Node → Result X Unread
of_tree read tree = elim tree [ None ↦ Err (not_calendar 0) | Some t ↦ read t ]

pub after_tree : {X : Type 0} (read : Node → Result X Unread) (tree : Option Node) (x : X) → of_tree read tree ≡ Ok x → (t : Node) × (tree ≡ Some t) × (read t ≡ Ok x)
after_tree read None x good = absurd (false≢true (ap is_ok good))
after_tree read (Some tree) x good = (tree, refl, good)

abbrev pub unless_fault : {X : Type 0} → Option Unread → X → Result X Unread
unless_fault fault found = elim fault [ Some f ↦ Err f | None ↦ Ok found ]

pub after_faults : {X : Type 0} (fault : Option Unread) (found x : X) → unless_fault fault found ≡ Ok x → (fault ≡ None) × (x ≡ found)
after_faults (Some fault) found x good = absurd (false≢true (ap is_ok good))
after_faults None found x good = (refl, sym (ap (λ r. result_unwrap_or r found) good))

-- the lines and the tree that an object was read from
pub record IsReadFrom (moments : List ℕ) (placed : List Placed) (tree : Node) (object : Object) : Type 0 where
  pub nested : nesting_fault (lines_in placed) ≡ None
  pub built : tree_of (lines_in placed) ≡ Some tree
  pub is : object ≡ settled (object_in moments placed tree)
  pub sound : first_there (calendar_faults moments placed tree ++ object_faults placed tree (object_in moments placed tree)) ≡ None

pub read_from : (moments octets : List ℕ) (object : Object) → read_object_over moments octets ≡ Ok object →
    (tree : Node) × IsReadFrom moments (placed_lines octets) tree object
read_from moments octets object good =
    let placed = placed_lines octets in
    let lines = after_lines (line_fault octets) (read_lines_by (read_tree moments) placed) object good in
    let nested = after_nesting placed (nesting_fault (lines_in placed)) (of_tree (read_tree moments placed) (tree_of (lines_in placed))) object lines in
    let found = after_tree (read_tree moments placed) (tree_of (lines_in placed)) object nested in
    let tree = found.0 in
    let whole = after_faults (first_there (calendar_faults moments placed tree ++ object_faults placed tree (object_in moments placed tree))) (settled (object_in moments placed tree)) object found.2 in (
      tree,
      record {
        nested = nesting_none placed (nesting_fault (lines_in placed)) (of_tree (read_tree moments placed) (tree_of (lines_in placed))) object lines;
        built = found.1;
        is = whole.1;
        sound = whole.0;
      },
    )

-- Each fault by itself

pub head_none : {X : Type 0} (o : Option X) (os : List (Option X)) → first_there (o ∷ os) ≡ None → o ≡ None
head_none None os none = refl
head_none (Some x) os none = absurd (none-some x (sym none))

pub tail_none : {X : Type 0} (o : Option X) (os : List (Option X)) → first_there (o ∷ os) ≡ None → first_there os ≡ None
tail_none None os none = none
tail_none (Some x) os none = absurd (none-some x (sym none))

-- the faults that are not there
pub record IsSound (moments : List ℕ) (placed : List Placed) (tree : Node) : Type 0 where
  pub own : own_fault placed ≡ None
  pub zone : zone_fault moments (zones_among (children_in placed tree)) ≡ None
  pub component : component_fault (zones_of moments tree) (kinds_among (children_in placed tree)) ≡ None
  pub resource : resource_fault (object_in moments placed tree) (kinds_among (children_in placed tree)) ≡ None
  pub outside : stamp_outside (zone_names (zones_of moments tree)) (lines_in placed) ≡ None

pub sound_from : (a b c d e f : Option Unread) → first_there (a ∷ b ∷ c ∷ d ∷ e ∷ f ∷ []) ≡ None →
    (b ≡ None) × (c ≡ None) × (d ≡ None) × (e ≡ None) × (f ≡ None)
sound_from a b c d e f none =
    let after_a = tail_none a (b ∷ c ∷ d ∷ e ∷ f ∷ []) none in
    let after_b = tail_none b (c ∷ d ∷ e ∷ f ∷ []) after_a in
    let after_c = tail_none c (d ∷ e ∷ f ∷ []) after_b in
    let after_d = tail_none d (e ∷ f ∷ []) after_c in
    let after_e = tail_none e (f ∷ []) after_d in
    (head_none b (c ∷ d ∷ e ∷ f ∷ []) after_a, head_none c (d ∷ e ∷ f ∷ []) after_b, head_none d (e ∷ f ∷ []) after_c, head_none e (f ∷ []) after_d, head_none f [] after_e)

pub is_sound : (moments : List ℕ) (placed : List Placed) (tree : Node) (object : Object) → IsReadFrom moments placed tree object → IsSound moments placed tree
is_sound moments placed tree object read =
    let children = kinds_among (children_in placed tree) in
    let whole = object_in moments placed tree in
    let none = sound_from
    (if is_named (codes "VCALENDAR") tree then None else Some (not_calendar (place_at placed 0)))
    (option_map not_calendar (own_fault placed))
    (option_map not_calendar (zone_fault moments (zones_among (children_in placed tree))))
    (option_map not_calendar (component_fault whole.zones children))
    (option_map not_resource (resource_fault whole children))
    (option_map (date_outside whole.kind) (stamp_outside (zone_names whole.zones) (lines_in placed)))
    read.sound in
    record {
      own = none_of_map not_calendar (own_fault placed) none.0;
      zone = none_of_map not_calendar (zone_fault moments (zones_among (children_in placed tree))) none.1;
      component = none_of_map not_calendar (component_fault whole.zones children) none.2;
      resource = none_of_map not_resource (resource_fault whole children) none.3;
      outside = none_of_map (date_outside whole.kind) (stamp_outside (zone_names whole.zones) (lines_in placed)) none.4;
    }

-- Children

-- a child is the node of its number
abbrev pub IsChildOf : List Node → Child → Type 0
IsChildOf nodes child = slice_get nodes child.number ≡ Some child.tree

pub seam : (before nodes : List Node) (node : Node) → slice_get (before ++ node ∷ nodes) (length before) ≡ Some node
seam before nodes node =
    slice_get-get_or (before ++ node ∷ nodes) (length before) node (grind (arith, length-append)) ∙ ap Some (get_or-append_seam before node nodes node)

pub seam_length : (before : List Node) (node : Node) → length before + 1 ≡ length (before ++ node ∷ [])
seam_length before node = grind (arith, length-append)

-- the nodes that stand behind others among all, each with its number
pub children_from : (places : List ℕ) (all before nodes : List Node) (number : ℕ) → all ≡ before ++ nodes → number ≡ length before →
    Each (IsChildOf all) (map (child_at places) (enumerate_from number nodes))
children_from places all before [] number whole count = tt
children_from places all before (node ∷ nodes) number whole count = (
  rw (whole, count) (seam before nodes node),
  children_from places all (before ++ node ∷ []) nodes (number + 1) (whole ∙ sym (append_assoc before (node ∷ []) nodes)) (ap (λ n. n + 1) count ∙ seam_length before node),
)

pub children_are : (placed : List Placed) (tree : Node) → Each (IsChildOf (children_of tree)) (children_in placed tree)
children_are placed tree = children_from (child_places placed) (children_of tree) [] (children_of tree) 0 refl refl
