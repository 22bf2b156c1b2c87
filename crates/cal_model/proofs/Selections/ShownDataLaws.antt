-- What is shown of an object depends on no other rows than those that overlap the selection's range, and, where overrides are limited, the first dated row of each: its own, which stands before those that it governs.
use Rattle.std.proofs.Common.{◌≡◌, ℕ, Bool, true, cond, not, ◌&&◌, ◌||◌, List, [], ◌∷◌, ◌++◌, map, refl, sym, ap, ◌∙◌, inl, inr}
use Rattle.std.specs.Prelude.{◌==◌, All, flat_map, filter, take, option_to_list}
use Rattle.std.specs.List.{list_any, enumerate_from, Contains}
use Rattle.std.proofs.lemmas.Bool.{and_parts, cases_Bool}
use Rattle.std.proofs.lemmas.List.Elements.{All-head}
use Rattle.cal_moment.specs.declared.stamp.Stamp.{Stamp}
use Rattle.cal_base.specs.declared.line.Node.{Node}
use Rattle.cal_model.specs.declared.object.Object.{Object}
use Rattle.cal_model.specs.declared.row.Range.{Range}
use Rattle.cal_model.specs.declared.row.Row.{Row}
use Rattle.cal_model.specs.declared.selection.Recur.{Recur}
use Rattle.cal_model.specs.declared.selection.Recur.TheVariants.{Whole, Expand, Limit}
use Rattle.cal_model.specs.declared.selection.Selection.{Selection}
use Rattle.cal_model.specs.declared.zone.ZoneTable.{ZoneTable}
use Rattle.cal_model.specs.Selections.ShownData.{shown, recurrence_shown, busy_shown, takes_all}
use Rattle.cal_model.specs.Selections.EnoughRows.{KeepsEach, KeepsFirst, is_dated_of, KeepsFirsts, AreEnoughToShow, EnoughRowsAreShown}
use Rattle.cal_model.specs.Selections.Expansion.{expanded_children, instances_of_row, plain_lines}
use Rattle.cal_model.specs.Selections.LimitedSets.{original_row, left_out, is_left_out}
use Rattle.cal_model.specs.Selections.Picks.{picked_text}
use Rattle.cal_model.specs.Ranges.RowRanges.{row_in_range}
use Rattle.cal_model.specs.Instances.Rows.{Numbered, overrides, masters, named_by, id_of_override, ids_start, is_dated}
use Rattle.cal_model.specs.Objects.ComponentLines.{name_of, lines_of, children_of}
use Rattle.cal_base.specs.Lines.ComponentTrees.{component}
use Rattle.std.proofs.lemmas.List.Folds.{list_any-append}
use Rattle.cal_model.proofs.Words.ListTests.{any_filter, filter-filter, filter_agreed, each, filter_kept, any_kept}

-- Limited overrides

abbrev has_number : Numbered → Row → Bool
has_number n row = row.component == n.number

first_kept : (keep test : Row → Bool) (all : List Row) → KeepsFirst keep all test → take 1 (filter test (filter keep all)) ≡ take 1 (filter test all)
first_kept keep test [] first = refl
first_kept keep test (row ∷ rows) first = elim (cases_Bool (test row)) [
  | inl w ↦ (let kept : keep row ≡ true = All-head (λ row. keep row ≡ true) row [] (rw w at first) in rw (kept, w) refl)
  | inr w ↦ (let later : KeepsFirst keep rows test = rw w at first in elim (cases_Bool (keep row)) [
    | inl v ↦ rw (v, w) (first_kept keep test rows later)
    | inr v ↦ rw (v, w) (first_kept keep test rows later)
  ])
]

-- what the original instances of an override are made of: the ids of its dated rows
abbrev originals : Object → Numbered → List Row → List Row
originals object n dated =
    flat_map (λ (ids : Stamp). flat_map (λ id. map (original_row object ids id) (masters object)) (take 1 (map (λ (row : Row). row.id) dated ++ map (id_of_override object ids []) (named_by object.zones ids n)))) (option_to_list (ids_start object))

-- the first of them is enough
of_first : (object : Object) (n : Numbered) (dated : List Row) → originals object n dated ≡ originals object n (take 1 dated)
of_first object n [] = refl
of_first object n (row ∷ rows) = refl

is_left_out_same : (object : Object) (zone : ZoneTable) (range : Range) (keep : Row → Bool) (all : List Row) → KeepsEach keep all (row_in_range object zone range)
    → KeepsFirsts object keep all → (n : Numbered) → Contains (overrides object) n
    → is_left_out object (filter keep all) zone range n ≡ is_left_out object all zone range n
is_left_out_same object zone range keep all meeting firsts n c =
    let overlaps : Row → Bool = row_in_range object zone range in
    let own : list_any overlaps (filter (has_number n) (filter keep all)) ≡ list_any overlaps (filter (has_number n) all) =
    any_filter overlaps (has_number n) (filter keep all)
    ∙ any_kept keep (λ row. has_number n row && overlaps row) all (λ row d e. meeting row d (and_parts (has_number n row) (overlaps row) e).1)
    ∙ sym (any_filter overlaps (has_number n) all) in
    let same_first : take 1 (filter is_dated (filter (has_number n) (filter keep all))) ≡ take 1 (filter is_dated (filter (has_number n) all)) =
    ap (take 1) (filter-filter is_dated (has_number n) (filter keep all))
    ∙ first_kept keep (is_dated_of n) all (firsts n c)
    ∙ sym (ap (take 1) (filter-filter is_dated (has_number n) all)) in
    let same : originals object n (filter is_dated (filter (has_number n) (filter keep all))) ≡ originals object n (filter is_dated (filter (has_number n) all)) =
    of_first object n (filter is_dated (filter (has_number n) (filter keep all))) ∙ ap (originals object n) same_first ∙ sym (of_first object n (filter is_dated (filter (has_number n) all))) in
    ap not (list_any-append overlaps (filter (has_number n) (filter keep all)) (originals object n (filter is_dated (filter (has_number n) (filter keep all))))
    ∙ (λ i. own i || list_any overlaps (same i))
    ∙ sym (list_any-append overlaps (filter (has_number n) all) (originals object n (filter is_dated (filter (has_number n) all)))))

left_out_same : (object : Object) (zone : ZoneTable) (range : Range) (keep : Row → Bool) (all : List Row) → KeepsEach keep all (row_in_range object zone range)
    → KeepsFirsts object keep all → left_out object (filter keep all) zone range ≡ left_out object all zone range
left_out_same object zone range keep all meeting firsts =
    ap (map (λ (n : Numbered). n.component.child)) (filter_agreed (is_left_out object (filter keep all) zone range) (is_left_out object all zone range) (overrides object)
    (each (λ n. is_left_out object (filter keep all) zone range n ≡ is_left_out object all zone range n) (overrides object) (is_left_out_same object zone range keep all meeting firsts)))

-- the tree that is left when the places of some children are left out
abbrev without : Object → List ℕ → Node
without object gone = component (name_of object.tree) (record {
  lines = lines_of object.tree;
  children = map (λ (child : ℕ × Node). child.1) (filter (λ (child : ℕ × Node). not (list_any (λ place. place == child.0) gone)) (enumerate_from 0 (children_of object.tree)));
})

-- the tree with these rows as instances
abbrev with_instances : Object → List Row → Node
with_instances object found = component (name_of object.tree) (record {
  lines = plain_lines (lines_of object.tree);
  children = expanded_children (flat_map (instances_of_row object) found) (children_of object.tree);
})

recurrence_same : (object : Object) (zone : ZoneTable) (keep : Row → Bool) (all : List Row) (recur : Recur) → AreEnoughToShow object zone keep all recur
    → recurrence_shown object (filter keep all) zone recur ≡ recurrence_shown object all zone recur
recurrence_same object zone keep all Whole e = refl
recurrence_same object zone keep all (Expand range) e = ap (with_instances object) (filter_kept keep (row_in_range object zone range) all e)
recurrence_same object zone keep all (Limit range) e = ap (without object) (left_out_same object zone range keep all e.0 e.1)

pub shown-enough_rows : EnoughRowsAreShown
shown-enough_rows octets object select zone keep all e =
    ap (λ tree. cond (takes_all select) octets (picked_text select.comp (busy_shown select.busy tree))) (recurrence_same object zone keep all select.recur e)
