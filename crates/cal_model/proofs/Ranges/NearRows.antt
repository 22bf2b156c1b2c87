-- Each dated row of an object is the row of a component that has a start, with its end near its own start.
use Rattle.std.proofs.Common.{◌≡◌, ℕ, ◌+◌, ◌≤◌, List, [], ◌∷◌, ◌++◌, map, refl, arith, true, ℤ}
use Rattle.std.specs.Prelude.{All, filter, flat_map, not, slice_get, option_to_list, is_none, Some}
use Rattle.std.proofs.lemmas.List.Elements.{All-head, All-tail, All-nil, All-cons, All-append, All-map, All-filter, All-weaker, All-contains}
use Rattle.cal_moment.specs.declared.stamp.Stamp.{Stamp}
use Rattle.cal_model.specs.declared.object.Component.{Component}
use Rattle.cal_model.specs.declared.object.Object.{Object}
use Rattle.cal_model.specs.declared.row.Row.{Row}
use Rattle.cal_model.specs.Instances.Alignment.{Aligned, reading_of, value_of, kind_of}
use Rattle.cal_model.specs.Instances.Starts.{own_start, end_from, end_of_instance}
use Rattle.cal_model.specs.Instances.Rows.{Numbered, numbered, has_id, masters, overrides, ids_start, id_of_override, named_by, is_named, row_of, is_dated, undated_row, undated_rows, starts, master_row, Governor, governors_by, moves_later, governors, moved_digits, moved_row, master_rows as rows_of_start, row_at, override_row, override_row_from, dated_rows, rows_by, rows_over}
use Rattle.cal_model.specs.Ranges.Cost.{extent_length, lengths, longest}
use Rattle.cal_model.specs.Ranges.Nearness.{IsNear, IsTimed, HasNearRows}
use Rattle.cal_model.proofs.Words.AllLemmas.{All-everywhere, All-flat_map, All-each_part, All-option, All-slice_get}
use Rattle.cal_model.proofs.Instances.EachRowLemmas.{All-numbered_from, All-greatest, All-in_order}
use Rattle.cal_model.proofs.Instances.GovernedRows.{All-governors, row_at-holds, moved_to, moved_row-holds}
use Rattle.cal_model.proofs.Ranges.RowBounds.{wider, end_of_extent-near, end_of_instance-near}

-- What each row has.

-- a row of a component that has a start, with its end near
pub record IsRowOf (object : Object) (row : Row) : Type 0 where
  pub component : Component
  pub stamp : Stamp
  pub found : slice_get object.components row.component ≡ Some component
  pub own : own_start component ≡ Some stamp
  pub kind : row.kind ≡ kind_of stamp
  pub end_near : IsNear (172800 + longest object) row.end row.start

abbrev IfDated : Object → Row → Type 0
IfDated object row = is_dated row ≡ true → IsRowOf object row

-- what is known of a component by its number
record IsKnown (object : Object) (n : Numbered) : Type 0 where
  found : slice_get object.components n.number ≡ Some n.component
  small : All (λ m. m ≤ longest object) (lengths object.zones n.component)
  timed : All IsTimed n.component.periods

known : (object : Object) → HasNearRows object → All (IsKnown object) (numbered object)
known object near =
    All-numbered_from (IsKnown object) 0 object.components
    (λ i j c e found. let here : j ≡ i = omega (arith, e) in record {
      found = rw here found;
      small = All-slice_get (λ c. All (λ m. m ≤ longest object) (lengths object.zones c)) object.components i c (All-each_part (λ m. m ≤ longest object) (lengths object.zones) object.components (All-greatest (flat_map (lengths object.zones) object.components))) found;
      timed = All-slice_get (λ (c : Component). All IsTimed c.periods) object.components i c near.periods found;
    })

own_length : (object : Object) (n : Numbered) (s : Stamp) → IsKnown object n → own_start n.component ≡ Some s → extent_length object.zones (Some s) n.component.extent ≤ longest object
own_length object n s is own = rw own at (All-head (λ m. m ≤ longest object) (extent_length object.zones (own_start n.component) n.component.extent) _ is.small)

override_rows : (object : Object) (ids : Stamp) (all : List ℤ) (n : Numbered) → HasNearRows object → IsKnown object n → All (IfDated object) (override_row object ids all n)
override_rows object ids all n near is =
    All-flat_map (IfDated object) (λ s. override_row_from object ids all n s (value_of object.zones s)) (option_to_list (own_start n.component))
    (All-option (λ s. All (IfDated object) (override_row_from object ids all n s (value_of object.zones s))) (own_start n.component) from)
  where
    row : Stamp → Aligned → Row
    row s x = row_of (id_of_override object ids all x) (value_of object.zones s) (end_from object.zones n.component (value_of object.zones s)) n.number (kind_of ids) (kind_of s)

    at_each : (s : Stamp) → own_start n.component ≡ Some s → (x : Aligned) → IfDated object (row s x)
    at_each s own x dated = record {
      component = n.component;
      stamp = s;
      found = is.found;
      own = own;
      kind = refl;
      end_near = rw own (wider (extent_length object.zones (Some s) n.component.extent) (longest object) _ _ (own_length object n s is own) (end_of_extent-near object.zones s n.component.extent (value_of object.zones s) near.offsets));
    }

    from : (s : Stamp) → own_start n.component ≡ Some s → All (IfDated object) (override_row_from object ids all n s (value_of object.zones s))
    from s own = All-map (IfDated object) (row s) (named_by object.zones ids n) (All-everywhere (λ x. IfDated object (row s x)) (at_each s own) (named_by object.zones ids n))

master_rows : (moments : List ℕ) (object : Object) (ids : Stamp) (r : ℤ) (n : Numbered) → HasNearRows object → IsKnown object n → All (IfDated object) (master_row moments object ids r n)
master_rows moments object ids r n near is =
    All-map (IfDated object) row (option_to_list (own_start n.component)) (All-option (λ s. IfDated object (row s)) (own_start n.component) at_each)
  where
    row : Stamp → Row
    row s = row_of r r (end_of_instance moments object.zones s n.component r) n.number (kind_of ids) (kind_of s)

    at_each : (s : Stamp) → own_start n.component ≡ Some s → IfDated object (row s)
    at_each s own dated = record {
      component = n.component;
      stamp = s;
      found = is.found;
      own = own;
      kind = refl;
      end_near = end_of_instance-near moments object.zones s n.component r (longest object) near.offsets own is.timed is.small;
    }

-- the rows that the starts have, and the overrides' own, are rows of components
rows_by-of_components : (row : Stamp → List ℤ → ℤ → List Row) (moments : List ℕ) (object : Object) → HasNearRows object → ((ids : Stamp) (all : List ℤ) (r : ℤ) → All (IfDated object) (row ids all r)) → All (IfDated object) (rows_by row moments object)
rows_by-of_components row moments object near each =
    All-append (IfDated object) (undated_rows object) (flat_map (dated_rows row moments object) (option_to_list (ids_start object)))
    (All-map (IfDated object) undated_row (filter (λ (n : Numbered). is_none (own_start n.component)) (numbered object)) (All-everywhere (λ n. IfDated object (undated_row n)) (λ n dated. absurd cc) (filter (λ (n : Numbered). is_none (own_start n.component)) (numbered object))))
    (All-flat_map (IfDated object) (dated_rows row moments object) (option_to_list (ids_start object)) (All-everywhere (λ ids. All (IfDated object) (dated_rows row moments object ids)) dated (option_to_list (ids_start object))))
  where
    of_overrides : (ids : Stamp) (all : List ℤ) → All (IfDated object) (flat_map (override_row object ids all) (overrides object))
    of_overrides ids all =
        All-flat_map (IfDated object) (override_row object ids all) (overrides object)
        (All-filter has_id (λ n. All (IfDated object) (override_row object ids all n)) (numbered object)
        (All-weaker (IsKnown object) (λ n. All (IfDated object) (override_row object ids all n)) (λ n is. override_rows object ids all n near is) (numbered object) (known object near)))

    dated : (ids : Stamp) → All (IfDated object) (dated_rows row moments object ids)
    dated ids =
        All-in_order (IfDated object) (flat_map (override_row object ids (starts moments object)) (overrides object) ++ filter (λ (r : Row). not (is_named object ids r.id)) (flat_map (row ids (starts moments object)) (starts moments object)))
        (All-append (IfDated object) (flat_map (override_row object ids (starts moments object)) (overrides object)) (filter (λ (r : Row). not (is_named object ids r.id)) (flat_map (row ids (starts moments object)) (starts moments object))) (of_overrides ids (starts moments object))
        (All-filter (λ (r : Row). not (is_named object ids r.id)) (IfDated object) (flat_map (row ids (starts moments object)) (starts moments object))
        (All-flat_map (IfDated object) (row ids (starts moments object)) (starts moments object) (All-everywhere (λ r. All (IfDated object) (row ids (starts moments object) r)) (each ids (starts moments object)) (starts moments object)))))

of_masters : (moments : List ℕ) (object : Object) → HasNearRows object → (ids : Stamp) (r : ℤ) → All (IfDated object) (rows_of_start moments object ids r)
of_masters moments object near ids r =
    All-flat_map (IfDated object) (master_row moments object ids r) (masters object)
    (All-filter (λ n. not (has_id n)) (λ n. All (IfDated object) (master_row moments object ids r n)) (numbered object)
    (All-weaker (IsKnown object) (λ n. All (IfDated object) (master_row moments object ids r n)) (λ n is. master_rows moments object ids r n near is) (numbered object) (known object near)))

-- Starts that an override governs.

record IsGovernor (object : Object) (g : Governor) : Type 0 where
  own : own_start g.override.component ≡ Some g.start
  known : IsKnown object g.override

governors_known : (object : Object) (ids : Stamp) (all : List ℤ) → HasNearRows object → All (IsGovernor object) (governors object ids all)
governors_known object ids all near =
    All-governors (IsGovernor object) object ids all
    (All-filter has_id (λ n. moves_later n ≡ true → All (IsGovernor object) (governors_by object ids all n)) (numbered object)
    (All-weaker (IsKnown object) (λ n. moves_later n ≡ true → All (IsGovernor object) (governors_by object ids all n)) of_override (numbered object) (known object near)))
  where
    governor : Numbered → Stamp → Aligned → Governor
    governor n s x = record { id = id_of_override object ids all x; start = s; override = n }

    of_override : (n : Numbered) → IsKnown object n → moves_later n ≡ true → All (IsGovernor object) (governors_by object ids all n)
    of_override n is later =
        All-flat_map (IsGovernor object) (λ s. map (governor n s) (named_by object.zones ids n)) (option_to_list (own_start n.component))
        (All-option (λ s. All (IsGovernor object) (map (governor n s) (named_by object.zones ids n))) (own_start n.component)
        (λ s own. All-map (IsGovernor object) (governor n s) (named_by object.zones ids n) (All-everywhere (λ x. IsGovernor object (governor n s x)) (λ x. record { own = own; known = is }) (named_by object.zones ids n))))

moved : (object : Object) (ids : Stamp) (r : ℤ) (g : Governor) → HasNearRows object → IsGovernor object g → All (IfDated object) (moved_row object ids r g)
moved object ids r g near is = moved_row-holds (All (IfDated object)) object ids r g (All-nil (IfDated object)) (λ served. All-cons (IfDated object) (moved_to object ids r g) [] at_each (All-nil (IfDated object)))
  where
    start : ℤ
    start = (reading_of object.zones g.start).instant (moved_digits object.zones g r)

    at_each : IfDated object (moved_to object ids r g)
    at_each dated = let of_component = is.known in let own = is.own in record {
      component = g.override.component;
      stamp = g.start;
      found = of_component.found;
      own = own;
      kind = refl;
      end_near = rw own (wider (extent_length object.zones (Some g.start) g.override.component.extent) (longest object) _ _ (own_length object g.override g.start of_component own) (end_of_extent-near object.zones g.start g.override.component.extent start near.offsets));
    }

-- each dated row of an object is the row of a component that has a start
pub rows-of_components : (moments : List ℕ) (object : Object) → HasNearRows object → All (λ row. is_dated row ≡ true → IsRowOf object row) (rows_over moments object)
rows-of_components moments object near =
    rows_by-of_components (row_at moments object) moments object near
    (λ ids all r. row_at-holds (All (IfDated object)) moments object ids all r (of_masters moments object near ids r)
    (λ g governs. moved object ids r g near (All-contains (IsGovernor object) (governors object ids all) g (governors_known object ids all near) governs.among)))
