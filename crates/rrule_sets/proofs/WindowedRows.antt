-- The rows of a window need the starts in some range alone: those in the window, and those on the days that overrides in the window name.
use Rattle.std.proofs.Common.{◌≡◌, ℕ, ◌≤◌, List, [], ◌∷◌, ◌++◌, map, length, refl, sym, ap, ap₂, ◌∙◌, arith, Bool, true, false, ℤ, inl, inr}
use Rattle.std.specs.Prelude.{All, Contains, filter, flat_map, not, option_to_list, Option, Some, None}
use Rattle.std.proofs.lemmas.Bool.{cases_Bool}
use Rattle.std.proofs.lemmas.List.{append-nil}
use Rattle.std.proofs.lemmas.List.Elements.{All-head, All-tail, filter-append}
use Rattle.cal_moment.specs.declared.stamp.Stamp.{Stamp}
use Rattle.cal_model.specs.declared.object.Object.{Object}
use Rattle.cal_model.specs.declared.row.Row.{Row}
use Rattle.cal_model.specs.Words.Lists.{first_or_else}
use Rattle.cal_model.specs.Instances.Alignment.{Aligned, at, on_day, reading_of, value_of, kind_of, names_start}
use Rattle.cal_model.specs.Instances.Starts.{own_start, end_from}
use Rattle.cal_model.specs.Instances.Rows.{Numbered, overrides, masters, ids_start, named_by, is_named, id_of_override, row_of, starts, row_at, override_row, override_row_from, in_order, lies_in_window, rows_in_over}
use Rattle.cal_model.proofs.Instances.RisingLists.{Contains-there}
use Rattle.cal_model.proofs.Instances.RowsInOrder.{flat_map_same, kept_instances, rows_in-parts}
use Rattle.cal_model.proofs.Instances.KeptStarts.{GoverningsAgree, row_at-same}
use Rattle.cal_model.proofs.Words.AllLemmas.{All-everywhere}
use Rattle.rrule_sets.proofs.NearRowLemmas.{filter_swap}

-- Filters.

pub filter_within : {X : Type 0} (p q : X → Bool) → (xs : List X) → ((x : X) → Contains xs x → q x ≡ true → p x ≡ true) → filter q (filter p xs) ≡ filter q xs
filter_within p q [] h = refl
filter_within p q (x ∷ xs) h = elim (cases_Bool (p x)) [
  | inl w ↦ elim (cases_Bool (q x)) [
    | inl v ↦ rw (w, v) (ap (λ rest. x ∷ rest) (filter_within p q xs (λ y c. h y (Contains-there x y xs c))))
    | inr v ↦ rw (w, v) (filter_within p q xs (λ y c. h y (Contains-there x y xs c)))
  ]
  | inr w ↦ elim (cases_Bool (q x)) [
    | inl v ↦ absurd (let holds = h x (0, omega arith, refl) v in cc)
    | inr v ↦ rw (w, v) (filter_within p q xs (λ y c. h y (Contains-there x y xs c)))
  ]
]

-- what a list has none of may be left out before it is mapped
filter_flat_map : {X Y : Type 0} (p : Y → Bool) (keep : X → Bool) (f : X → List Y) → ((x : X) → keep x ≡ false → filter p (f x) ≡ []) → (xs : List X) → filter p (flat_map f xs) ≡ filter p (flat_map f (filter keep xs))
filter_flat_map p keep f none [] = refl
filter_flat_map p keep f none (x ∷ xs) = elim (cases_Bool (keep x)) [
  | inl w ↦ rw (w, filter-append p (f x) (flat_map f xs), filter-append p (f x) (flat_map f (filter keep xs))) (ap (λ rest. filter p (f x) ++ rest) (filter_flat_map p keep f none xs))
  | inr w ↦ rw (w, filter-append p (f x) (flat_map f xs), none x w) (filter_flat_map p keep f none xs)
]

module _ (moments : List ℕ) (object : Object) (ids : Stamp) (window : ℤ) (keep : ℤ → Bool) where
  abbrev lies : Row → Bool
  lies = lies_in_window object window

  abbrev pub kept_starts : List ℤ
  kept_starts = filter keep (starts moments object)

  -- a start that lies in the window is kept
  abbrev pub KeepsWindow : Type 0
  KeepsWindow = (r : ℤ) → keep r ≡ false → filter lies (row_at moments object ids (starts moments object) r) ≡ []

  -- and one on a day that an override names whose own row lies there
  abbrev pub KeepsNamedBy : Numbered → Type 0
  KeepsNamedBy n =
      (s : Stamp) (midnight r : ℤ) → own_start n.component ≡ Some s → Contains (starts moments object) r → lies (row_of r (value_of object.zones s) (end_from object.zones n.component (value_of object.zones s)) n.number (kind_of ids) (kind_of s)) ≡ true →
      All (λ x. x ≡ on_day midnight → names_start (reading_of object.zones ids) r (on_day midnight) ≡ true → keep r ≡ true) (named_by object.zones ids n)

  abbrev pub KeepsNamed : Type 0
  KeepsNamed = All KeepsNamedBy (overrides object)

  -- the id of such an override
  same_id : (x : Aligned) → ((midnight r : ℤ) → Contains (starts moments object) r → x ≡ on_day midnight → names_start (reading_of object.zones ids) r (on_day midnight) ≡ true → keep r ≡ true) →
      id_of_override object ids (starts moments object) x ≡ id_of_override object ids kept_starts x
  same_id (at v) h = refl
  same_id (on_day midnight) h =
      ap (first_or_else ((reading_of object.zones ids).instant midnight)) (sym (filter_within keep (λ r. names_start (reading_of object.zones ids) r (on_day midnight)) (starts moments object) (λ r c named. h midnight r c refl named)))

  -- whether a row lies in a window doesn't depend on its id
  module _ (n : Numbered) (s : Stamp) where
    abbrev made : List ℤ → Aligned → Row
    made all x = row_of (id_of_override object ids all x) (value_of object.zones s) (end_from object.zones n.component (value_of object.zones s)) n.number (kind_of ids) (kind_of s)

    rows_by : (xs : List Aligned) → ((midnight r : ℤ) → Contains (starts moments object) r → lies (row_of r (value_of object.zones s) (end_from object.zones n.component (value_of object.zones s)) n.number (kind_of ids) (kind_of s)) ≡ true → All (λ x. x ≡ on_day midnight → names_start (reading_of object.zones ids) r (on_day midnight) ≡ true → keep r ≡ true) xs) →
        filter lies (map (made (starts moments object)) xs) ≡ filter lies (map (made kept_starts) xs)
    rows_by [] h = refl
    rows_by (x ∷ xs) h =
        let rest = rows_by xs (λ midnight r c w. All-tail (λ x. x ≡ on_day midnight → names_start (reading_of object.zones ids) r (on_day midnight) ≡ true → keep r ≡ true) x xs (h midnight r c w)) in
        elim (cases_Bool (lies (made (starts moments object) x))) [
          | inl w ↦ (let same = same_id x (λ midnight r c e there. All-head (λ x. x ≡ on_day midnight → names_start (reading_of object.zones ids) r (on_day midnight) ≡ true → keep r ≡ true) x xs (h midnight r c w) e there) in
              rw w (ap₂ (λ id tail. row_of id (value_of object.zones s) (end_from object.zones n.component (value_of object.zones s)) n.number (kind_of ids) (kind_of s) ∷ tail) same rest))
          | inr w ↦ rw w rest
        ]

  own_rows_of : (n : Numbered) → KeepsNamedBy n → (own : Option Stamp) → own_start n.component ≡ own →
      filter lies (flat_map (λ s. override_row_from object ids (starts moments object) n s (value_of object.zones s)) (option_to_list own)) ≡ filter lies (flat_map (λ s. override_row_from object ids kept_starts n s (value_of object.zones s)) (option_to_list own))
  own_rows_of n named None e = refl
  own_rows_of n named (Some s) e =
      rw (append-nil (override_row_from object ids (starts moments object) n s (value_of object.zones s)), append-nil (override_row_from object ids kept_starts n s (value_of object.zones s)))
      (rows_by n s (named_by object.zones ids n) (λ midnight r c w. named s midnight r e c w))

  own_rows_from : (ns : List Numbered) → All KeepsNamedBy ns → filter lies (flat_map (override_row object ids (starts moments object)) ns) ≡ filter lies (flat_map (override_row object ids kept_starts) ns)
  own_rows_from [] named = refl
  own_rows_from (n ∷ ns) named =
      rw (filter-append lies (override_row object ids (starts moments object) n) (flat_map (override_row object ids (starts moments object)) ns), filter-append lies (override_row object ids kept_starts n) (flat_map (override_row object ids kept_starts) ns))
      (ap₂ (λ xs ys. xs ++ ys) (own_rows_of n (All-head KeepsNamedBy n ns named) (own_start n.component) refl) (own_rows_from ns (All-tail KeepsNamedBy n ns named)))

  -- the starts that are kept tell which overrides govern
  abbrev pub KeepsGoverning : Type 0
  KeepsGoverning = GoverningsAgree object ids (starts moments object) kept_starts

  -- The rows of a window are made of the starts that are kept.
  pub rows_in-kept : KeepsWindow → KeepsNamed → KeepsGoverning → ids_start object ≡ Some ids → length (masters object) ≤ 1 →
      rows_in_over moments object window ≡
      in_order (filter lies (flat_map (override_row object ids kept_starts) (overrides object))
      ++ filter lies (filter (λ (r : Row). not (is_named object ids r.id)) (flat_map (row_at moments object ids kept_starts) kept_starts)))
  rows_in-kept within named governing start one =
      rows_in-parts moments object ids window start one
      ∙ ap in_order (ap₂ (λ xs ys. xs ++ ys) (own_rows_from (overrides object) named) kept)
    where
      all_rows : List Row
      all_rows = flat_map (row_at moments object ids (starts moments object)) (starts moments object)

      kept : filter lies (kept_instances moments object ids) ≡ filter lies (filter (λ (r : Row). not (is_named object ids r.id)) (flat_map (row_at moments object ids kept_starts) kept_starts))
      kept =
          filter_swap lies (λ (r : Row). not (is_named object ids r.id)) (flat_map (row_at moments object ids (starts moments object)) (starts moments object))
          ∙ (ap (filter (λ (r : Row). not (is_named object ids r.id))) (filter_flat_map lies keep (row_at moments object ids (starts moments object)) within (starts moments object))
          ∙ (filter_swap (λ (r : Row). not (is_named object ids r.id)) lies (flat_map (row_at moments object ids (starts moments object)) kept_starts)
          ∙ ap (λ rows. filter lies (filter (λ (r : Row). not (is_named object ids r.id)) rows))
          (flat_map_same (row_at moments object ids (starts moments object)) (row_at moments object ids kept_starts) kept_starts
          (All-everywhere (λ r. row_at moments object ids (starts moments object) r ≡ row_at moments object ids kept_starts r) (λ r. row_at-same moments object ids (starts moments object) kept_starts r governing) kept_starts))))
