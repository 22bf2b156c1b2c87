-- A merge over a part of the instances gives the rows of a window, if the part has the instances of the window and those on the days that overrides name.
use Rattle.std.proofs.Common.{◌≡◌, List, [], ◌∷◌, ◌++◌, refl, ap, sym, ◌∙◌, Bool, true, inl, inr, ℤ}
use Rattle.std.specs.Prelude.{All, AllPairs, filter, map, flat_map, not}
use Rattle.std.proofs.lemmas.Bool.{cases_Bool}
use Rattle.std.proofs.lemmas.List.Elements.{All-weaker, filter-append}
use Rattle.cal_moment.specs.declared.stamp.Stamp.{Stamp}
use Rattle.cal_model.specs.declared.object.Object.{Object}
use Rattle.cal_model.specs.declared.row.Row.{Row}
use Rattle.cal_model.specs.Words.Lists.{first_or_else}
use Rattle.cal_model.specs.Instances.Alignment.{Aligned, at, on_day, reading_of, names_start}
use Rattle.cal_model.specs.Instances.Rows.{Numbered, overrides, named_by, is_named, id_of_override, override_row, in_order, merged, lies_in_window}
use Rattle.cal_model.proofs.Instances.RisingLists.{HasOtherKey}
use Rattle.cal_model.proofs.Instances.RowsInOrder.{GiveSameId, same_own_rows, filter-in_order}

-- each row on a named day is in the part
abbrev pub HasDay : Object → Stamp → (Row → Bool) → Aligned → Type 0
HasDay object ids q (at v) = true ≡ true
HasDay object ids q (on_day m) = (r : Row) → names_start (reading_of object.zones ids) r.id (on_day m) ≡ true → q r ≡ true

same_days : (n : ℤ → Bool) (q : Row → Bool) (rows : List Row) → ((r : Row) → n r.id ≡ true → q r ≡ true) →
    filter n (map (λ (r : Row). r.id) (filter q rows)) ≡ filter n (map (λ (r : Row). r.id) rows)
same_days n q [] h = refl
same_days n q (r ∷ rs) h = elim (cases_Bool (q r)) [
  | inl w ↦ elim (cases_Bool (n r.id)) [
    | inl v ↦ rw (w, v) (ap (λ xs. r.id ∷ xs) (same_days n q rs h))
    | inr v ↦ rw (w, v) (same_days n q rs h)
  ]
  | inr w ↦ elim (cases_Bool (n r.id)) [
    | inl v ↦ absurd (let yes = h r v in cc)
    | inr v ↦ rw (w, v) (same_days n q rs h)
  ]
]

same_id : (object : Object) (ids : Stamp) (q : Row → Bool) (rows : List Row) (x : Aligned) → HasDay object ids q x →
    id_of_override object ids (map (λ (r : Row). r.id) (filter q rows)) x ≡ id_of_override object ids (map (λ (r : Row). r.id) rows) x
same_id object ids q rows (at v) h = refl
same_id object ids q rows (on_day m) h =
    ap (first_or_else ((reading_of object.zones ids).instant m)) (same_days (λ r. names_start (reading_of object.zones ids) r (on_day m)) q rows h)

within : {X : Type 0} (p n q : X → Bool) → ((x : X) → p x ≡ true → q x ≡ true) → (xs : List X) → filter p (filter n (filter q xs)) ≡ filter p (filter n xs)
within p n q h [] = refl
within p n q h (x ∷ xs) = elim (cases_Bool (q x)) [
  | inl w ↦ elim (cases_Bool (n x)) [
    | inl v ↦ elim (cases_Bool (p x)) [
      | inl u ↦ rw (w, v, u) (ap (λ rest. x ∷ rest) (within p n q h xs))
      | inr u ↦ rw (w, v, u) (within p n q h xs)
    ]
    | inr v ↦ rw (w, v) (within p n q h xs)
  ]
  | inr w ↦ elim (cases_Bool (n x)) [
    | inl v ↦ elim (cases_Bool (p x)) [
      | inl u ↦ absurd (let yes = h x u in cc)
      | inr u ↦ rw (w, v, u) (within p n q h xs)
    ]
    | inr v ↦ rw (w, v) (within p n q h xs)
  ]
]

-- what is put in order: the overrides' rows, and the instances that no override names
abbrev pub to_merge : Object → Stamp → List Row → List Row
to_merge object ids rows = flat_map (override_row object ids (map (λ (r : Row). r.id) rows)) (overrides object) ++ filter (λ (r : Row). not (is_named object ids r.id)) rows

pub merged-part : (object : Object) (ids : Stamp) (window : ℤ) (q : Row → Bool) (rows : List Row) →
    ((r : Row) → lies_in_window object window r ≡ true → q r ≡ true) →
    All (λ n. All (HasDay object ids q) (named_by object.zones ids n)) (overrides object) →
    AllPairs HasOtherKey (to_merge object ids rows) → AllPairs HasOtherKey (to_merge object ids (filter q rows)) →
    filter (lies_in_window object window) (merged object ids (map (λ (r : Row). r.id) (filter q rows)) (filter q rows))
    ≡ filter (lies_in_window object window) (merged object ids (map (λ (r : Row). r.id) rows) rows)
merged-part object ids window q rows inside days apart apart_part =
    let own_same : flat_map (override_row object ids (map (λ (r : Row). r.id) (filter q rows))) (overrides object) ≡ flat_map (override_row object ids (map (λ (r : Row). r.id) rows)) (overrides object) =
    same_own_rows object ids (map (λ (r : Row). r.id) (filter q rows)) (map (λ (r : Row). r.id) rows)
    (All-weaker (λ n. All (HasDay object ids q) (named_by object.zones ids n)) (GiveSameId object ids (map (λ (r : Row). r.id) (filter q rows)) (map (λ (r : Row). r.id) rows))
    (λ n h. All-weaker (HasDay object ids q) (λ x. id_of_override object ids (map (λ (r : Row). r.id) (filter q rows)) x ≡ id_of_override object ids (map (λ (r : Row). r.id) rows) x) (same_id object ids q rows) (named_by object.zones ids n) h) (overrides object) days) in
    let unnamed : Row → Bool = λ r. not (is_named object ids r.id) in
    filter-in_order (lies_in_window object window) (to_merge object ids (filter q rows)) apart_part
    ∙ ap in_order
    (ap (λ own. filter (lies_in_window object window) (own ++ filter unnamed (filter q rows))) own_same
    ∙ filter-append (lies_in_window object window) (flat_map (override_row object ids (map (λ (r : Row). r.id) rows)) (overrides object)) (filter unnamed (filter q rows))
    ∙ ap (λ kept. filter (lies_in_window object window) (flat_map (override_row object ids (map (λ (r : Row). r.id) rows)) (overrides object)) ++ kept) (within (lies_in_window object window) unnamed q inside rows)
    ∙ sym (filter-append (lies_in_window object window) (flat_map (override_row object ids (map (λ (r : Row). r.id) rows)) (overrides object)) (filter unnamed rows)))
    ∙ sym (filter-in_order (lies_in_window object window) (to_merge object ids rows) apart)
