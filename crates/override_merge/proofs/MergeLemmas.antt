-- The rows of overrides beside starts by their days are those of the definition, and so are the rows that no name in order names.
use Rattle.std.proofs.Common.{◌≡◌, ℕ, suc, ◌+◌, List, [], ◌∷◌, ◌++◌, length, map, refl, sym, ap, ◌∙◌, Bool, true, false, ℤ, inl, inr}
use Rattle.std.specs.Prelude.{filter, flat_map, is_some, not, option_to_list, Option, Some, None}
use Rattle.std.specs.List.{list_any}
use Rattle.std.proofs.lemmas.Bool.{cases_Bool}
use Rattle.std.proofs.lemmas.List.{append_assoc, append-nil}
use Rattle.std.proofs.lemmas.List.Elements.{filter-append}
use Rattle.cal_moment.specs.declared.stamp.Stamp.{Stamp}
use Rattle.cal_model.specs.declared.local_times.LocalTimes.{LocalTimes}
use Rattle.cal_model.specs.declared.object.Component.{Component}
use Rattle.cal_model.specs.declared.object.Object.{Object}
use Rattle.cal_model.specs.declared.row.Row.{Row}
use Rattle.cal_model.specs.declared.zone.ZoneTable.{ZoneTable}
use Rattle.cal_model.specs.Words.Integers.{same_int}
use Rattle.cal_model.specs.Words.Lists.{first_or_else}
use Rattle.cal_model.specs.Recurrence.RecurrenceSet.{Reading}
use Rattle.cal_model.specs.Instances.Alignment.{Aligned, at, on_day, align, reading_of, value_of, kind_of, midnight_of}
use Rattle.cal_model.specs.Instances.Rows.{numbered_from, has_id, overrides, own_start, end_from, row_of, id_of_override, override_row, is_named, ids_start, merged, merged_with}
use Rattle.override_merge.specs.declared.names.Names.{Names}
use Rattle.override_merge.specs.declared.rows.Part.{Part}
use Rattle.override_merge.specs.declared.rows.Part.TheVariants as part
use Rattle.override_merge.specs.Conversions.{tables_of}
use Rattle.override_merge.specs.DayStarts.{starts_on, days_of}
use Rattle.override_merge.specs.NamedStarts.{has_name, IsNamesOf, named_beside}
use Rattle.override_merge.specs.Parts.{id_by, own_row_by, own_rows_by, lies_in}
use Rattle.override_merge.proofs.NameLemmas.{has_name-is, is_named-names}

-- Lists.

pub filter_more : (p : Row → Bool) (done xs ys : List Row) → (done ++ filter p xs) ++ filter p ys ≡ done ++ filter p (xs ++ ys)
filter_more p done xs ys = append_assoc done (filter p xs) (filter p ys) ∙ ap (λ more. done ++ more) (sym (filter-append p xs ys))

pub filter_twice_more : (p q : Row → Bool) (done xs ys : List Row) → (done ++ filter p (filter q xs)) ++ filter p (filter q ys) ≡ done ++ filter p (filter q (xs ++ ys))
filter_twice_more p q done xs ys = filter_more p done (filter q xs) (filter q ys) ∙ ap (λ more. done ++ filter p more) (sym (filter-append q xs ys))

pub joined : (all first start own kept whole : List Row) → first ≡ start ++ own → all ≡ first ++ kept → start ≡ [] → own ++ kept ≡ whole → all ≡ whole
joined all first start own kept whole e f g h = rw (f, e, g) h

filter_same : (p q : Row → Bool) (xs : List Row) → ((x : Row) → p x ≡ q x) → filter p xs ≡ filter q xs
filter_same p q [] h = refl
filter_same p q (x ∷ xs) h = elim (cases_Bool (q x)) [
  | inl w ↦ (let v : p x ≡ true = h x ∙ w in rw (v, w) (ap (λ ys. x ∷ ys) (filter_same p q xs h)))
  | inr w ↦ (let v : p x ≡ false = h x ∙ w in rw (v, w) (filter_same p q xs h))
]

filter_all : (xs : List Row) → filter (λ x. true) xs ≡ xs
filter_all [] = refl
filter_all (x ∷ xs) = ap (λ ys. x ∷ ys) (filter_all xs)

tables_count : (zones : List LocalTimes) → length (tables_of zones) ≡ length zones
tables_count [] = refl
tables_count (z ∷ zs) = ap (λ n. suc n) (tables_count zs)

-- as many zones are at hand as there are tables
pub zones_count : (zones : List LocalTimes) (tables : List ZoneTable) → tables_of zones ≡ tables → length zones ≡ length tables
zones_count zones tables e = sym (tables_count zones) ∙ ap length e

-- Ids and rows of overrides.

on_day_starts : (reading : Reading) (midnight : ℤ) (rows : List Row) → starts_on midnight (days_of reading rows) ≡ filter (λ r. same_int midnight (midnight_of (reading.local r))) (map (λ (r : Row). r.id) rows)
on_day_starts reading midnight [] = refl
on_day_starts reading midnight (row ∷ rows) = elim (cases_Bool (same_int midnight (midnight_of (reading.local row.id)))) [
  | inl w ↦ rw w (ap (λ rs. row.id ∷ rs) (on_day_starts reading midnight rows))
  | inr w ↦ rw w (on_day_starts reading midnight rows)
]

module _ (object : Object) (ids : Stamp) (rows : List Row) (days : List (ℤ × ℤ)) (kept : (midnight : ℤ) → starts_on midnight days ≡ starts_on midnight (days_of (reading_of object.zones ids) rows)) where
  id_by-is : (x : Aligned) → id_by (reading_of object.zones ids) days x ≡ id_of_override object ids (map (λ (r : Row). r.id) rows) x
  id_by-is (at v) = refl
  id_by-is (on_day m) = ap (first_or_else ((reading_of object.zones ids).instant m)) (kept m ∙ on_day_starts (reading_of object.zones ids) m rows)

  of_stamps : (c : Component) (number : ℕ) (own id : Option Stamp) →
      flat_map (λ s. map (λ x. row_of (id_by (reading_of object.zones ids) days (align object.zones x ids)) (value_of object.zones s) (end_from object.zones c (value_of object.zones s)) number (kind_of ids) (kind_of s)) (option_to_list id)) (option_to_list own)
      ≡ flat_map (λ s. map (λ x. row_of (id_of_override object ids (map (λ (r : Row). r.id) rows) x) (value_of object.zones s) (end_from object.zones c (value_of object.zones s)) number (kind_of ids) (kind_of s)) (map (λ x. align object.zones x ids) (option_to_list id))) (option_to_list own)
  of_stamps c number None id = refl
  of_stamps c number (Some s) None = refl
  of_stamps c number (Some s) (Some x) =
      ap (λ i. row_of i (value_of object.zones s) (end_from object.zones c (value_of object.zones s)) number (kind_of ids) (kind_of s) ∷ []) (id_by-is (align object.zones x ids))

  own_row_by-is : (c : Component) (number : ℕ) → own_row_by object.zones ids days c number ≡ override_row object ids (map (λ (r : Row). r.id) rows) (record { number = number; component = c })
  own_row_by-is c number = of_stamps c number (own_start c) c.recurrence_id

  none_of_stamps : (c : Component) (number : ℕ) (own : Option Stamp) →
      flat_map (λ s. map (λ x. row_of (id_by (reading_of object.zones ids) days (align object.zones x ids)) (value_of object.zones s) (end_from object.zones c (value_of object.zones s)) number (kind_of ids) (kind_of s)) []) (option_to_list own) ≡ []
  none_of_stamps c number None = refl
  none_of_stamps c number (Some s) = refl

  one_more : (number : ℕ) (c : Component) (cs : List Component) (id : Option Stamp) → c.recurrence_id ≡ id →
      own_rows_by object.zones ids days (number + 1) cs ≡ flat_map (override_row object ids (map (λ (r : Row). r.id) rows)) (filter has_id (numbered_from (number + 1) cs)) →
      own_rows_by object.zones ids days number (c ∷ cs) ≡ flat_map (override_row object ids (map (λ (r : Row). r.id) rows)) (filter has_id (numbered_from number (c ∷ cs)))
  one_more number c cs None e rest =
      let here : own_row_by object.zones ids days c number ≡ [] = rw e (none_of_stamps c number (own_start c)) in
      rw (here, e) rest
  one_more number c cs (Some x) e rest =
      let here = own_row_by-is c number in
      let kept_one : filter has_id (numbered_from number (c ∷ cs)) ≡ record { number = number; component = c } ∷ filter has_id (numbered_from (number + 1) cs) = rw e refl in
      rw (here, kept_one, rest) refl

  own_rows_by-is : (number : ℕ) (cs : List Component) → own_rows_by object.zones ids days number cs ≡ flat_map (override_row object ids (map (λ (r : Row). r.id) rows)) (filter has_id (numbered_from number cs))
  own_rows_by-is number [] = refl
  own_rows_by-is number (c ∷ cs) = one_more number c cs c.recurrence_id refl (own_rows_by-is (number + 1) cs)

  pub merged_parts : (names : Names) (asked : Part) → IsNamesOf (named_beside object.zones ids object.components) names →
      filter (lies_in object asked) (own_rows_by object.zones ids days 0 object.components)
      ++ filter (lies_in object asked) (filter (λ (r : Row). not (has_name (reading_of object.zones ids) r.id names)) rows)
      ≡ filter (lies_in object asked) (flat_map (override_row object ids (map (λ (r : Row). r.id) rows)) (overrides object))
      ++ filter (lies_in object asked) (filter (λ (r : Row). not (is_named object ids r.id)) rows)
  merged_parts names asked is =
      ap (λ own. filter (lies_in object asked) own ++ filter (lies_in object asked) (filter (λ (r : Row). not (has_name (reading_of object.zones ids) r.id names)) rows)) (own_rows_by-is 0 object.components)
      ∙ ap (λ kept. filter (lies_in object asked) (flat_map (override_row object ids (map (λ (r : Row). r.id) rows)) (overrides object)) ++ filter (lies_in object asked) kept)
      (filter_same (λ (r : Row). not (has_name (reading_of object.zones ids) r.id names)) (λ (r : Row). not (is_named object ids r.id)) rows
      (λ r. ap not (has_name-is (reading_of object.zones ids) r.id (named_beside object.zones ids object.components) names is ∙ sym (is_named-names object ids r.id))))

-- Without overrides each row stays.

no_overrides : (number : ℕ) (cs : List Component) → list_any (λ (c : Component). is_some c.recurrence_id) cs ≡ false → filter has_id (numbered_from number cs) ≡ []
no_overrides number [] none = refl
no_overrides number (c ∷ cs) none = elim (cases_Bool (is_some c.recurrence_id)) [
  | inl w ↦ absurd (let e = rw w at none in cc)
  | inr w ↦ rw w (no_overrides (number + 1) cs (rw w at none))
]

pub merged_alone : (object : Object) (ids : Stamp) (rows : List Row) (asked : Part) → list_any (λ (c : Component). is_some c.recurrence_id) object.components ≡ false →
    filter (lies_in object asked) rows
    ≡ filter (lies_in object asked) (flat_map (override_row object ids (map (λ (r : Row). r.id) rows)) (overrides object))
    ++ filter (lies_in object asked) (filter (λ (r : Row). not (is_named object ids r.id)) rows)
merged_alone object ids rows asked none = let alone : overrides object ≡ [] = no_overrides 0 object.components none in rw (alone, filter_all rows) refl

-- All rows are asked for.
pub merged_all : (object : Object) (ids : Stamp) (own kept : List Row) → filter (lies_in object part.All) own ++ filter (lies_in object part.All) kept ≡ own ++ kept
merged_all object ids own kept = rw (filter_all own, filter_all kept) refl

pub merged_with-ids : (object : Object) (ids : Stamp) (rows : List Row) → Some ids ≡ ids_start object → merged object ids (map (λ (r : Row). r.id) rows) rows ≡ merged_with object rows
merged_with-ids object ids rows e = let is = sym e in rw is (sym (append-nil (merged object ids (map (λ (r : Row). r.id) rows) rows)))
