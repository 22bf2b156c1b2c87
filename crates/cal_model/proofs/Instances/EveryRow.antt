-- What holds of each row of an object: of the Undated ones, of those of the overrides, of the master's at its starts, and of the moved ones.
use Rattle.std.proofs.Common.{◌≡◌, ℕ, List, [], ◌∷◌, ◌++◌, map, true, ℤ}
use Rattle.std.specs.Prelude.{All, Contains, filter, flat_map, not, option_to_list, is_none}
use Rattle.std.proofs.lemmas.List.Elements.{All-nil, All-cons, All-append, All-map, All-filter}
use Rattle.cal_moment.specs.declared.stamp.Stamp.{Stamp}
use Rattle.cal_model.specs.declared.object.Object.{Object}
use Rattle.cal_model.specs.declared.row.Row.{Row}
use Rattle.cal_model.specs.Instances.Starts.{own_start}
use Rattle.cal_model.specs.Instances.Rows.{Numbered, numbered, masters, overrides, ids_start, is_named, Governor, moved_digits, are_served, undated_row, undated_rows, starts, master_row, row_at, override_row, dated_rows, rows_over}
use Rattle.cal_model.proofs.Words.AllLemmas.{All-everywhere, All-flat_map}
use Rattle.cal_model.proofs.Words.ListTests.{each_of}
use Rattle.cal_model.proofs.Instances.EachRowLemmas.{All-in_order}
use Rattle.cal_model.proofs.Instances.GovernedRows.{Governs, row_at-holds, moved_to, moved_row-holds}

-- the four sorts of rows of an object
pub record OfEach (P : Row → Type 0) (moments : List ℕ) (object : Object) : Type 0 where
  pub undated : (n : Numbered) → P (undated_row n)
  pub own : (ids : Stamp) (all : List ℤ) (n : Numbered) → Contains (overrides object) n → All P (override_row object ids all n)
  pub instance : (ids : Stamp) (r : ℤ) (n : Numbered) → Contains (starts moments object) r → Contains (masters object) n → All P (master_row moments object ids r n)
  pub moved : (ids : Stamp) (r : ℤ) (g : Governor) → Contains (starts moments object) r → Governs object ids (starts moments object) r g → are_served (moved_digits object.zones g r) ≡ true → P (moved_to object ids r g)

pub rows-hold : (P : Row → Type 0) (moments : List ℕ) (object : Object) → OfEach P moments object → All P (rows_over moments object)
rows-hold P moments object each =
    All-append P (undated_rows object) (flat_map (dated_rows (row_at moments object) moments object) (option_to_list (ids_start object)))
    (All-map P undated_row (filter (λ (n : Numbered). is_none (own_start n.component)) (numbered object)) (All-everywhere (λ n. P (undated_row n)) each.undated (filter (λ (n : Numbered). is_none (own_start n.component)) (numbered object))))
    (All-flat_map P (dated_rows (row_at moments object) moments object) (option_to_list (ids_start object)) (All-everywhere (λ ids. All P (dated_rows (row_at moments object) moments object ids)) dated (option_to_list (ids_start object))))
  where
    at_start : (ids : Stamp) (r : ℤ) → Contains (starts moments object) r → All P (row_at moments object ids (starts moments object) r)
    at_start ids r c =
        row_at-holds (All P) moments object ids (starts moments object) r
        (All-flat_map P (master_row moments object ids r) (masters object) (each_of (λ n. All P (master_row moments object ids r n)) (masters object) (λ n d. each.instance ids r n c d)))
        (λ g governs. moved_row-holds (All P) object ids r g (All-nil P) (λ served. All-cons P (moved_to object ids r g) [] (each.moved ids r g c governs served) (All-nil P)))

    dated : (ids : Stamp) → All P (dated_rows (row_at moments object) moments object ids)
    dated ids =
        All-in_order P (flat_map (override_row object ids (starts moments object)) (overrides object) ++ filter (λ (r : Row). not (is_named object ids r.id)) (flat_map (row_at moments object ids (starts moments object)) (starts moments object)))
        (All-append P (flat_map (override_row object ids (starts moments object)) (overrides object)) (filter (λ (r : Row). not (is_named object ids r.id)) (flat_map (row_at moments object ids (starts moments object)) (starts moments object)))
        (All-flat_map P (override_row object ids (starts moments object)) (overrides object) (each_of (λ n. All P (override_row object ids (starts moments object) n)) (overrides object) (λ n c. each.own ids (starts moments object) n c)))
        (All-filter (λ (r : Row). not (is_named object ids r.id)) P (flat_map (row_at moments object ids (starts moments object)) (starts moments object))
        (All-flat_map P (row_at moments object ids (starts moments object)) (starts moments object) (each_of (λ r. All P (row_at moments object ids (starts moments object) r)) (starts moments object) (at_start ids)))))
