-- How many rows an object has: one for each component that has a row of itself, and one for each start of its master that no override names.
use Rattle.std.proofs.Common.{◌≡◌, ℕ, suc, ◌+◌, ◌≤◌, List, [], ◌∷◌, ◌++◌, length, map, refl, sym, ap, ap₂, ◌∙◌, arith, Bool, true, false, ℤ, pos, inl, inr, length-append}
use Rattle.std.specs.Prelude.{All, int_lt, count_by, filter, filter_map, flat_map, not, ◌||◌, is_none, is_some, option_to_list, Option, Some, None, if◌then◌else◌}
use Rattle.std.specs.List.{list_any}
use Rattle.std.proofs.lemmas.Bool.{cases_Bool}
use Rattle.std.proofs.lemmas.List.{append-nil}
use Rattle.std.proofs.lemmas.List.Elements.{All-head, All-tail, All-weaker, filter-append, filter_agree}
use Rattle.cal_moment.specs.declared.stamp.Stamp.{Stamp}
use Rattle.cal_moment.specs.declared.stamp.Stamp.TheVariants.{Utc}
use Rattle.cal_model.specs.declared.object.Component.{Component}
use Rattle.cal_model.specs.declared.object.Object.{Object}
use Rattle.cal_model.specs.declared.row.Row.{Row}
use Rattle.cal_model.specs.Instances.Alignment.{align, kind_of, names_start, reading_of, value_of}
use Rattle.cal_model.specs.Instances.Starts.{end_from, own_start, starts_from, starts_of}
use Rattle.cal_model.specs.Instances.Rows.{Governor, Numbered, are_served, comes_before, dated_rows, first_of, governed_row, governors, greatest_id, has_id, id_of_override, ids_start, in_order, is_named, master_rows, master_stamp, masters, moved_digits, numbered_from, override_row, override_row_from, overrides, put_row, row_at, row_of, rows, starts, undated_row, undated_rows}
use Rattle.cal_model.specs.Recurrence.RecurrenceSet.{every_moment}
use Rattle.cal_model.proofs.Instances.RowsInOrder.{HasOneRow, master_has}
use Rattle.cal_model.proofs.Recurrence.Periods.{count_one, count_zero}
use Rattle.override_merge.specs.NamedStarts.{named_beside}
use Rattle.override_merge.proofs.NameLemmas.{is_named-names}
use Rattle.rrule_sets.specs.CountedRows.{has_own_row, is_moved_out, master_starts, moves_out, starts_of_master, unnamed_starts}
use Rattle.rrule_sets.proofs.SeveralLemmas.{each_has_id, filter-all}
use Rattle.rrule_sets.proofs.WindowLemmas.{filter-none, ids_first, ids_own}

-- Order keeps how many there are.

length_put : (row : Row) (xs : List Row) → length (put_row row xs) ≡ suc (length xs)
length_put row [] = refl
length_put row (x ∷ xs) = elim (cases_Bool (comes_before row x)) [
  | inl w ↦ rw w refl
  | inr w ↦ rw w (ap (λ n. suc n) (length_put row xs))
]

length_ordered : (xs : List Row) → length (in_order xs) ≡ length xs
length_ordered [] = refl
length_ordered (x ∷ xs) = length_put x (in_order xs) ∙ ap (λ n. suc n) (length_ordered xs)

-- Components with a row of themselves.

module _ (object : Object) (ids : Stamp) (all : List ℤ) where
  abbrev undated_from : ℕ → List Component → List Row
  undated_from k cs = map undated_row (filter (λ (n : Numbered). is_none (own_start n.component)) (numbered_from k cs))

  abbrev overrides_from : ℕ → List Component → List Row
  overrides_from k cs = flat_map (override_row object ids all) (filter has_id (numbered_from k cs))

  one_row : (n : Numbered) (s : Stamp) (x : Stamp) → own_start n.component ≡ Some s → n.component.recurrence_id ≡ Some x → length (override_row object ids all n) ≡ 1
  one_row n s x e f =
      let made : Stamp → List Stamp → List Row = λ t xs. map (λ a. row_of (id_of_override object ids all a) (value_of object.zones t) (end_from object.zones n.component (value_of object.zones t)) n.number (kind_of ids) (kind_of t)) (map (λ y. align object.zones y ids) xs) in
      ap (λ (own : Option Stamp). length (flat_map (λ t. made t (option_to_list n.component.recurrence_id)) (option_to_list own))) e
      ∙ ap (λ (id : Option Stamp). length (made s (option_to_list id) ++ [])) f

  no_row : (n : Numbered) → own_start n.component ≡ None → length (override_row object ids all n) ≡ 0
  no_row n e = ap (λ (own : Option Stamp). length (flat_map (λ s. override_row_from object ids all n s (value_of object.zones s)) (option_to_list own))) e

  undated_one : (k : ℕ) (c : Component) (cs : List Component) (b : Bool) → is_none (own_start c) ≡ b → length (undated_from k (c ∷ cs)) ≡ (if b then 1 else 0) + length (undated_from (k + 1) cs)
  undated_one k c cs true e = rw e (omega arith)
  undated_one k c cs false e = rw e (omega arith)

  override_one : (k : ℕ) (c : Component) (cs : List Component) (b : Bool) → is_some c.recurrence_id ≡ b → length (overrides_from k (c ∷ cs)) ≡ (if b then length (override_row object ids all (record { number = k; component = c })) else 0) + length (overrides_from (k + 1) cs)
  override_one k c cs true e = rw e (length-append (override_row object ids all (record { number = k; component = c })) (overrides_from (k + 1) cs))
  override_one k c cs false e = rw e (omega arith)

  count_first : (k : ℕ) (c : Component) (cs : List Component) (own id : Option Stamp) → own_start c ≡ own → c.recurrence_id ≡ id →
      length (undated_from (k + 1) cs) + length (overrides_from (k + 1) cs) ≡ count_by has_own_row cs → length (undated_from k (c ∷ cs)) + length (overrides_from k (c ∷ cs)) ≡ count_by has_own_row (c ∷ cs)
  count_first k c cs None None e f rest =
      let a = undated_one k c cs true (ap (λ (o : Option Stamp). is_none o) e) in
      let b = override_one k c cs false (ap (λ (o : Option Stamp). is_some o) f) in
      let d = count_one has_own_row c cs (ap₂ (λ (o i : Option Stamp). is_none o || is_some i) e f) in
      omega (arith, rest, a, b, d)
  count_first k c cs None (Some x) e f rest =
      let a = undated_one k c cs true (ap (λ (o : Option Stamp). is_none o) e) in
      let b = override_one k c cs true (ap (λ (o : Option Stamp). is_some o) f) in
      let none = no_row (record { number = k; component = c }) e in
      let d = count_one has_own_row c cs (ap₂ (λ (o i : Option Stamp). is_none o || is_some i) e f) in
      omega (arith, rest, a, b, none, d)
  count_first k c cs (Some s) None e f rest =
      let a = undated_one k c cs false (ap (λ (o : Option Stamp). is_none o) e) in
      let b = override_one k c cs false (ap (λ (o : Option Stamp). is_some o) f) in
      let d = count_zero has_own_row c cs (ap₂ (λ (o i : Option Stamp). is_none o || is_some i) e f) in
      omega (arith, rest, a, b, d)
  count_first k c cs (Some s) (Some x) e f rest =
      let a = undated_one k c cs false (ap (λ (o : Option Stamp). is_none o) e) in
      let b = override_one k c cs true (ap (λ (o : Option Stamp). is_some o) f) in
      let one = one_row (record { number = k; component = c }) s x e f in
      let d = count_one has_own_row c cs (ap₂ (λ (o i : Option Stamp). is_none o || is_some i) e f) in
      omega (arith, rest, a, b, one, d)

  count_own : (k : ℕ) (cs : List Component) → length (undated_from k cs) + length (overrides_from k cs) ≡ count_by has_own_row cs
  count_own k [] = refl
  count_own k (c ∷ cs) = count_first k c cs (own_start c) c.recurrence_id refl refl (count_own (k + 1) cs)

-- Rows of starts.

module _ (object : Object) (ids : Stamp) where
  abbrev unnamed : ℤ → Bool
  unnamed r = not (is_named object ids r)

  abbrev stays : ℤ → Bool
  stays r = not (is_moved_out object ids r)

  abbrev rows_at : ℤ → List Row
  rows_at = row_at every_moment object ids (starts every_moment object)

  governed_one : (r : ℤ) → HasOneRow every_moment object ids r → (gs : List Governor) → length (governed_row every_moment object ids r gs) ≡ (if not (moves_out object r gs) then 1 else 0)
  governed_one r has [] = ap length has.is
  governed_one r has (g ∷ gs) = elim (cases_Bool (are_served (moved_digits object.zones (greatest_id g gs) r))) [
    | inl w ↦ rw w refl
    | inr w ↦ rw w refl
  ]

  unnamed_one : (r : ℤ) → HasOneRow every_moment object ids r → is_named object ids r ≡ false → length (rows_at r) ≡ (if stays r then 1 else 0)
  unnamed_one r has w =
      ap (λ (b : Bool). length (if b then master_rows every_moment object ids r else governed_row every_moment object ids r its)) w ∙ governed_one r has its
    where
      its : List Governor
      its = filter (λ (g : Governor). int_lt g.id r) (governors object ids (starts every_moment object))

  count_rows : (rs : List ℤ) → All (HasOneRow every_moment object ids) rs → length (filter (λ (a : Row). unnamed a.id) (flat_map rows_at rs)) ≡ length (filter stays (filter unnamed rs))
  count_rows [] has = refl
  count_rows (r ∷ rs) has =
      let rest = count_rows rs (All-tail (HasOneRow every_moment object ids) r rs has) in
      let keyed = each_has_id object ids (starts every_moment object) r in
      let parts = ap length (filter-append (λ (a : Row). unnamed a.id) (rows_at r) (flat_map rows_at rs)) ∙ length-append (filter (λ (a : Row). unnamed a.id) (rows_at r)) (filter (λ (a : Row). unnamed a.id) (flat_map rows_at rs)) in
      elim (cases_Bool (is_named object ids r)) [
        | inl w ↦ (let none : length (filter (λ (a : Row). unnamed a.id) (rows_at r)) ≡ 0 =
            ap length (filter-none (λ (a : Row). unnamed a.id) (rows_at r) (All-weaker (λ (a : Row). a.id ≡ r) (λ (a : Row). unnamed a.id ≡ false) (λ a e. ap unnamed e ∙ ap not w) (rows_at r) keyed)) in
            let behind : length (filter stays (filter unnamed (r ∷ rs))) ≡ length (filter stays (filter unnamed rs)) = ap (λ (b : Bool). length (filter stays (if not b then r ∷ filter unnamed rs else filter unnamed rs))) w in
            omega (arith, parts, none, rest, behind))
        | inr w ↦ (let all : length (filter (λ (a : Row). unnamed a.id) (rows_at r)) ≡ length (rows_at r) =
            ap length (filter-all (λ (a : Row). unnamed a.id) (rows_at r) (All-weaker (λ (a : Row). a.id ≡ r) (λ (a : Row). unnamed a.id ≡ true) (λ a e. ap unnamed e ∙ ap not w) (rows_at r) keyed)) in
            let one = unnamed_one r (All-head (HasOneRow every_moment object ids) r rs has) w in
            let kept : length (filter stays (filter unnamed (r ∷ rs))) ≡ length (filter stays (r ∷ filter unnamed rs)) = ap (λ (b : Bool). length (filter stays (if not b then r ∷ filter unnamed rs else filter unnamed rs))) w in
            let behind = count_first_of r (filter unnamed rs) in
            omega (arith, parts, all, one, rest, kept, behind))
      ]
    where
      count_first_of : (r : ℤ) (qs : List ℤ) → length (filter stays (r ∷ qs)) ≡ (if stays r then 1 else 0) + length (filter stays qs)
      count_first_of r qs = elim (cases_Bool (stays r)) [
        | inl w ↦ rw w (omega arith)
        | inr w ↦ rw w (omega arith)
      ]

  -- The starts of the master that are left.

  abbrev starts_by : List Numbered → List ℤ
  starts_by ns = flat_map (λ (n : Numbered). starts_of every_moment object.zones n.component) ns

  of_start : (n : Numbered) (s : Stamp) → own_start n.component ≡ Some s → ids ≡ s → filter stays (filter unnamed (starts_by (n ∷ []))) ≡ starts_of_master object n ++ []
  of_start n s e same =
      let all : starts_by (n ∷ []) ≡ starts_of every_moment object.zones n.component = append-nil (starts_of every_moment object.zones n.component) in
      let tests : filter unnamed (starts_of every_moment object.zones n.component) ≡ filter (λ r. not (list_any (names_start (reading_of object.zones ids) r) (named_beside object.zones ids object.components))) (starts_of every_moment object.zones n.component) =
      filter_agree unnamed (λ r. not (list_any (names_start (reading_of object.zones ids) r) (named_beside object.zones ids object.components))) (λ r. ap not (is_named-names object ids r)) (starts_of every_moment object.zones n.component) in
      let its : filter stays (filter (λ r. not (list_any (names_start (reading_of object.zones ids) r) (named_beside object.zones ids object.components))) (starts_of every_moment object.zones n.component)) ≡ filter (λ r. not (is_moved_out object s r)) (unnamed_starts object.zones s n.component object.components) =
      ap (λ (t : Stamp). filter (λ r. not (is_moved_out object t r)) (unnamed_starts object.zones t n.component object.components)) same in
      let whole : starts_of_master object n ++ [] ≡ filter (λ r. not (is_moved_out object s r)) (unnamed_starts object.zones s n.component object.components) =
      append-nil (starts_of_master object n) ∙ (ap (λ (own : Option Stamp). flat_map (λ t. filter (λ r. not (is_moved_out object t r)) (unnamed_starts object.zones t n.component object.components)) (option_to_list own)) e ∙ append-nil (filter (λ r. not (is_moved_out object s r)) (unnamed_starts object.zones s n.component object.components))) in
      ap (filter stays) (ap (filter unnamed) all ∙ tests) ∙ (its ∙ sym whole)

  of_none : (n : Numbered) → own_start n.component ≡ None → filter stays (filter unnamed (starts_by (n ∷ []))) ≡ starts_of_master object n ++ []
  of_none n e =
      let none : starts_by (n ∷ []) ≡ [] = ap (λ (own : Option Stamp). starts_from every_moment object.zones n.component own ++ []) e in
      let whole : starts_of_master object n ++ [] ≡ [] = append-nil (starts_of_master object n) ∙ ap (λ (own : Option Stamp). flat_map (λ t. filter (λ r. not (is_moved_out object t r)) (unnamed_starts object.zones t n.component object.components)) (option_to_list own)) e in
      ap (λ rs. filter stays (filter unnamed rs)) none ∙ sym whole

  by_own : (n : Numbered) (own : Option Stamp) → own_start n.component ≡ own → ((s : Stamp) → own ≡ Some s → ids ≡ s) → filter stays (filter unnamed (starts_by (n ∷ []))) ≡ starts_of_master object n ++ []
  by_own n None e same = of_none n e
  by_own n (Some s) e same = of_start n s e (same s refl)

  by_masters : (ns : List Numbered) → length ns ≤ 1 → ((n : Numbered) (rest : List Numbered) (s : Stamp) → ns ≡ n ∷ rest → own_start n.component ≡ Some s → ids ≡ s) → filter stays (filter unnamed (starts_by ns)) ≡ flat_map (starts_of_master object) ns
  by_masters [] one same = refl
  by_masters (n ∷ []) one same = by_own n (own_start n.component) refl (λ s own. same n [] s refl own)
  by_masters (n ∷ m ∷ ns) one same = absurd (omega (arith, one))

-- Where no id is aligned there is no override, and the master has no start.

no_second : (xs ys : List Stamp) → first_of (xs ++ ys) ≡ None → ys ≡ []
no_second [] [] e = refl
no_second [] (y ∷ ys) e = absurd cc
no_second (x ∷ xs) ys e = absurd cc

no_ids : (k : ℕ) (c : Component) (cs : List Component) (id : Option Stamp) → c.recurrence_id ≡ id → filter_map (λ (n : Numbered). n.component.recurrence_id) (filter has_id (numbered_from k (c ∷ cs))) ≡ [] →
    (filter_map (λ (n : Numbered). n.component.recurrence_id) (filter has_id (numbered_from (k + 1) cs)) ≡ [] → filter has_id (numbered_from (k + 1) cs) ≡ []) → filter has_id (numbered_from k (c ∷ cs)) ≡ []
no_ids k c cs None e none rest = rw e (rest (rw e at none))
no_ids k c cs (Some x) e none rest = absurd (let some = rw e at none in cc)

no_overrides : (k : ℕ) (cs : List Component) → filter_map (λ (n : Numbered). n.component.recurrence_id) (filter has_id (numbered_from k cs)) ≡ [] → filter has_id (numbered_from k cs) ≡ []
no_overrides k [] none = refl
no_overrides k (c ∷ cs) none = no_ids k c cs c.recurrence_id refl none (no_overrides (k + 1) cs)

none_started : (object : Object) (n : Numbered) (own : Option Stamp) → own_start n.component ≡ own → ((s : Stamp) → own ≡ Some s → ⊥) → starts_of_master object n ++ [] ≡ []
none_started object n None e none = append-nil (starts_of_master object n) ∙ ap (λ (own : Option Stamp). flat_map (λ t. filter (λ r. not (is_moved_out object t r)) (unnamed_starts object.zones t n.component object.components)) (option_to_list own)) e
none_started object n (Some s) e none = absurd (none s refl)

no_starts : (object : Object) (ns : List Numbered) → length ns ≤ 1 → ((n : Numbered) (rest : List Numbered) (s : Stamp) → ns ≡ n ∷ rest → own_start n.component ≡ Some s → ⊥) → flat_map (starts_of_master object) ns ≡ []
no_starts object [] one none = refl
no_starts object (n ∷ []) one none = none_started object n (own_start n.component) refl (λ s own. none n [] s refl own)
no_starts object (n ∷ m ∷ ns) one none = absurd (omega (arith, one))

by_ids : (object : Object) (start : Option Stamp) → ids_start object ≡ start → length (masters object) ≤ 1 →
    length (undated_rows object ++ flat_map (dated_rows (row_at every_moment object) every_moment object) (option_to_list start)) ≡ count_by has_own_row object.components + length (master_starts object)
by_ids object (Some ids) e one =
    let all = starts every_moment object in
    let dated = dated_rows (row_at every_moment object) every_moment object ids in
    let own = flat_map (override_row object ids all) (overrides object) in
    let kept = filter (λ (r : Row). not (is_named object ids r.id)) (flat_map (row_at every_moment object ids all) all) in
    let a = length-append (undated_rows object) (dated ++ []) in
    let b = ap length (append-nil dated) in
    let d = length_ordered (own ++ kept) in
    let f = length-append own kept in
    let g = count_own object ids all 0 object.components in
    let h = count_rows object ids all (master_has every_moment object ids one) in
    let i = ap length (by_masters object ids (masters object) one (λ n rest s first its. ids_own object ids s n rest (sym e) first its)) in
    omega (arith, a, b, d, f, g, h, i)
by_ids object None e one =
    let no_override : overrides object ≡ [] = no_overrides 0 object.components (no_second (filter_map master_stamp (masters object)) (filter_map (λ (n : Numbered). n.component.recurrence_id) (overrides object)) e) in
    let none = no_starts object (masters object) one (λ n rest s first its. let some = ids_first object s n rest first its in let clash : None ≡ Some s = sym e ∙ some in absurd cc) in
    let any = Utc (record { 0 = pos 0 }) in
    let a = ap length (append-nil (undated_rows object)) in
    let size = ap length none in
    let g = count_own object any [] 0 object.components in
    let without = ap (λ (ns : List Numbered). length (flat_map (override_row object any []) ns)) no_override in
    omega (arith, a, size, g, without)

pub length_rows : (object : Object) → length (masters object) ≤ 1 → length (rows object) ≡ count_by has_own_row object.components + length (master_starts object)
length_rows object one = by_ids object (ids_start object) refl one
