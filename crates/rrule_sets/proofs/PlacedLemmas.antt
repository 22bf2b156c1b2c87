-- Rows with their windows: sorted by these, those of one window are together and stand as they stood.
use Rattle.std.proofs.Common.{◌≡◌, ℕ, ◌<◌, ◌≤◌, List, [], ◌∷◌, ◌++◌, length, map, get_or, refl, sym, ap, ◌∙◌, arith, Bool, true, false, ℤ, pos, ◌≤ℤ◌, ◌<ℤ◌, inl, inr, Less, Equal, Greater, nat_lt}
use Rattle.std.specs.Prelude.{All, AllPairs, filter, not, int_le, int_lt, ◌&&◌, Some}
use Rattle.std.specs.Cmp.{int_cmp_total}
use Rattle.std.specs.Ordering.{int_cmp, is_lt}
use Rattle.std.specs.List.Sorted.{IsPartitionedBy, IsSortedByKey, ties}
use Rattle.std.proofs.lemmas.Int.{ints, by_lt_z}
use Rattle.std.proofs.lemmas.Bool.{cases_Bool, ltb-true, ltb-false}
use Rattle.std.proofs.lemmas.List.{append-nil, map-append}
use Rattle.std.proofs.lemmas.List.Elements.{All-weaker, filter-append}
use Rattle.std.proofs.lemmas.List.Sorted.{sorted_far, ranks_by}
use Rattle.cal_moment.specs.declared.stamp.Stamp.{Stamp}
use Rattle.cal_model.specs.declared.object.Object.{Object}
use Rattle.cal_model.specs.declared.row.Row.{Row}
use Rattle.cal_model.specs.declared.row.RowKind.TheVariants as kind
use Rattle.cal_model.specs.Words.Integers.{same_int}
use Rattle.cal_model.specs.Instances.Rows.{ids_start, in_order, is_dated, lies_in_window, masters, move_of, overrides, row_of, rows_in, window_of}
use Rattle.cal_model.specs.Instances.Rows as rows
use Rattle.cal_model.specs.Ranges.Nearness.{HasOffsetsBelow, HasShortOffsets}
use Rattle.cal_model.proofs.Words.IntegerLemmas.{same_int-self, same_int-true}
use Rattle.override_merge.specs.NamedStarts.{days_in}
use Rattle.rrule_sets.specs.declared.placed.Placed.{Placed}
use Rattle.rrule_sets.specs.declared.range.Digits.{Digits}
use Rattle.rrule_sets.specs.declared.windows.Needed.{Needed}
use Rattle.rrule_sets.specs.MasterRows.{governed_rows}
use Rattle.rrule_sets.specs.NeededDigits.{HasDay, HasMoved, HasRange, HasWindow}
use Rattle.rrule_sets.specs.PlacedRows.{HasNoLaterWindow, merged_in, rows_at}
use Rattle.rrule_sets.specs.SeveralWindows.{IsNeededFor}
use Rattle.rrule_sets.proofs.NearRowLemmas.{filter_both}
use Rattle.rrule_sets.proofs.WindowLemmas.{window_found}

-- Two numbers.

apart : (a b : ℤ) → (a ≡ b → ⊥) → same_int a b ≡ false
apart a b other = elim (cases_Bool (same_int a b)) [ inl w ↦ absurd (other (same_int-true a b w)) | inr w ↦ w ]

swapped : (a b : ℤ) → same_int a b ≡ same_int b a
swapped a b = by_lt_z a b
    (λ lt. apart a b (λ e. absurd (omega (arith, ints, lt, e))) ∙ sym (apart b a (λ e. absurd (omega (arith, ints, lt, e)))))
    (λ ge. by_lt_z b a
    (λ gt. apart a b (λ e. absurd (omega (arith, ints, gt, e))) ∙ sym (apart b a (λ e. absurd (omega (arith, ints, gt, e)))))
    (λ le. let same : a ≡ b = omega (arith, ints, ge, le) in rw same refl))

-- One row more.

pub placed_none : (window : ℤ) (out : List Placed) → rows_at window out ≡ rows_at window out ++ []
placed_none window out = sym (append-nil (rows_at window out))

pub undated_placed : (object : Object) (window : ℤ) (out : List Placed) (row : Row) → is_dated row ≡ false → rows_at window out ≡ rows_at window out ++ filter (lies_in_window object window) (row ∷ [])
undated_placed object window out row undated =
    let none : lies_in_window object window row ≡ false = rw undated refl in
    rw none (placed_none window out)

pub one_placed : (object : Object) (window : ℤ) (out : List Placed) (row : Row) (at : ℤ) → is_dated row ≡ true → at ≡ window_of object row →
    rows_at window (out ++ record { window = at; row = row } ∷ []) ≡ rows_at window out ++ filter (lies_in_window object window) (row ∷ [])
one_placed object window out row at dated is =
    let lies : lies_in_window object window row ≡ same_int at window = rw (dated, is) refl in
    ap (map (λ (p : Placed). p.row)) (filter-append (λ (p : Placed). same_int p.window window) out (record { window = at; row = row } ∷ []))
    ∙ (map-append (λ (p : Placed). p.row) (filter (λ (p : Placed). same_int p.window window) out) (filter (λ (p : Placed). same_int p.window window) (record { window = at; row = row } ∷ []))
    ∙ ap (λ xs. rows_at window out ++ xs) (elim (cases_Bool (same_int at window)) [
      | inl w ↦ (let there : lies_in_window object window row ≡ true = lies ∙ w in rw (w, there) refl)
      | inr w ↦ (let away : lies_in_window object window row ≡ false = lies ∙ w in rw (w, away) refl)
    ]))

-- Sorting.

abbrev window_below : Placed → Placed → Bool
window_below a b = is_lt (int_cmp a.window b.window)

not_below : (x y : ℤ) → is_lt (int_cmp y x) ≡ false → x ≤ℤ y
not_below x y h = by_lt_z y x (λ lt. absurd (let less : int_cmp y x ≡ Less = grind (arith, ints, lt) in let e = rw less at h in cc)) (λ le. omega (arith, ints, le))

pub rises_by_window : (placed : List Placed) → IsSortedByKey (λ (p : Placed). p.window) int_cmp placed → AllPairs HasNoLaterWindow placed
rises_by_window placed sorted i j d lt below =
    not_below (get_or placed i d).window (get_or placed j d).window
    (sorted_far window_below (ranks_by int_cmp_total (λ (p : Placed). p.window)) placed sorted i j d (omega (arith, lt)) below)

ties_of_window : (x p : Placed) → ties window_below x p ≡ same_int p.window x.window
ties_of_window x p =
    by_lt_z x.window p.window
    (λ lt. let up : int_cmp x.window p.window ≡ Less = grind (arith, ints, lt) in let other = apart p.window x.window (λ e. absurd (omega (arith, ints, lt, e))) in rw (up, other) refl)
    (λ ge. by_lt_z p.window x.window
    (λ gt. let more : int_cmp x.window p.window ≡ Greater = grind (arith, ints, gt) in let less : int_cmp p.window x.window ≡ Less = grind (arith, ints, gt) in let other = apart p.window x.window (λ e. absurd (omega (arith, ints, gt, e))) in rw (more, less, other) refl)
    (λ le. let same : x.window ≡ p.window = omega (arith, ints, ge, le) in
    let equal : int_cmp x.window p.window ≡ Equal = grind (arith, ints, same) in
    let back : int_cmp p.window x.window ≡ Equal = grind (arith, ints, same) in
    let self : same_int p.window x.window ≡ true = rw same (same_int-self p.window) in
    rw (equal, back, self) refl))

filter_same : (p q : Placed → Bool) (xs : List Placed) → ((x : Placed) → p x ≡ q x) → filter p xs ≡ filter q xs
filter_same p q [] h = refl
filter_same p q (x ∷ xs) h = elim (cases_Bool (q x)) [
  | inl w ↦ (let v : p x ≡ true = h x ∙ w in rw (v, w) (ap (λ ys. x ∷ ys) (filter_same p q xs h)))
  | inr w ↦ (let v : p x ≡ false = h x ∙ w in rw (v, w) (filter_same p q xs h))
]

abbrev some_in : ℤ → Placed
some_in window = record { window = window; row = row_of (pos 0) (pos 0) (pos 0) 0 kind.Undated kind.Undated }

pub rows_kept : (xs ys : List Placed) → ((x : Placed) → filter (ties window_below x) ys ≡ filter (ties window_below x) xs) → (window : ℤ) → rows_at window ys ≡ rows_at window xs
rows_kept xs ys stable window =
    ap (map (λ (p : Placed). p.row))
    (filter_same (λ (p : Placed). same_int p.window window) (ties window_below (some_in window)) ys (λ p. sym (ties_of_window (some_in window) p))
    ∙ (stable (some_in window) ∙ filter_same (ties window_below (some_in window)) (λ (p : Placed). same_int p.window window) xs (ties_of_window (some_in window))))

-- Searching.

pub partitioned_below : (placed : List Placed) (t : ℤ) → AllPairs HasNoLaterWindow placed → IsPartitionedBy (λ (p : Placed). int_lt p.window t) placed
partitioned_below placed t up i j d le below h = elim (cases_Bool (nat_lt i j)) [
  | inl w ↦ (let rises = up i j d (ltb-true _ _ w) below in let at : (get_or placed j d).window <ℤ t = grind (arith, ints, h) in let before : (get_or placed i d).window <ℤ t = omega (arith, ints, rises, at) in grind (arith, ints, before))
  | inr w ↦ (let ge = ltb-false _ _ w in let same : i ≡ j = omega (arith, ge, le) in rw same h)
]

pub partitioned_to : (placed : List Placed) (t : ℤ) → AllPairs HasNoLaterWindow placed → IsPartitionedBy (λ (p : Placed). int_le p.window t) placed
partitioned_to placed t up i j d le below h = elim (cases_Bool (nat_lt i j)) [
  | inl w ↦ (let rises = up i j d (ltb-true _ _ w) below in let at : (get_or placed j d).window ≤ℤ t = grind (arith, ints, h) in let before : (get_or placed i d).window ≤ℤ t = omega (arith, ints, rises, at) in grind (arith, ints, before))
  | inr w ↦ (let ge = ltb-false _ _ w in let same : i ≡ j = omega (arith, ge, le) in rw same h)
]

in_window : (a w : ℤ) → (int_le a w && int_le w a) ≡ same_int a w
in_window a w = by_lt_z a w
    (λ lt. let low : int_le a w ≡ true = grind (arith, ints, lt) in let high : int_le w a ≡ false = grind (arith, ints, lt) in let other = apart a w (λ e. absurd (omega (arith, ints, lt, e))) in rw (low, high, other) refl)
    (λ ge. by_lt_z w a
    (λ gt. let low : int_le a w ≡ false = grind (arith, ints, gt) in let other = apart a w (λ e. absurd (omega (arith, ints, gt, e))) in rw (low, other) refl)
    (λ le. let same : a ≡ w = omega (arith, ints, ge, le) in
    let low : int_le a w ≡ true = grind (arith, ints, le) in
    let high : int_le w a ≡ true = grind (arith, ints, ge) in
    let self : same_int a w ≡ true = rw same (same_int-self w) in
    rw (low, high, self) refl))

pub found_in_window : (window : ℤ) (placed from its : List Placed) → from ≡ filter (λ (p : Placed). int_le window p.window) placed → its ≡ filter (λ (p : Placed). int_le p.window window) from → its ≡ filter (λ (p : Placed). same_int p.window window) placed
found_in_window window placed from its first last =
    last
    ∙ (ap (filter (λ (p : Placed). int_le p.window window)) first
    ∙ (filter_both (λ (p : Placed). int_le p.window window) (λ (p : Placed). int_le window p.window) placed
    ∙ filter_same (λ (p : Placed). int_le p.window window && int_le window p.window) (λ (p : Placed). same_int p.window window) placed (λ p. in_window p.window window)))

-- A range has what a window needs where it has the range that this needs.

wider_day : (whole range : Digits) → HasRange whole range → (midnight : ℤ) → HasDay range midnight → HasDay whole midnight
wider_day whole range wider midnight day =
    let low = wider.from in let high = wider.to in let from = day.from in let to = day.to in
    record { from = omega (arith, ints, low, from); to = omega (arith, ints, high, to) }

wider_move : (n : ℕ) (window : ℤ) (whole range : Digits) → HasRange whole range → (move id : ℤ) → HasMoved n window range move id → HasMoved n window whole move id
wider_move n window whole range wider move id moved = record {
  has = λ l low high later.
      let inside = moved.has l low high later in
      let a = wider.from in let b = wider.to in
      (omega (arith, ints, a, inside), omega (arith, ints, b, inside));
}

-- the rows of a window are those that overrides and the rows of any such range come to in it
pub window_placed : (n : ℕ) → 0 < n → (object : Object) (ids : Stamp) (needed : Needed) (whole : Digits) → All (HasOffsetsBelow n) object.zones → All HasShortOffsets object.zones → Some ids ≡ ids_start object → length (masters object) ≤ 1 →
    IsNeededFor object ids n needed → HasRange whole needed.range → in_order (merged_in object ids (governed_rows object ids whole) needed.window) ≡ rows_in object needed.window
window_placed n some object ids needed whole below short aligned one is wider =
    let its = is.window in
    let low = wider.from in let high = wider.to in let from = its.from in let to = its.to in
    let window : HasWindow needed.window whole = record { from = omega (arith, ints, low, from); to = omega (arith, ints, high, to) } in
    window_found n some object ids needed.window whole (governed_rows object ids whole) below short aligned
    (All-weaker (λ g. HasMoved n needed.window needed.range (move_of object.zones g) g.id) (λ g. HasMoved n needed.window whole (move_of object.zones g) g.id) (λ g moved. wider_move n needed.window whole needed.range wider (move_of object.zones g) g.id moved) _ is.moved)
    (All-weaker (λ o. rows.moves_later o ≡ true → All (HasDay needed.range) (days_in (rows.named_by object.zones ids o))) (λ o. rows.moves_later o ≡ true → All (HasDay whole) (days_in (rows.named_by object.zones ids o)))
    (λ o days later. All-weaker (HasDay needed.range) (HasDay whole) (wider_day whole needed.range wider) _ (days later)) (overrides object) is.their_days)
    one window
    (All-weaker (HasDay needed.range) (HasDay whole) (wider_day whole needed.range wider) _ is.days) refl
