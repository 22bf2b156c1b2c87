-- The rows of a window of an object without overrides: those of its master in the digits of the window, as they stand.
use Rattle.std.proofs.Common.{◌≡◌, ℕ, ◌+◌, ◌≤◌, List, [], ◌∷◌, length, refl, sym, ap, subst, ◌∙◌, arith, Bool, true, false, ℤ, pos, ◌+ℤ◌, ◌-ℤ◌, ◌*ℤ◌, ◌≤ℤ◌, ◌<ℤ◌, ◌++◌, inl, inr}
use Rattle.std.specs.Prelude.{All, AllPairs, filter, flat_map, int_le, int_lt, is_some, option_to_list, Option, Some, None}
use Rattle.std.specs.List.{list_any}
use Rattle.std.proofs.lemmas.Int.{ints}
use Rattle.std.proofs.lemmas.Bool.{cases_Bool}
use Rattle.std.proofs.lemmas.List.{append_assoc}
use Rattle.std.proofs.lemmas.List.Elements.{All-head, All-map, All-nil, All-tail, All-weaker, filter-append, filter_passes}
use Rattle.std.proofs.lemmas.List.Kept.{AllPairs-filter}
use Rattle.cal_moment.specs.declared.stamp.Stamp.{Stamp}
use Rattle.cal_model.specs.declared.object.Component.{Component}
use Rattle.cal_model.specs.declared.object.Object.{Object}
use Rattle.cal_model.specs.declared.row.Row.{Row}
use Rattle.cal_model.specs.declared.zone.ZoneTable.{ZoneTable}
use Rattle.cal_model.specs.Instances.Alignment.{reading_of, value_of}
use Rattle.cal_model.specs.Instances.Starts.{own_start, starts_from}
use Rattle.cal_model.specs.Instances.Rows.{Numbered, has_id, ids_start, in_order, lies_in_window, masters, move_of, moves_later, named_by, numbered_from, overrides, put_row, rows_in, starts, window_at, window_seconds}
use Rattle.cal_model.specs.Ranges.Cost.{cost, last_day}
use Rattle.cal_model.specs.Ranges.Nearness.{HasShortOffsets}
use Rattle.cal_model.specs.Recurrence.RecurrenceSet.{every_moment}
use Rattle.cal_model.specs.Words.Integers.{same_int}
use Rattle.cal_model.proofs.Instances.KeptStarts.{governors-none, stand_in}
use Rattle.cal_model.proofs.Instances.RisingLists.{AllPairs-head, AllPairs-tail}
use Rattle.cal_model.proofs.Instances.RowsInOrder.{StandsAt, masters_stand}
use Rattle.cal_model.proofs.Ranges.NearRanges.{window-holds}
use Rattle.cal_model.proofs.Ranges.RowBounds.{local-near}
use Rattle.cal_model.proofs.Words.AllLemmas.{All-everywhere, All-flat_map, All-option}
use Rattle.cal_model.proofs.Words.EachLemmas.{both_hold}
use Rattle.cal_model.proofs.Words.IntegerLemmas.{same_int-self}
use Rattle.override_merge.specs.NamedStarts.{days_in}
use Rattle.override_merge.specs.declared.rows.Part.TheVariants as part
use Rattle.override_merge.proofs.MergeLemmas.{merged_alone}
use Rattle.rrule_sets.specs.declared.range.Digits.{Digits}
use Rattle.rrule_sets.specs.AskedStarts.{instance_row, instances_in}
use Rattle.rrule_sets.specs.DigitRanges.{starts_in}
use Rattle.rrule_sets.specs.MasterRows.{masters_cost, masters_from, rows_of_master}
use Rattle.rrule_sets.specs.NearRows.{HasLesserId, LiesWhereInner, is_inner, is_near}
use Rattle.rrule_sets.specs.NeededDigits.{EndsBy, HasDay, HasMoved, HasRange, HasWindow, days_needed, days_of_start, overrides_in}
use Rattle.rrule_sets.proofs.CostLemmas.{window_counted}
use Rattle.rrule_sets.proofs.GovernorLemmas.{stand_in-none}
use Rattle.rrule_sets.proofs.NearRowLemmas.{filter_both, not_below, not_from}
use Rattle.rrule_sets.proofs.OnceLemmas.{dated_kind}
use Rattle.rrule_sets.proofs.SeveralLemmas.{filter-all, rows_by_id, window_found_near}
use Rattle.rrule_sets.proofs.WindowLemmas.{HasMovedBy, HasTheirDays, ends_by_last, filter-none, keeps, window_found}

-- no component is an override
abbrev pub IsAlone : List Component → Type 0
IsAlone cs = list_any (λ (c : Component). is_some c.recurrence_id) cs ≡ false

-- rows that stand by their ids are in order
in_order-lesser : (rows : List Row) → AllPairs HasLesserId rows → in_order rows ≡ rows
in_order-lesser [] rises = refl
in_order-lesser (x ∷ []) rises = refl
in_order-lesser (x ∷ y ∷ rows) rises =
    let less = All-head (HasLesserId x) y rows (AllPairs-head HasLesserId x (y ∷ rows) rises) in
    let first : int_lt x.id y.id ≡ true = grind (arith, ints, less) in
    ap (put_row x) (in_order-lesser (y ∷ rows) (AllPairs-tail HasLesserId x (y ∷ rows) rises)) ∙ rw first refl

-- no day is needed, and none looked at

none_of : (id : Option Stamp) → is_some id ≡ false → id ≡ None
none_of None is = refl
none_of (Some x) is = absurd cc

no_days_of : (zones : List ZoneTable) (ids : Stamp) (window : ℤ) (c : Component) (own : Option Stamp) → c.recurrence_id ≡ None → flat_map (days_of_start zones ids window c) (option_to_list own) ≡ []
no_days_of zones ids window c None e = refl
no_days_of zones ids window c (Some s) e = elim (cases_Bool (same_int (window_at ((reading_of zones s).local (value_of zones s))) window)) [
  | inl w ↦ rw (w, e) refl
  | inr w ↦ rw w refl
]

no_days : (zones : List ZoneTable) (ids : Stamp) (window : ℤ) (cs : List Component) → IsAlone cs → flat_map (days_needed zones ids window) cs ≡ []
no_days zones ids window [] alone = refl
no_days zones ids window (c ∷ cs) alone = elim (cases_Bool (is_some c.recurrence_id)) [
  | inl w ↦ absurd (let e = rw w at alone in cc)
  | inr w ↦ rw (no_days_of zones ids window c (own_start c) (none_of c.recurrence_id w)) (no_days zones ids window cs (rw w at alone))
]

no_looks : (cs : List Component) → IsAlone cs → overrides_in cs ≡ 0
no_looks [] alone = refl
no_looks (c ∷ cs) alone = elim (cases_Bool (is_some c.recurrence_id)) [
  | inl w ↦ absurd (let e = rw w at alone in cc)
  | inr w ↦ (let rest = no_looks cs (rw w at alone) in rw w (omega (arith, rest)))
]

pub alone_counted : (object : Object) (window : ℤ) (before made : ℕ) → IsAlone object.components → made ≤ before + masters_cost (last_day every_moment object window) (masters_from 0 object.components) → made + 1 ≤ before + cost object window
alone_counted object window before made alone spent =
    let none = no_looks object.components alone in
    window_counted object window before before made (omega (arith, none)) spent

-- and no start is moved

no_overrides : (k : ℕ) (cs : List Component) → IsAlone cs → filter has_id (numbered_from k cs) ≡ []
no_overrides k [] alone = refl
no_overrides k (c ∷ cs) alone = elim (cases_Bool (is_some c.recurrence_id)) [
  | inl w ↦ absurd (let e = rw w at alone in cc)
  | inr w ↦ rw w (no_overrides (k + 1) cs (rw w at alone))
]

none_later : (object : Object) → IsAlone object.components → list_any moves_later (overrides object) ≡ false
none_later object alone = ap (list_any moves_later) (no_overrides 0 object.components alone)

pub as_made : (object : Object) (ids : Stamp) (all : List ℤ) (rows : List Row) → IsAlone object.components → flat_map (stand_in object ids all) rows ≡ rows
as_made object ids all rows alone = stand_in-none object ids all rows (none_later object alone)

alone_moved : (object : Object) (ids : Stamp) (window : ℤ) (range : Digits) (aligned : Some ids ≡ ids_start object) (n : ℕ) → IsAlone object.components → HasMovedBy object ids window range aligned n
alone_moved object ids window range aligned n alone =
    subst (All (λ g. HasMoved n window range (move_of object.zones g) g.id)) (sym (governors-none object ids (starts every_moment object) (none_later object alone))) (All-nil (λ g. HasMoved n window range (move_of object.zones g) g.id))

alone_days : (object : Object) (ids : Stamp) (window : ℤ) (range : Digits) (aligned : Some ids ≡ ids_start object) → IsAlone object.components → HasTheirDays object ids window range aligned
alone_days object ids window range aligned alone =
    subst (All (λ o. moves_later o ≡ true → All (HasDay range) (days_in (named_by object.zones ids o)))) (sym (no_overrides 0 object.components alone)) (All-nil (λ o. moves_later o ≡ true → All (HasDay range) (days_in (named_by object.zones ids o))))

module _ (object : Object) (ids : Stamp) (window : ℤ) (range : Digits) (aligned : Some ids ≡ ids_start object) (low : range.low ≡ window *ℤ window_seconds) (high : range.high ≡ (window +ℤ pos 1) *ℤ window_seconds) where
  pub alone_ends : EndsBy range (last_day every_moment object window)
  alone_ends = ends_by_last object ids window range aligned (λ z from days moved. omega (arith, ints, high, from))

  -- the digits of a window lie in it
  window_is : (l : ℤ) → range.low ≤ℤ l → l <ℤ range.high → window_at l ≡ window
  window_is l from to = let holds = window-holds l in omega (arith, ints, holds, low, high, from, to)

  lies_there : (n : Numbered) (s : Stamp) (r : ℤ) → StandsAt object false n → own_start n.component ≡ Some s → starts_in object.zones s range r ≡ true → lies_in_window object window (instance_row object.zones s n.component n.number r) ≡ true
  lies_there n s r stands own inside =
      let l = (reading_of object.zones s).local r in
      let both = both_hold (int_le range.low l) (int_lt l range.high) inside in
      let from : range.low ≤ℤ l = grind (arith, ints, both.0) in
      let to : l <ℤ range.high = grind (arith, ints, both.1) in
      rw (dated_kind s, stands.found, own, window_is l from to) (same_int-self window)

  of_master : (n : Numbered) → StandsAt object false n → All (λ row. lies_in_window object window row ≡ true) (rows_of_master object.zones range n)
  of_master n stands =
      All-flat_map (λ row. lies_in_window object window row ≡ true) (λ s. instances_in object.zones s n.component n.number range) (option_to_list (own_start n.component))
      (All-option (λ s. All (λ row. lies_in_window object window row ≡ true) (instances_in object.zones s n.component n.number range)) (own_start n.component)
      (λ s own. let found = filter (λ r. starts_in object.zones s range r) (starts_from every_moment object.zones n.component (own_start n.component)) in
      All-map (λ row. lies_in_window object window row ≡ true) (instance_row object.zones s n.component n.number) found
      (All-weaker (λ r. starts_in object.zones s range r ≡ true) (λ r. lies_in_window object window (instance_row object.zones s n.component n.number r) ≡ true) (λ r inside. lies_there n s r stands own inside) found
      (filter_passes (λ r. starts_in object.zones s range r) (starts_from every_moment object.zones n.component (own_start n.component))))))

  all_lie : All (λ row. lies_in_window object window row ≡ true) (flat_map (rows_of_master object.zones range) (masters object))
  all_lie = All-flat_map (λ row. lies_in_window object window row ≡ true) (rows_of_master object.zones range) (masters object)
      (All-weaker (StandsAt object false) (λ n. All (λ row. lies_in_window object window row ≡ true) (rows_of_master object.zones range n)) of_master (masters object) (masters_stand object))

  pub alone_found : (rows : List Row) → All HasShortOffsets object.zones → length (masters object) ≤ 1 → IsAlone object.components → rows ≡ flat_map (rows_of_master object.zones range) (masters object) → rows ≡ rows_in object window
  alone_found rows short one alone made =
      let as_moved = made ∙ sym (as_made object ids (keeps object ids range) (flat_map (rows_of_master object.zones range) (masters object)) alone) in
      let has : HasWindow window range = record { from = omega (arith, ints, low); to = omega (arith, ints, high) } in
      let days : All (HasDay range) (flat_map (days_needed object.zones ids window) object.components) = subst (All (HasDay range)) (sym (no_days object.zones ids window object.components alone)) (All-nil (HasDay range)) in
      let lie : filter (lies_in_window object window) rows ≡ rows = filter-all (lies_in_window object window) rows (subst (All (λ row. lies_in_window object window row ≡ true)) (sym made) all_lie) in
      let rises = in_order-lesser rows (rows_by_id object ids range rows aligned one as_moved) in
      sym rises ∙ (ap in_order (sym lie ∙ merged_alone object ids rows (part.Window window) alone) ∙ window_found 86400 (omega arith) object ids window range rows short short aligned (alone_moved object ids window range aligned 86400 alone) (alone_days object ids window range aligned alone) one has days as_moved)

-- the master's rows near a window that lie in it are those of the window, as they stand
pub alone_near : (object : Object) (ids : Stamp) (window : ℤ) (whole range : Digits) (rows near : List Row) → IsAlone object.components → Some ids ≡ ids_start object → length (masters object) ≤ 1 → All HasShortOffsets object.zones →
    HasWindow window range → All (HasDay range) (flat_map (days_needed object.zones ids window) object.components) → HasRange whole range → rows ≡ flat_map (rows_of_master object.zones whole) (masters object) → near ≡ filter (is_near range) rows →
    filter (lies_in_window object window) near ≡ rows_in object window
alone_near object ids window whole range rows near alone aligned one short has days wider made cut =
    let as_moved = made ∙ sym (as_made object ids (keeps object ids whole) (flat_map (rows_of_master object.zones whole) (masters object)) alone) in
    let rises : AllPairs HasLesserId near = subst (AllPairs HasLesserId) (sym cut) (AllPairs-filter HasLesserId (is_near range) rows (rows_by_id object ids whole rows aligned one as_moved)) in
    sym (in_order-lesser (filter (lies_in_window object window) near) (AllPairs-filter HasLesserId (lies_in_window object window) near rises))
    ∙ (ap in_order (merged_alone object ids near (part.Window window) alone) ∙ window_found_near 86400 (omega arith) object ids window whole range rows near short aligned (alone_moved object ids window range aligned 86400 alone) (alone_days object ids window range aligned alone) one short has days wider as_moved cut)

-- What lies in a window by its id.

-- where a list of rows that stand by their ids is cut
split_by_id : (z : ℤ) (rows : List Row) → AllPairs HasLesserId rows → filter (λ (row : Row). int_lt row.id z) rows ++ filter (λ (row : Row). int_le z row.id) rows ≡ rows
split_by_id z [] rises = refl
split_by_id z (x ∷ rows) rises = elim (cases_Bool (int_lt x.id z)) [
  | inl w ↦ (let out = not_below x.id z w in rw (w, out) (ap (λ rest. x ∷ rest) (split_by_id z rows (AllPairs-tail HasLesserId x rows rises))))
  | inr w ↦ (
      let here = not_from x.id z w in
      let behind = AllPairs-head HasLesserId x rows rises in
      let from : z ≤ℤ x.id = grind (arith, ints, w) in
      let none : filter (λ (row : Row). int_lt row.id z) rows ≡ [] = filter-none (λ (row : Row). int_lt row.id z) rows (All-weaker (HasLesserId x) (λ (row : Row). int_lt row.id z ≡ false) (λ row less. later_out x.id row.id z from less) rows behind) in
      let all : filter (λ (row : Row). int_le z row.id) rows ≡ rows = filter-all (λ (row : Row). int_le z row.id) rows (All-weaker (HasLesserId x) (λ (row : Row). int_le z row.id ≡ true) (λ row less. later_in x.id row.id z from less) rows behind) in
      rw (w, here, none, all) refl
      )
]
  where
    later_out : (a b z : ℤ) → z ≤ℤ a → a <ℤ b → int_lt b z ≡ false
    later_out a b z from less = grind (arith, ints)

    later_in : (a b z : ℤ) → z ≤ℤ a → a <ℤ b → int_le z b ≡ true
    later_in a b z from less = grind (arith, ints)

kept_lie : (p l : Row → Bool) (rows : List Row) → All (λ row. p row ≡ true → l row ≡ true) rows → filter l (filter p rows) ≡ filter p rows
kept_lie p l [] all = refl
kept_lie p l (x ∷ rows) all = elim (cases_Bool (p x)) [
  | inl w ↦ (let here = All-head (λ row. p row ≡ true → l row ≡ true) x rows all w in rw (w, here) (ap (λ rest. x ∷ rest) (kept_lie p l rows (All-tail (λ row. p row ≡ true → l row ≡ true) x rows all))))
  | inr w ↦ rw w (kept_lie p l rows (All-tail (λ row. p row ≡ true → l row ≡ true) x rows all))
]

-- the rows that lie in a window are those at its ends that do, and all between them
pub near_parts : (object : Object) (window : ℤ) (out rows first rest inner last : List Row) → AllPairs HasLesserId rows → All (LiesWhereInner object window) rows →
    first ≡ filter (λ (row : Row). int_lt row.id ((window *ℤ window_seconds) +ℤ pos 86400)) rows → rest ≡ filter (λ (row : Row). int_le ((window *ℤ window_seconds) +ℤ pos 86400) row.id) rows →
    inner ≡ filter (λ (row : Row). int_lt row.id (((window +ℤ pos 1) *ℤ window_seconds) -ℤ pos 86400)) rest → last ≡ filter (λ (row : Row). int_le (((window +ℤ pos 1) *ℤ window_seconds) -ℤ pos 86400) row.id) rest →
    ((out ++ filter (lies_in_window object window) first) ++ inner) ++ filter (lies_in_window object window) last ≡ out ++ filter (lies_in_window object window) rows
near_parts object window out rows first rest inner last rises lies is_first is_rest is_inner_rows is_last =
    let from = (window *ℤ window_seconds) +ℤ pos 86400 in
    let to = ((window +ℤ pos 1) *ℤ window_seconds) -ℤ pos 86400 in
    let rest_rises : AllPairs HasLesserId rest = subst (AllPairs HasLesserId) (sym is_rest) (AllPairs-filter HasLesserId (λ (row : Row). int_le from row.id) rows rises) in
    let parts : first ++ rest ≡ rows = rw (is_first, is_rest) (split_by_id from rows rises) in
    let more : inner ++ last ≡ rest = rw (is_inner_rows, is_last) (split_by_id to rest rest_rises) in
    let both : inner ≡ filter (is_inner window) rows = is_inner_rows ∙ (ap (filter (λ (row : Row). int_lt row.id to)) is_rest ∙ filter_both (λ (row : Row). int_lt row.id to) (λ (row : Row). int_le from row.id) rows) in
    let lie : filter (lies_in_window object window) inner ≡ inner = ap (filter (lies_in_window object window)) both ∙ (kept_lie (is_inner window) (lies_in_window object window) rows lies ∙ sym both) in
    append_assoc (out ++ filter (lies_in_window object window) first) inner (filter (lies_in_window object window) last)
    ∙ (append_assoc out (filter (lies_in_window object window) first) (inner ++ filter (lies_in_window object window) last)
    ∙ ap (λ (more : List Row). out ++ more)
    (ap (λ (xs : List Row). filter (lies_in_window object window) first ++ (xs ++ filter (lies_in_window object window) last)) (sym lie)
    ∙ (ap (λ (xs : List Row). filter (lies_in_window object window) first ++ xs) (sym (filter-append (lies_in_window object window) inner last))
    ∙ (ap (λ (xs : List Row). filter (lies_in_window object window) first ++ filter (lies_in_window object window) xs) more
    ∙ (sym (filter-append (lies_in_window object window) first rest)
    ∙ ap (filter (lies_in_window object window)) parts)))))

-- rows of the master that start a day or more within a window lie in it, since a start and its digits are less than a day apart
module _ (object : Object) (window : ℤ) (range : Digits) (short : All HasShortOffsets object.zones) where
  inner_lies : (n : Numbered) (s : Stamp) (r : ℤ) → StandsAt object false n → own_start n.component ≡ Some s → LiesWhereInner object window (instance_row object.zones s n.component n.number r)
  inner_lies n s r stands own inside =
      let l = (reading_of object.zones s).local r in
      let near = local-near object.zones s r short in
      let both = both_hold (int_lt r (((window +ℤ pos 1) *ℤ window_seconds) -ℤ pos 86400)) (int_le ((window *ℤ window_seconds) +ℤ pos 86400) r) inside in
      let to : r <ℤ (((window +ℤ pos 1) *ℤ window_seconds) -ℤ pos 86400) = grind (arith, ints, both.0) in
      let from : ((window *ℤ window_seconds) +ℤ pos 86400) ≤ℤ r = grind (arith, ints, both.1) in
      let first = near.0 in
      let second = near.1 in
      let holds = window-holds l in
      let is : window_at l ≡ window = omega (arith, ints, holds, first, second, from, to) in
      rw (dated_kind s, stands.found, own, is) (same_int-self window)

  inner_of_master : (n : Numbered) → StandsAt object false n → All (LiesWhereInner object window) (rows_of_master object.zones range n)
  inner_of_master n stands =
      All-flat_map (LiesWhereInner object window) (λ s. instances_in object.zones s n.component n.number range) (option_to_list (own_start n.component))
      (All-option (λ s. All (LiesWhereInner object window) (instances_in object.zones s n.component n.number range)) (own_start n.component)
      (λ s own. let found = filter (λ r. starts_in object.zones s range r) (starts_from every_moment object.zones n.component (own_start n.component)) in
      All-map (LiesWhereInner object window) (instance_row object.zones s n.component n.number) found
      (All-everywhere (λ r. LiesWhereInner object window (instance_row object.zones s n.component n.number r)) (λ r. inner_lies n s r stands own) found)))

  pub all_lie_inner : All (LiesWhereInner object window) (flat_map (rows_of_master object.zones range) (masters object))
  all_lie_inner = All-flat_map (LiesWhereInner object window) (rows_of_master object.zones range) (masters object)
      (All-weaker (StandsAt object false) (λ n. All (LiesWhereInner object window) (rows_of_master object.zones range n)) inner_of_master (masters object) (masters_stand object))
