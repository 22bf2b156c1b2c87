-- The rows of several windows from the master's rows in one range, and what they cost.
use Rattle.std.proofs.Common.{◌≡◌, ℕ, ◌+◌, ◌*◌, ◌<◌, ◌≤◌, List, [], ◌∷◌, ◌++◌, length, map, refl, sym, ap, ap₂, subst, ◌∙◌, arith, Bool, true, false, ℤ, ◌≤ℤ◌, inl, inr, nat_lt}
use Rattle.std.specs.Prelude.{All, AllPairs, filter, flat_map, not, option_to_list, sum, Some, None, ◌&&◌}
use Rattle.std.proofs.lemmas.Int.{ints}
use Rattle.std.proofs.lemmas.Bool.{cases_Bool, ltb-true, ltb-false}
use Rattle.std.proofs.lemmas.List.Elements.{All-head, All-tail, All-nil, All-cons, All-filter, All-map, All-weaker, filter-append}
use Rattle.std.proofs.lemmas.List.Kept.{AllPairs-filter, AllPairs-cons}
use Rattle.cal_moment.specs.Calendar.{seconds_since_1970}
use Rattle.cal_moment.specs.declared.stamp.Stamp.{Stamp}
use Rattle.cal_model.specs.declared.object.Object.{Object}
use Rattle.cal_model.specs.declared.row.Row.{Row}
use Rattle.cal_model.specs.Instances.Alignment.{kind_of, names_start, on_day, reading_of}
use Rattle.cal_model.specs.Instances.Rows.{Numbered, ids_start, in_order, is_named, lies_in_window, master_row, masters, named_by, override_row, overrides, row_at, row_of, rows_in, starts}
use Rattle.cal_model.specs.Instances.Starts.{end_of_instance, own_start}
use Rattle.cal_model.proofs.Words.AllLemmas.{All-everywhere, All-flat_map}
use Rattle.cal_model.proofs.Words.EachLemmas.{both_hold}
use Rattle.cal_model.specs.Ranges.Cost.{cost, last_day}
use Rattle.cal_model.specs.Ranges.Nearness.{HasOffsetsBelow, HasShortOffsets}
use Rattle.cal_model.specs.Recurrence.RecurrenceSet.{every_moment}
use Rattle.cal_model.proofs.Instances.RisingLists.{IsBelow, AllPairs-head, AllPairs-tail}
use Rattle.cal_model.proofs.Instances.RowsInOrder.{HasOneRow, flat_map_same, ids-given, master_has, same_own_rows, starts-rising}
use Rattle.cal_model.proofs.Instances.GovernedRows.{moved_row-holds, moved_to, row_at-holds}
use Rattle.cal_model.proofs.Instances.KeptStarts.{GoverningsAgree, row_at-same, stand_in}
use Rattle.rrule_sets.specs.declared.range.Digits.{Digits}
use Rattle.rrule_sets.specs.declared.windows.Needed.{Needed}
use Rattle.rrule_sets.specs.DigitRanges.{starts_in}
use Rattle.rrule_sets.specs.MasterRows.{masters_cost, masters_from, rows_of_master}
use Rattle.rrule_sets.specs.NearRows.{HasLesserId, is_near, is_near_id}
use Rattle.rrule_sets.specs.NeededDigits.{EndsBy, HasDay, HasRange, HasWindow, days_needed}
use Rattle.rrule_sets.specs.SeveralWindows.{IsNeededFor, looks_of}
use Rattle.rrule_sets.proofs.AskedLemmas.{sum-cons}
use Rattle.rrule_sets.proofs.CostLemmas.{parts_cost, sum_each}
use Rattle.rrule_sets.proofs.NearRowLemmas.{filter_both, kept_near}
use Rattle.rrule_sets.proofs.NeededLemmas.{has_range}
use Rattle.rrule_sets.proofs.WindowedRows.{KeepsNamed, KeepsNamedBy, KeepsWindow, rows_in-kept}
use Rattle.rrule_sets.proofs.WindowLemmas.{HasMovedBy, HasTheirDays, ends_by_last, filter-none, governing_by, has_kept, keeps, keeps_named, keeps_window, moved_kept, rows_in-none}

-- Lists.

pub filter-all : {X : Type 0} (p : X → Bool) (xs : List X) → All (λ x. p x ≡ true) xs → filter p xs ≡ xs
filter-all p [] all = refl
filter-all p (x ∷ xs) all = let here = All-head (λ x. p x ≡ true) x xs all in rw here (ap (λ rest. x ∷ rest) (filter-all p xs (All-tail (λ x. p x ≡ true) x xs all)))

-- what a test keeps of lists whose elements all have a key that it looks at
filter_by_key : {Y K : Type 0} (p : K → Bool) (key : Y → K) (f : K → List Y) → ((k : K) → All (λ y. key y ≡ k) (f k)) → (ks : List K) → filter (λ y. p (key y)) (flat_map f ks) ≡ flat_map f (filter p ks)
filter_by_key p key f keyed [] = refl
filter_by_key p key f keyed (k ∷ ks) =
    let rest = filter_by_key p key f keyed ks in
    elim (cases_Bool (p k)) [
      | inl w ↦ (let here : filter (λ y. p (key y)) (f k) ≡ f k = filter-all (λ y. p (key y)) (f k) (All-weaker (λ y. key y ≡ k) (λ y. p (key y) ≡ true) (λ y e. ap p e ∙ w) (f k) (keyed k)) in
          rw (w, filter-append (λ y. p (key y)) (f k) (flat_map f ks), here) (ap (λ more. f k ++ more) rest))
      | inr w ↦ (let here : filter (λ y. p (key y)) (f k) ≡ [] = filter-none (λ y. p (key y)) (f k) (All-weaker (λ y. key y ≡ k) (λ y. p (key y) ≡ false) (λ y e. ap p e ∙ w) (f k) (keyed k)) in
          rw (w, filter-append (λ y. p (key y)) (f k) (flat_map f ks), here) rest)
    ]

-- one window more
pub map_pushed : {X Y : Type 0} (f : X → Y) (done : List X) (x : X) (behind : List Y) → map f (done ++ x ∷ []) ++ behind ≡ map f done ++ (f x ∷ behind)
map_pushed f [] x behind = refl
map_pushed f (d ∷ ds) x behind = ap (λ rest. f d ∷ rest) (map_pushed f ds x behind)

-- The rows of the starts in a range.

pub each_has_id : (object : Object) (ids : Stamp) (all : List ℤ) (r : ℤ) → All (λ (row : Row). row.id ≡ r) (row_at every_moment object ids all r)
each_has_id object ids all r =
    row_at-holds (All (λ (row : Row). row.id ≡ r)) every_moment object ids all r
    (All-flat_map (λ (row : Row). row.id ≡ r) (master_row every_moment object ids r) (masters object)
    (All-everywhere (λ n. All (λ (row : Row). row.id ≡ r) (master_row every_moment object ids r n)) of_master (masters object)))
    (λ g governs. moved_row-holds (All (λ (row : Row). row.id ≡ r)) object ids r g (All-nil (λ (row : Row). row.id ≡ r)) (λ served. All-cons (λ (row : Row). row.id ≡ r) (moved_to object ids r g) [] refl (All-nil (λ (row : Row). row.id ≡ r))))
  where
    of_master : (n : Numbered) → All (λ (row : Row). row.id ≡ r) (master_row every_moment object ids r n)
    of_master n =
        All-map (λ (row : Row). row.id ≡ r) (λ s. row_of r r (end_of_instance every_moment object.zones s n.component r) n.number (kind_of ids) (kind_of s)) (option_to_list (own_start n.component))
        (All-everywhere (λ s. r ≡ r) (λ s. refl) (option_to_list (own_start n.component)))

one_at : (object : Object) (ids : Stamp) (all : List ℤ) (r : ℤ) → HasOneRow every_moment object ids r → length (row_at every_moment object ids all r) ≤ 1
one_at object ids all r has =
    row_at-holds (λ rows. length rows ≤ 1) every_moment object ids all r (let same = ap length has.is in omega (arith, same))
    (λ g governs. moved_row-holds (λ rows. length rows ≤ 1) object ids r g (omega arith) (λ served. omega arith))

-- rows of rising starts, one of each at most, stand by their ids
lesser_made : (f : ℤ → List Row) → ((r : ℤ) → All (λ (row : Row). row.id ≡ r) (f r)) → (rs : List ℤ) → All (λ r. length (f r) ≤ 1) rs → AllPairs IsBelow rs → AllPairs HasLesserId (flat_map f rs)
lesser_made f keyed [] few up = λ i j d lt below. absurd (omega (arith, below))
lesser_made f keyed (r ∷ rs) few up =
    put (lesser_made f keyed rs (All-tail (λ q. length (f q) ≤ 1) r rs few) (AllPairs-tail IsBelow r rs up)) (f r) (All-head (λ q. length (f q) ≤ 1) r rs few) (keyed r)
  where
    behind : (row : Row) → row.id ≡ r → All (HasLesserId row) (flat_map f rs)
    behind row e =
        All-flat_map (HasLesserId row) f rs
        (All-weaker (IsBelow r) (λ q. All (HasLesserId row) (f q)) (λ q below. All-weaker (λ (other : Row). other.id ≡ q) (HasLesserId row) (λ other is. omega (arith, ints, e, is, below)) (f q) (keyed q)) rs (AllPairs-head IsBelow r rs up))

    put : AllPairs HasLesserId (flat_map f rs) → (rows : List Row) → length rows ≤ 1 → All (λ (row : Row). row.id ≡ r) rows → AllPairs HasLesserId (rows ++ flat_map f rs)
    put rest [] le ids = rest
    put rest (row ∷ []) le ids = AllPairs-cons HasLesserId row (flat_map f rs) (behind row (All-head (λ (a : Row). a.id ≡ r) row [] ids)) rest
    put rest (row ∷ other ∷ rows) le ids = absurd (omega (arith, le))

module _ (object : Object) (ids : Stamp) (range : Digits) (rows : List Row) (aligned : Some ids ≡ ids_start object) (one : length (masters object) ≤ 1)
    (made : rows ≡ flat_map (stand_in object ids (keeps object ids range)) (flat_map (rows_of_master object.zones range) (masters object))) where
  abbrev kept_whole : List ℤ
  kept_whole = filter (λ r. starts_in object.zones ids range r) (starts every_moment object)

  rows_at_kept : rows ≡ flat_map (row_at every_moment object ids kept_whole) kept_whole
  rows_at_kept = made ∙ moved_kept object ids range aligned one

  -- they stand by their ids
  pub rows_by_id : AllPairs HasLesserId rows
  rows_by_id = subst (AllPairs HasLesserId) (sym rows_at_kept)
      (lesser_made (row_at every_moment object ids kept_whole) (each_has_id object ids kept_whole) kept_whole
      (All-weaker (HasOneRow every_moment object ids) (λ r. length (row_at every_moment object ids kept_whole r) ≤ 1) (one_at object ids kept_whole) kept_whole (has_kept object ids range one))
      (AllPairs-filter IsBelow (λ r. starts_in object.zones ids range r) (starts every_moment object) (starts-rising every_moment object one)))

-- Windows.

-- what keeps more than is needed keeps what is needed
module _ (object : Object) (ids : Stamp) (window : ℤ) (less more : ℤ → Bool) (within : (r : ℤ) → less r ≡ true → more r ≡ true) where
  keeps_more_window : KeepsWindow every_moment object ids window less → KeepsWindow every_moment object ids window more
  keeps_more_window keeps = λ r out. elim (cases_Bool (less r)) [
    | inl w ↦ absurd (let kept = within r w in cc)
    | inr w ↦ keeps r w
  ]

  keeps_more_named : KeepsNamed every_moment object ids window less → KeepsNamed every_moment object ids window more
  keeps_more_named = All-weaker (KeepsNamedBy every_moment object ids window less) (KeepsNamedBy every_moment object ids window more)
      (λ n keeps s midnight r own there lies.
      All-weaker (λ x. x ≡ on_day midnight → names_start (reading_of object.zones ids) r (on_day midnight) ≡ true → less r ≡ true) (λ x. x ≡ on_day midnight → names_start (reading_of object.zones ids) r (on_day midnight) ≡ true → more r ≡ true)
      (λ x kept e named. within r (kept e named)) (named_by object.zones ids n) (keeps s midnight r own there lies)) (overrides object)

-- The rows of a window are made of the rows of the starts in any range that has what it needs, those alone that are near it.
pub window_found_near : (n : ℕ) → 0 < n → (object : Object) (ids : Stamp) (window : ℤ) (whole range : Digits) (rows near : List Row) → All (HasOffsetsBelow n) object.zones → (aligned : Some ids ≡ ids_start object) →
    HasMovedBy object ids window range aligned n → HasTheirDays object ids window range aligned → length (masters object) ≤ 1 → All HasShortOffsets object.zones → HasWindow window range →
    All (HasDay range) (flat_map (days_needed object.zones ids window) object.components) → HasRange whole range → rows ≡ flat_map (stand_in object ids (keeps object ids whole)) (flat_map (rows_of_master object.zones whole) (masters object)) →
    near ≡ filter (is_near range) rows →
    in_order (filter (lies_in_window object window) (flat_map (override_row object ids (map (λ (r : Row). r.id) near)) (overrides object)) ++ filter (lies_in_window object window) (filter (λ (r : Row). not (is_named object ids r.id)) near)) ≡ rows_in object window
window_found_near n some object ids window whole range rows near below aligned moved their_days one short has days wider made cut =
    ap₂ (λ (xs rs : List Row). in_order (filter (lies_in_window object window) xs ++ filter (lies_in_window object window) (filter (λ (r : Row). not (is_named object ids r.id)) rs))) own_rows its_rows
    ∙ sym (rows_in-kept every_moment object ids window more
    (keeps_more_window object ids window less more within (keeps_window object ids window range aligned n some below short moved one has))
    (keeps_more_named object ids window less more within (keeps_named object ids window range aligned days)) by_more (sym aligned) one)
  where
    less : ℤ → Bool
    less r = starts_in object.zones ids range r

    more : ℤ → Bool
    more r = is_near_id range r && starts_in object.zones ids whole r

    within : (r : ℤ) → less r ≡ true → more r ≡ true
    within r there = kept_near object.zones ids whole range r short wider there

    in_whole : (r : ℤ) → less r ≡ true → starts_in object.zones ids whole r ≡ true
    in_whole r there = (both_hold (is_near_id range r) (starts_in object.zones ids whole r) (within r there)).1

    all : List ℤ
    all = filter (λ r. starts_in object.zones ids whole r) (starts every_moment object)

    near_starts : List ℤ
    near_starts = filter more (starts every_moment object)

    by_more : GoverningsAgree object ids (starts every_moment object) near_starts
    by_more = governing_by object ids window range aligned more within their_days

    by_all : GoverningsAgree object ids (starts every_moment object) all
    by_all = governing_by object ids window range aligned (λ r. starts_in object.zones ids whole r) in_whole their_days

    kept : filter (is_near_id range) all ≡ near_starts
    kept = filter_both (is_near_id range) (λ r. starts_in object.zones ids whole r) (starts every_moment object)

    at_starts : near ≡ flat_map (row_at every_moment object ids all) near_starts
    at_starts = cut ∙ (ap (filter (is_near range)) (rows_at_kept object ids whole rows aligned one made)
        ∙ (filter_by_key (is_near_id range) (λ (r : Row). r.id) (row_at every_moment object ids all) (each_has_id object ids all) all
        ∙ ap (flat_map (row_at every_moment object ids all)) kept))

    same_row : (r : ℤ) → row_at every_moment object ids all r ≡ row_at every_moment object ids near_starts r
    same_row r = sym (row_at-same every_moment object ids (starts every_moment object) all r by_all) ∙ row_at-same every_moment object ids (starts every_moment object) near_starts r by_more

    its_rows : near ≡ flat_map (row_at every_moment object ids near_starts) near_starts
    its_rows = at_starts
        ∙ flat_map_same (row_at every_moment object ids all) (row_at every_moment object ids near_starts) near_starts
        (All-everywhere (λ r. row_at every_moment object ids all r ≡ row_at every_moment object ids near_starts r) same_row near_starts)

    has_rows : All (HasOneRow every_moment object ids) near_starts
    has_rows = All-filter more (HasOneRow every_moment object ids) (starts every_moment object) (master_has every_moment object ids one)

    own_rows : flat_map (override_row object ids (map (λ (r : Row). r.id) near)) (overrides object) ≡ flat_map (override_row object ids near_starts) (overrides object)
    own_rows = ap (λ rs. flat_map (override_row object ids (map (λ (r : Row). r.id) rs)) (overrides object)) at_starts
        ∙ same_own_rows object ids (map (λ (r : Row). r.id) (flat_map (row_at every_moment object ids all) near_starts)) near_starts (ids-given every_moment object ids all near_starts has_rows)

-- where no id is aligned no window has a row
pub no_rows_in : (object : Object) (windows : List ℤ) → None ≡ ids_start object → flat_map (rows_in object) windows ≡ []
no_rows_in object [] none = refl
no_rows_in object (window ∷ windows) none = rw (rows_in-none object window none) (no_rows_in object windows none)

-- Steps.

-- some day ends all windows, and the looks and the walk up to it cost no more than the windows
record IsLastOf (object : Object) (windows : List ℤ) (day : ℕ) : Type 0 where
  ends : All (λ window. last_day every_moment object window ≤ day) windows
  cost : sum (map (looks_of object.components) windows) + masters_cost day (masters_from 0 object.components) ≤ sum (map (cost object) windows)

looks_within : (object : Object) (window : ℤ) → looks_of object.components window + masters_cost (last_day every_moment object window) (masters_from 0 object.components) ≤ cost object window
looks_within object window = let parts = parts_cost (last_day every_moment object window) 0 object.components in omega (arith, parts)

last_of : (object : Object) (window : ℤ) (windows : List ℤ) → (day : ℕ) × IsLastOf object (window ∷ windows) day
last_of object window [] =
    let day = last_day every_moment object window in
    let looks = looks_within object window in
    let a = sum-cons (looks_of object.components window) [] in
    let b = sum-cons (cost object window) [] in
    (day, record { ends = All-cons (λ w. last_day every_moment object w ≤ day) window [] (omega arith) (All-nil _); cost = omega (arith, looks, a, b) })
last_of object window (v ∷ windows) =
    let rest = last_of object v windows in
    let is = rest.1 in
    let looks = looks_within object window in
    let a = sum-cons (looks_of object.components window) (map (looks_of object.components) (v ∷ windows)) in
    let b = sum-cons (cost object window) (map (cost object) (v ∷ windows)) in
    let so_far = is.cost in
    elim (cases_Bool (nat_lt rest.0 (last_day every_moment object window))) [
      | inl w ↦ (let later = ltb-true _ _ w in (
        last_day every_moment object window,
        record {
          ends = All-cons (λ w. last_day every_moment object w ≤ last_day every_moment object window) window (v ∷ windows) (omega arith)
              (All-weaker (λ w. last_day every_moment object w ≤ rest.0) (λ w. last_day every_moment object w ≤ last_day every_moment object window) (λ w le. omega (arith, le, later)) (v ∷ windows) is.ends);
          cost = omega (arith, looks, a, b, so_far);
        },
      ))
      | inr w ↦ (let earlier = ltb-false _ _ w in (rest.0, record { ends = All-cons (λ w. last_day every_moment object w ≤ rest.0) window (v ∷ windows) (omega (arith, earlier)) is.ends; cost = omega (arith, looks, a, b, so_far) }))
    ]

pub looks_cost : (object : Object) (windows : List ℤ) → sum (map (looks_of object.components) windows) ≤ sum (map (cost object) windows)
looks_cost object windows = sum_each (looks_of object.components) (cost object) (λ window. let looks = looks_within object window in omega (arith, looks)) windows

ends_later : (range : Digits) (day last : ℕ) → day ≤ last → EndsBy range day → EndsBy range last
ends_later range day last le ends = omega (arith, ints, le, ends)

all_end : (N : ℕ) (object : Object) (ids : Stamp) (day : ℕ) → Some ids ≡ ids_start object → (ns : List Needed) → All (IsNeededFor object ids N) ns → All (λ window. last_day every_moment object window ≤ day) (map (λ (n : Needed). n.window) ns) → All (λ (n : Needed). EndsBy n.range day) ns
all_end N object ids day aligned [] needed ends = All-nil (λ (n : Needed). EndsBy n.range day)
all_end N object ids day aligned (n ∷ ns) needed ends =
    let is = All-head (IsNeededFor object ids N) n ns needed in
    All-cons (λ (n : Needed). EndsBy n.range day) n ns
    (ends_later n.range (last_day every_moment object n.window) day (All-head (λ window. last_day every_moment object window ≤ day) n.window (map (λ (n : Needed). n.window) ns) ends) (ends_by_last object ids n.window n.range aligned is.least))
    (all_end N object ids day aligned ns (All-tail (IsNeededFor object ids N) n ns needed) (All-tail (λ window. last_day every_moment object window ≤ day) n.window (map (λ (n : Needed). n.window) ns) ends))

-- one walk up to the end of what all windows need
pub one_walk_cost : (N : ℕ) (object : Object) (ids : Stamp) (each : List Needed) (first : Needed) (others : List Needed) (range : Digits) (before looked made : ℕ) → Some ids ≡ ids_start object → each ≡ first ∷ others →
    All (IsNeededFor object ids N) each → ((z : ℤ) → first.range.high ≤ℤ z → All (λ (n : Needed). n.range.high ≤ℤ z) others → range.high ≤ℤ z) →
    looked ≤ before + sum (map (looks_of object.components) (map (λ (n : Needed). n.window) each)) → ((day : ℕ) → EndsBy range day → made ≤ looked + masters_cost day (masters_from 0 object.components)) →
    made ≤ before + sum (map (cost object) (map (λ (n : Needed). n.window) each))
one_walk_cost N object ids each first others range before looked made aligned split needed least looks walk =
    let last = last_of object first.window (map (λ (n : Needed). n.window) others) in
    let day = last.0 in
    let ends = all_end N object ids day aligned (first ∷ others) (subst (All (IsNeededFor object ids N)) split needed) last.1.ends in
    let its_end = least (seconds_since_1970 (86400 * (day + 1))) (All-head (λ (n : Needed). EndsBy n.range day) first others ends) (All-tail (λ (n : Needed). EndsBy n.range day) first others ends) in
    let walked = walk day its_end in
    let bound : sum (map (looks_of object.components) (map (λ (n : Needed). n.window) each)) + masters_cost day (masters_from 0 object.components) ≤ sum (map (cost object) (map (λ (n : Needed). n.window) each)) =
    rw split last.1.cost in
    omega (arith, looks, walked, bound)

-- One range of several.

pub record IsJoinedSoFar (first : Digits) (all rest : List Needed) (range : Digits) : Type 0 where
  pub has_first : HasRange range first
  pub each : (wide : Digits) → HasRange wide range → All (λ (n : Needed). HasRange wide n.range) rest → All (λ (n : Needed). HasRange wide n.range) all
  pub least : (z : ℤ) → first.high ≤ℤ z → All (λ (n : Needed). n.range.high ≤ℤ z) all → (range.high ≤ℤ z) × All (λ (n : Needed). n.range.high ≤ℤ z) rest

itself : (range : Digits) → HasRange range range
itself range = record { from = omega (arith, ints); to = omega (arith, ints) }

pub joined_first : (first : Digits) (all : List Needed) → IsJoinedSoFar first all all first
joined_first first all = record { has_first = itself first; each = λ wide has each. each; least = λ z by each. (by, each) }

pub joined_more : (first : Digits) (all : List Needed) (n : Needed) (rest : List Needed) (range next : Digits) → IsJoinedSoFar first all (n ∷ rest) range → HasRange next range → HasRange next n.range →
    ((z : ℤ) → range.high ≤ℤ z → n.range.high ≤ℤ z → next.high ≤ℤ z) → IsJoinedSoFar first all rest next
joined_more first all n rest range next so_far has_range_so_far has_this least = record {
  has_first = has_range next range first has_range_so_far so_far.has_first;
  each = λ wide has each. so_far.each wide (has_range wide next range has has_range_so_far) (All-cons (λ (n : Needed). HasRange wide n.range) n rest (has_range wide next n.range has has_this) each);
  least = λ z by each. let both = so_far.least z by each in (least z both.0 (All-head (λ (n : Needed). n.range.high ≤ℤ z) n rest both.1), All-tail (λ (n : Needed). n.range.high ≤ℤ z) n rest both.1);
}

pub joined_each : (first : Digits) (all rest : List Needed) (range : Digits) → IsJoinedSoFar first all rest range → length rest ≡ 0 → All (λ (n : Needed). HasRange range n.range) all
joined_each first all [] range so_far none = so_far.each range (itself range) (All-nil (λ (n : Needed). HasRange range n.range))
joined_each first all (n ∷ rest) range so_far none = absurd (omega (arith, none))
