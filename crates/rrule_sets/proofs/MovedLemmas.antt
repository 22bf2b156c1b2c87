-- What overrides may move into a window, component by component, and beside all starts of an object.
use Rattle.std.proofs.Common.{◌≡◌, ℕ, ◌+◌, ◌*◌, ◌<◌, ◌≤◌, List, [], ◌∷◌, ◌++◌, length, map, refl, sym, ap, ap₂, subst, ◌∙◌, arith, Bool, true, false, ℤ, pos, negsuc, ◌+ℤ◌, ◌*ℤ◌, ◌≤ℤ◌, inl, inr, ◌-ℤ◌, ◌<ℤ◌}
use Rattle.std.specs.Prelude.{All, int_le, filter, flat_map, if◌then◌else◌, option_to_list, Option, Some, None, ◌&&◌}
use Rattle.std.specs.List.{list_all, list_any}
use Rattle.std.specs.Int.{int_max}
use Rattle.std.proofs.lemmas.Int.{ints}
use Rattle.std.proofs.lemmas.Bool.{cases_Bool, ltb-true}
use Rattle.std.proofs.lemmas.List.{append-nil, map-append}
use Rattle.std.proofs.lemmas.List.Elements.{All-head, All-tail, All-nil, All-cons, All-append, All-filter, All-map, All-weaker, filter_passes}
use Rattle.cal_moment.specs.declared.stamp.Stamp.{Stamp}
use Rattle.cal_moment.specs.declared.stamp.Stamp.TheVariants.{Date, Floating, Zoned, Utc}
use Rattle.cal_model.specs.declared.object.Component.{Component}
use Rattle.cal_model.specs.declared.object.Object.{Object}
use Rattle.cal_model.specs.declared.zone.Onset.{Onset}
use Rattle.cal_model.specs.declared.zone.ZoneTable.{ZoneTable}
use Rattle.cal_model.specs.Words.Integers.{same_int}
use Rattle.cal_model.specs.Words.Lists.{first_or_else}
use Rattle.cal_model.specs.Instances.Alignment.{Aligned, at, on_day, align, midnight_of, names_start, reading_of, value_of, written_value}
use Rattle.cal_model.specs.Instances.Starts.{own_start}
use Rattle.cal_model.specs.Instances.Rows.{Numbered, has_id, id_of_override, ids_start, move_of, moves_later, named_by, numbered, numbered_from, overrides, starts, window_at, window_seconds}
use Rattle.cal_model.specs.Instances.Rows as rows
use Rattle.cal_model.specs.Ranges.Cost.{days_apart, has_common_offsets, is_common, is_moment, names_moments}
use Rattle.cal_model.specs.Ranges.Nearness.{HasOffsetsBelow, HasShortOffsets, IsNear}
use Rattle.cal_model.specs.Recurrence.RecurrenceSet.{every_moment}
use Rattle.cal_model.proofs.Instances.DayLaws.{midnight_of-holds}
use Rattle.cal_model.proofs.Instances.EachRowLemmas.{All-numbered_from}
use Rattle.cal_model.proofs.Words.AllLemmas.{All-each_part, All-everywhere, All-flat_map, All-left, All-right, All-slice_get, All-unmap}
use Rattle.cal_model.proofs.Words.EachLemmas.{both_hold}
use Rattle.cal_model.proofs.Words.IntegerLemmas.{same_int-true}
use Rattle.override_merge.specs.Conversions.{IsRowTime}
use Rattle.override_merge.specs.NamedStarts.{days_in}
use Rattle.rrule_sets.specs.declared.range.Digits.{Digits}
use Rattle.rrule_sets.specs.declared.windows.Needed.{Needed}
use Rattle.rrule_sets.specs.HeldGovernors.{days_of_movers, governor_at, governors_from, governors_of}
use Rattle.rrule_sets.specs.MovedStarts.{AreEnoughDays, EndsByMoved, EndsMovedBy, HasMove, HasMovedOf, IsBeside, IsMovedFrom, IsNearName, MeansStarts, move_from, moves_of, offset_bound, parts_from}
use Rattle.rrule_sets.specs.NeededDigits.{HasDay, HasRange, HasWindow, days_needed, days_of_start, id_days}
use Rattle.rrule_sets.specs.NeededRanges.{HasMovedOfAll, IsBehind, IsNeeded}
use Rattle.rrule_sets.specs.SeveralWindows.{HasNeeded, IsNeededFor}
use Rattle.rrule_sets.proofs.DateStarts.{near_instant, value_near}
use Rattle.rrule_sets.proofs.GovernorLemmas.{governors_from-is}
use Rattle.rrule_sets.proofs.HullLemmas.{beside-midnight, beside-on_day}
use Rattle.rrule_sets.proofs.NeededLemmas.{EndsBefore, has_day, has_range, max_least}

-- Moves.

abbrev its_move : List ZoneTable → rows.Governor → ℤ × ℤ
its_move zones g = (move_of zones g, g.id)

-- what overrides move is what their components move
moves_here : (name : Aligned → ℤ) (zones : List ZoneTable) (ids : Stamp) (n : Numbered) (later : Bool) (id own : Option Stamp) →
    map (its_move zones) (if later then flat_map (λ s. map (λ x. governor_at n s (name (align zones x ids))) (option_to_list id)) (option_to_list own) else [])
    ≡ (if later then flat_map (λ s. map (λ x. move_from zones name s (align zones x ids)) (option_to_list id)) (option_to_list own) else [])
moves_here name zones ids n false id own = refl
moves_here name zones ids n true id None = refl
moves_here name zones ids n true None (Some s) = refl
moves_here name zones ids n true (Some x) (Some s) = refl

pub moves-are : (name : Aligned → ℤ) (zones : List ZoneTable) (ids : Stamp) (number : ℕ) (cs : List Component) → map (its_move zones) (governors_from name zones ids number cs) ≡ flat_map (moves_of name zones ids) cs
moves-are name zones ids number [] = refl
moves-are name zones ids number (c ∷ cs) =
    map-append (its_move zones) (governors_of name zones ids (record { number = number; component = c })) (governors_from name zones ids (number + 1) cs)
    ∙ ap₂ (λ (xs ys : List (ℤ × ℤ)). xs ++ ys) (moves_here name zones ids (record { number = number; component = c }) c.future c.recurrence_id (own_start c)) (moves-are name zones ids (number + 1) cs)

moves_in : (object : Object) (ids : Stamp) (all : List ℤ) → map (its_move object.zones) (rows.governors object ids all) ≡ flat_map (moves_of (id_of_override object ids all) object.zones ids) object.components
moves_in object ids all = ap (map (its_move object.zones)) (sym (governors_from-is object ids all)) ∙ moves-are (id_of_override object ids all) object.zones ids 0 object.components

-- what holds of the moves of all components holds of those of the overrides
pub governors-moved : (P : ℤ × ℤ → Type 0) (object : Object) (ids : Stamp) (all : List ℤ) → All P (flat_map (moves_of (id_of_override object ids all) object.zones ids) object.components) → All (λ g. P (its_move object.zones g)) (rows.governors object ids all)
governors-moved P object ids all moved = All-unmap P (its_move object.zones) (rows.governors object ids all) (subst (All P) (sym (moves_in object ids all)) moved)

pub moved-governors : (P : ℤ × ℤ → Type 0) (object : Object) (ids : Stamp) (all : List ℤ) → All (λ g. P (its_move object.zones g)) (rows.governors object ids all) → All P (flat_map (moves_of (id_of_override object ids all) object.zones ids) object.components)
moved-governors P object ids all moved = subst (All P) (moves_in object ids all) (All-map P (its_move object.zones) (rows.governors object ids all) moved)

-- Starts that are meant.

pub means-all : (object : Object) (ids : Stamp) (all : List ℤ) → All HasShortOffsets object.zones → MeansStarts object.zones (id_of_override object ids all)
means-all object ids all short = record { moment = λ v. refl; beside = λ s midnight. by_day s midnight (filter (λ r. names_start (reading_of object.zones ids) r (on_day midnight)) all) (filter_passes (λ r. names_start (reading_of object.zones ids) r (on_day midnight)) all) }
  where
    by_day : (s : Stamp) (midnight : ℤ) (rs : List ℤ) → All (λ r. names_start (reading_of object.zones ids) r (on_day midnight) ≡ true) rs → IsBeside midnight ((reading_of object.zones s).local (first_or_else ((reading_of object.zones ids).instant midnight) rs))
    by_day s midnight [] named = beside-midnight object.zones ids s midnight short
    by_day s midnight (r ∷ rs) named =
        beside-on_day object.zones ids s midnight r short (same_int-true midnight (midnight_of ((reading_of object.zones ids).local r)) (All-head (λ q. names_start (reading_of object.zones ids) q (on_day midnight) ≡ true) r rs named))

-- Offsets.

is_common-near : (o : ℤ) → is_common o ≡ true → IsNear 64800 o (pos 0)
is_common-near (pos k) w = let lt = ltb-true _ _ w in (omega (arith, ints, lt), omega (arith, ints, lt))
is_common-near (negsuc k) w = let lt = ltb-true _ _ w in (omega (arith, ints, lt), omega (arith, ints, lt))

all_common : (onsets : List Onset) → list_all (λ (o : Onset). is_common o.offset) onsets ≡ true → All (λ (o : Onset). IsNear 64800 o.offset (pos 0)) onsets
all_common [] w = All-nil (λ (o : Onset). IsNear 64800 o.offset (pos 0))
all_common (o ∷ os) w =
    let both = both_hold (is_common o.offset) (list_all (λ (o : Onset). is_common o.offset) os) w in
    All-cons (λ (o : Onset). IsNear 64800 o.offset (pos 0)) o os (is_common-near o.offset both.0) (all_common os both.1)

common-below : (zones : List ZoneTable) → list_all has_common_offsets zones ≡ true → All (HasOffsetsBelow 64800) zones
common-below [] w = All-nil (HasOffsetsBelow 64800)
common-below (z ∷ zs) w =
    let both = both_hold (has_common_offsets z) (list_all has_common_offsets zs) w in
    let its = both_hold (is_common z.before) (list_all (λ (o : Onset). is_common o.offset) z.onsets) both.0 in
    All-cons (HasOffsetsBelow 64800) z zs (record { before = is_common-near z.before its.0; after = all_common z.onsets its.1 }) (common-below zs both.1)

pub offsets-below : (zones : List ZoneTable) → All HasShortOffsets zones → All (HasOffsetsBelow (offset_bound zones)) zones
offsets-below zones short = elim (cases_Bool (list_all has_common_offsets zones)) [
  | inl w ↦ rw w (common-below zones w)
  | inr w ↦ rw w short
]

pub some_offset : (zones : List ZoneTable) → 0 < offset_bound zones
some_offset zones = elim (cases_Bool (list_all has_common_offsets zones)) [ inl w ↦ rw w (omega arith) | inr w ↦ rw w (omega arith) ]

pub bound_at_most : (zones : List ZoneTable) → offset_bound zones ≤ 86400
bound_at_most zones = elim (cases_Bool (list_all has_common_offsets zones)) [ inl w ↦ rw w (omega arith) | inr w ↦ rw w (omega arith) ]

-- what a stamp says that can be converted can be moved
module _ (zones : List ZoneTable) (short : All HasShortOffsets zones) where
  of_time : (z : ℤ) → IsRowTime z → IsNearName (at z)
  of_time z time = (omega (arith, ints, time), omega (arith, ints, time))

  pub near_name : (x ids : Stamp) → IsRowTime (written_value x) → IsNearName (align zones x ids)
  near_name x (Date d) time = let day = midnight_of-holds (written_value x) in (omega (arith, ints, day, time), omega (arith, ints, day, time))
  near_name (Date d) (Floating l) time = time
  near_name (Floating k) (Floating l) time = of_time (written_value (Floating k)) time
  near_name (Zoned k n) (Floating l) time = of_time (written_value (Zoned k n)) time
  near_name (Utc u) (Floating l) time = of_time u.0 time
  near_name (Date d) (Zoned l n) time = time
  near_name (Floating k) (Zoned l n) time = near_instant zones (Zoned l n) (written_value (Floating k)) short (omega (arith, ints, time), omega (arith, ints, time))
  near_name (Zoned k m) (Zoned l n) time = value_near zones (Zoned k m) short time
  near_name (Utc u) (Zoned l n) time = of_time u.0 time
  near_name (Date d) (Utc v) time = time
  near_name (Floating k) (Utc v) time = of_time (written_value (Floating k)) time
  near_name (Zoned k m) (Utc v) time = value_near zones (Zoned k m) short time
  near_name (Utc u) (Utc v) time = of_time u.0 time

-- Days that are enough.

named_moments : (xs : List Aligned) → list_all is_moment xs ≡ true → days_in xs ≡ []
named_moments [] w = refl
named_moments (at v ∷ xs) w = named_moments xs w
named_moments (on_day m ∷ xs) w = absurd cc

abbrev NamesNoDay : List ZoneTable → Stamp → Component → Type 0
NamesNoDay zones ids c = c.future ≡ true → id_days zones ids c ≡ []

all_moments : (xs ys : List Aligned) → list_all is_moment (xs ++ ys) ≡ true → (list_all is_moment xs ≡ true) × (list_all is_moment ys ≡ true)
all_moments [] ys w = (refl, w)
all_moments (at v ∷ xs) ys w = all_moments xs ys w
all_moments (on_day m ∷ xs) ys w = absurd cc

moments_one : (zones : List ZoneTable) (ids : Stamp) (number : ℕ) (c : Component) (cs : List Component) (id : Option Stamp) (later : Bool) → c.recurrence_id ≡ id → c.future ≡ later →
    list_all is_moment (flat_map (named_by zones ids) (filter moves_later (filter has_id (numbered_from number (c ∷ cs))))) ≡ true →
    NamesNoDay zones ids c × (list_all is_moment (flat_map (named_by zones ids) (filter moves_later (filter has_id (numbered_from (number + 1) cs)))) ≡ true)
moments_one zones ids number c cs None later e f w = (λ future. rw e refl, rw e at w)
moments_one zones ids number c cs (Some x) false e f w = (λ future. absurd cc, rw (e, f) at w)
moments_one zones ids number c cs (Some x) true e f w =
    let both = all_moments (align zones x ids ∷ []) (flat_map (named_by zones ids) (filter moves_later (filter has_id (numbered_from (number + 1) cs)))) (rw (e, f) at w) in
    (λ future. rw e (named_moments (align zones x ids ∷ []) both.0), both.1)

moments_from : (zones : List ZoneTable) (ids : Stamp) (number : ℕ) (cs : List Component) → list_all is_moment (flat_map (named_by zones ids) (filter moves_later (filter has_id (numbered_from number cs)))) ≡ true → All (NamesNoDay zones ids) cs
moments_from zones ids number [] w = All-nil (NamesNoDay zones ids)
moments_from zones ids number (c ∷ cs) w =
    let both = moments_one zones ids number c cs c.recurrence_id c.future refl refl w in
    All-cons (NamesNoDay zones ids) c cs both.0 (moments_from zones ids (number + 1) cs both.1)

-- the days that an object's cost counts are enough for each of its components
pub enough-apart : (object : Object) (ids : Stamp) → Some ids ≡ ids_start object → All (AreEnoughDays object.zones ids (days_apart object)) object.components
enough-apart object ids aligned = elim (cases_Bool (names_moments object (ids_start object))) [
  | inl w ↦ (
      let its : names_moments object (Some ids) ≡ true = ap (names_moments object) aligned ∙ w in
      All-weaker (NamesNoDay object.zones ids) (AreEnoughDays object.zones ids (days_apart object))
      (λ c none. record { offsets = by_offsets (list_all has_common_offsets object.zones) refl (names_moments object (ids_start object)); named = λ future. subst (All (λ midnight. 9 ≤ days_apart object)) (sym (none future)) (All-nil (λ midnight. 9 ≤ days_apart object)) })
      object.components (moments_from object.zones ids 0 object.components its)
      )
  | inr w ↦ All-everywhere (AreEnoughDays object.zones ids (days_apart object))
      (λ c. record { offsets = by_offsets (list_all has_common_offsets object.zones) refl (names_moments object (ids_start object)); named = λ future. All-everywhere (λ midnight. 9 ≤ days_apart object) (λ midnight. nine w) (id_days object.zones ids c) })
      object.components
]
  where
    by_offsets : (b : Bool) → list_all has_common_offsets object.zones ≡ b → (moments : Bool) → 4 * (if b then 64_800 else 86_400) ≤ 86400 * (if b && moments then 3 else 9)
    by_offsets true e true = omega arith
    by_offsets true e false = omega arith
    by_offsets false e true = omega arith
    by_offsets false e false = omega arith

    by_both : (b : Bool) → 9 ≤ (if b && false then 3 else 9)
    by_both true = omega arith
    by_both false = omega arith

    nine : names_moments object (ids_start object) ≡ false → 9 ≤ days_apart object
    nine w = rw w (by_both (list_all has_common_offsets object.zones))

-- Local days.

pub movers-days : (object : Object) (ids : Stamp) (range : Digits) → All (HasDay range) (days_of_movers object.zones ids object.components) → All (λ o. moves_later o ≡ true → All (HasDay range) (days_in (named_by object.zones ids o))) (overrides object)
movers-days object ids range days =
    let each = All-each_part (HasDay range) (λ (c : Component). if c.future then id_days object.zones ids c else []) object.components days in
    All-filter has_id (λ (n : Numbered). moves_later n ≡ true → All (HasDay range) (days_in (named_by object.zones ids n))) (numbered object)
    (All-numbered_from (λ (n : Numbered). moves_later n ≡ true → All (HasDay range) (days_in (named_by object.zones ids n))) 0 object.components
    (λ i j c e found later. let its = All-slice_get (λ (c : Component). All (HasDay range) (if c.future then id_days object.zones ids c else [])) object.components i c each found in rw later at its))

-- What a range has for an override.

-- what is left of a range behind some digits has all of it that lies there
part_has : (low : ℤ) (whole range : Digits) (l : ℤ) → All (HasRange range) (parts_from low whole) → whole.low ≤ℤ l → l <ℤ whole.high → low ≤ℤ l → (range.low ≤ℤ l) × (l <ℤ range.high)
part_has low whole range l wider from to behind = elim (cases_Bool (int_le whole.high low)) [
  | inl w ↦ absurd (let none : whole.high ≤ℤ low = grind (arith, ints, w) in omega (arith, ints, none, to, behind))
  | inr w ↦ (
      let part : Digits = record { low = int_max whole.low low; high = whole.high } in
      let has = All-head (HasRange range) part [] (rw w at wider) in
      let first = has.from in
      let last = has.to in
      let most = max_least whole.low low l from behind in
      (omega (arith, ints, first, most), omega (arith, ints, last, to))
      )
]

part_ends : (low z : ℤ) (whole : Digits) → whole.high ≤ℤ z → All (λ (part : Digits). part.high ≤ℤ z) (parts_from low whole)
part_ends low z whole by = elim (cases_Bool (int_le whole.high low)) [
  | inl w ↦ rw w (All-nil (λ (part : Digits). part.high ≤ℤ z))
  | inr w ↦ rw w (All-cons (λ (part : Digits). part.high ≤ℤ z) (record { low = int_max whole.low low; high = whole.high }) [] by (All-nil (λ (part : Digits). part.high ≤ℤ z)))
]

moved_by_name : (zones : List ZoneTable) (window : ℤ) (s : Stamp) (x : Aligned) (parts : List Digits) (range : Digits) (name : Aligned → ℤ) → MeansStarts zones name → IsMovedFrom zones window s x parts → All (HasRange range) parts →
    HasMove (offset_bound zones) window range (move_from zones name s x)
moved_by_name zones window s (at v) parts range name means is wider =
    let same = means.moment v in
    let whole = is.0 in
    let low = is.1.0.0 in
    let high = is.1.0.1 in
    let inside = rw is.1.1 at wider in
    rw same (record { has = λ l from to behind. part_has (v -ℤ pos 86400) whole range l inside (omega (arith, ints, low, from)) (omega (arith, ints, high, to)) (omega (arith, ints, behind)) })
moved_by_name zones window s (on_day m) parts range name means is wider =
    let beside = means.beside s m in
    let before = beside.from in
    let behind = beside.to in
    let low = is.1.0.0 in
    let high = is.1.0.1 in
    let has = All-head (HasRange range) is.0 [] (rw is.1.1 at wider) in
    let first = has.from in
    let last = has.to in
    let most = bound_at_most zones in
    record { has = λ l from to later. (omega (arith, ints, low, first, from, before, behind, most), omega (arith, ints, high, last, to, before, behind, most)) }

ends_by_name : (zones : List ZoneTable) (window : ℤ) (s : Stamp) (x : Aligned) (parts : List Digits) (name : Aligned → ℤ) (days : ℕ) (z : ℤ) → MeansStarts zones name → IsMovedFrom zones window s x parts →
    4 * offset_bound zones ≤ 86400 * days → All (λ midnight. 9 ≤ days) (days_in (x ∷ [])) → EndsMovedBy window days z (move_from zones name s x) → All (λ (part : Digits). part.high ≤ℤ z) parts
ends_by_name zones window s (at v) parts name days z means is offsets named ends =
    let same = means.moment v in
    let high = is.1.0.1 in
    let by = rw same at ends in
    rw is.1.1 (part_ends (v -ℤ pos 86400) z is.0 (omega (arith, ints, high, by, offsets)))
ends_by_name zones window s (on_day m) parts name days z means is offsets named ends =
    let beside = means.beside s m in
    let before = beside.from in
    let behind = beside.to in
    let high = is.1.0.1 in
    let nine = All-head (λ midnight. 9 ≤ days) m [] named in
    rw is.1.1 (All-cons (λ (part : Digits). part.high ≤ℤ z) is.0 [] (omega (arith, ints, high, before, behind, nine, ends)) (All-nil (λ (part : Digits). part.high ≤ℤ z)))

-- for a component from a stamp, by its RECURRENCE-ID
pub has-moved : (zones : List ZoneTable) (ids : Stamp) (window : ℤ) (c : Component) (s id : Stamp) (parts : List Digits) → c.future ≡ true → own_start c ≡ Some s → c.recurrence_id ≡ Some id → IsMovedFrom zones window s (align zones id ids) parts →
    HasMovedOf zones ids window c parts
has-moved zones ids window c s id parts later own named is = λ name range means wider.
    let here = moved_by_name zones window s (align zones id ids) parts range name means is wider in
    rw (later, own, named) (All-cons (HasMove (offset_bound zones) window range) (move_from zones name s (align zones id ids)) [] here (All-nil (HasMove (offset_bound zones) window range)))

pub ends-moved : (zones : List ZoneTable) (ids : Stamp) (window : ℤ) (c : Component) (s id : Stamp) (parts : List Digits) → c.future ≡ true → own_start c ≡ Some s → c.recurrence_id ≡ Some id → IsMovedFrom zones window s (align zones id ids) parts →
    EndsByMoved zones ids window c parts
ends-moved zones ids window c s id parts later own named is = λ name days z means enough ends.
    let nine : All (λ midnight. 9 ≤ days) (days_in (align zones id ids ∷ [])) = rw named at (enough.named later) in
    let by : EndsMovedBy window days z (move_from zones name s (align zones id ids)) = All-head (EndsMovedBy window days z) (move_from zones name s (align zones id ids)) [] (rw (later, own, named) at ends) in
    ends_by_name zones window s (align zones id ids) parts name days z means is enough.offsets nine by

-- Some components of which none moves later instances.
no_moves : (zones : List ZoneTable) (ids : Stamp) (name : Aligned → ℤ) (cs : List Component) → list_any (λ (c : Component). c.future) cs ≡ false → flat_map (moves_of name zones ids) cs ≡ []
no_moves zones ids name [] none = refl
no_moves zones ids name (c ∷ cs) none = elim (cases_Bool c.future) [
  | inl w ↦ absurd (let e = rw w at none in cc)
  | inr w ↦ rw w (no_moves zones ids name cs (rw w at none))
]

no_days : (zones : List ZoneTable) (ids : Stamp) (cs : List Component) → list_any (λ (c : Component). c.future) cs ≡ false → days_of_movers zones ids cs ≡ []
no_days zones ids [] none = refl
no_days zones ids (c ∷ cs) none = elim (cases_Bool c.future) [
  | inl w ↦ absurd (let e = rw w at none in cc)
  | inr w ↦ rw w (no_days zones ids cs (rw w at none))
]

pub moved-none : (zones : List ZoneTable) (ids : Stamp) (window : ℤ) (cs : List Component) (range : Digits) → list_any (λ (c : Component). c.future) cs ≡ false → HasMovedOfAll zones ids window cs range
moved-none zones ids window cs range none = λ name means. subst (All (HasMove (offset_bound zones) window range)) (sym (no_moves zones ids name cs none)) (All-nil (HasMove (offset_bound zones) window range))

pub days-none : (zones : List ZoneTable) (ids : Stamp) (cs : List Component) (range : Digits) → list_any (λ (c : Component). c.future) cs ≡ false → All (HasDay range) (days_of_movers zones ids cs)
days-none zones ids cs range none = subst (All (HasDay range)) (sym (no_days zones ids cs none)) (All-nil (HasDay range))

-- Component by component.

-- What a range has so far, where some components are left: whatever has it and what those may move has what all may move, and it ends no later than a first one and these.
pub record IsMovedSoFar (zones : List ZoneTable) (ids : Stamp) (window : ℤ) (first : Digits) (all rest : List Component) (range : Digits) : Type 0 where
  pub has_first : HasRange range first
  pub moved : (wide : Digits) → HasRange wide range → HasMovedOfAll zones ids window rest wide → HasMovedOfAll zones ids window all wide
  pub days : (wide : Digits) → HasRange wide range → All (HasDay wide) (days_of_movers zones ids rest) → All (HasDay wide) (days_of_movers zones ids all)
  pub least : (z : ℤ) → first.high ≤ℤ z → IsBehind zones ids window all z → (range.high ≤ℤ z) × IsBehind zones ids window rest z

itself : (range : Digits) → HasRange range range
itself range = record { from = omega (arith, ints); to = omega (arith, ints) }

module _ (zones : List ZoneTable) (ids : Stamp) (window : ℤ) where
  pub moved_first : (first : Digits) (all : List Component) → IsMovedSoFar zones ids window first all all first
  moved_first first all = record { has_first = itself first; moved = λ wide has moved. moved; days = λ wide has days. days; least = λ z by behind. (by, behind) }

  behind_rest : (c : Component) (cs : List Component) (z : ℤ) → IsBehind zones ids window (c ∷ cs) z → IsBehind zones ids window cs z
  behind_rest c cs z behind = record {
    name = behind.name;
    days = behind.days;
    means = behind.means;
    enough = All-tail (AreEnoughDays zones ids behind.days) c cs behind.enough;
    named = All-right (EndsBefore z) (id_days zones ids c) (flat_map (id_days zones ids) cs) behind.named;
    moved = All-right (EndsMovedBy window behind.days z) (moves_of behind.name zones ids c) (flat_map (moves_of behind.name zones ids) cs) behind.moved;
  }

  mover_days : (P : ℤ → Type 0) (c : Component) → All P (id_days zones ids c) → All P (days_of_movers zones ids (c ∷ []))
  mover_days P c days = rw (append-nil (if c.future then id_days zones ids c else [])) (either c.future)
    where
      either : (later : Bool) → All P (if later then id_days zones ids c else [])
      either true = days
      either false = All-nil P

  pub moved_more : (first : Digits) (all : List Component) (c : Component) (cs : List Component) (range next wide : Digits) (days : List ℤ) (parts : List Digits) → IsMovedSoFar zones ids window first all (c ∷ cs) range →
      days ≡ days_of_movers zones ids (c ∷ []) → HasRange next range → All (HasDay next) days → ((z : ℤ) → range.high ≤ℤ z → All (EndsBefore z) days → next.high ≤ℤ z) →
      HasRange wide next → All (HasRange wide) parts → ((z : ℤ) → next.high ≤ℤ z → All (λ (part : Digits). part.high ≤ℤ z) parts → wide.high ≤ℤ z) →
      HasMovedOf zones ids window c parts → EndsByMoved zones ids window c parts → IsMovedSoFar zones ids window first all cs wide
  moved_more first all c cs range next wide days parts so_far is next_has day next_least wide_has part wide_least moved ends = record {
    has_first = has_range wide range first (has_range wide next range wide_has next_has) so_far.has_first;
    moved = λ wider has rest. so_far.moved wider (has_range wider wide range has (has_range wide next range wide_has next_has))
        (λ name means. All-append (HasMove (offset_bound zones) window wider) (moves_of name zones ids c) (flat_map (moves_of name zones ids) cs)
        (moved name wider means (All-weaker (HasRange wide) (HasRange wider) (λ p it. has_range wider wide p has it) parts part)) (rest name means));
    days = λ wider has rest. so_far.days wider (has_range wider wide range has (has_range wide next range wide_has next_has))
        (All-append (HasDay wider) (if c.future then id_days zones ids c else []) (days_of_movers zones ids cs)
        (subst (All (HasDay wider)) (is ∙ append-nil (if c.future then id_days zones ids c else [])) (All-weaker (HasDay next) (HasDay wider) (λ midnight here. has_day wider next midnight (has_range wider wide next has wide_has) here) days day)) rest);
    least = λ z by behind.
        let before = so_far.least z by behind in
        let its = before.1 in
        let named = mover_days (EndsBefore z) c (All-left (EndsBefore z) (id_days zones ids c) (flat_map (id_days zones ids) cs) its.named) in
        let here = next_least z before.0 (subst (All (EndsBefore z)) (sym is) named) in
        let its_parts = ends its.name its.days z its.means (All-head (AreEnoughDays zones ids its.days) c cs its.enough) (All-left (EndsMovedBy window its.days z) (moves_of its.name zones ids c) (flat_map (moves_of its.name zones ids) cs) its.moved) in
        (wide_least z here its_parts, behind_rest c cs z its);
  }

  pub moved_all : (first : Digits) (all rest : List Component) (range : Digits) → IsMovedSoFar zones ids window first all rest range → length rest ≡ 0 → HasMovedOfAll zones ids window all range
  moved_all first all [] range so_far none = so_far.moved range (itself range) (λ name means. All-nil (HasMove (offset_bound zones) window range))
  moved_all first all (c ∷ cs) range so_far none = absurd (omega (arith, none))

  pub days_all : (first : Digits) (all rest : List Component) (range : Digits) → IsMovedSoFar zones ids window first all rest range → length rest ≡ 0 → All (HasDay range) (days_of_movers zones ids all)
  days_all first all [] range so_far none = so_far.days range (itself range) (All-nil (HasDay range))
  days_all first all (c ∷ cs) range so_far none = absurd (omega (arith, none))

  -- the local days of own rows are among those that are named
  needed-named : (P : ℤ → Type 0) (cs : List Component) → All P (flat_map (id_days zones ids) cs) → All P (flat_map (days_needed zones ids window) cs)
  needed-named P cs named =
      All-flat_map P (days_needed zones ids window) cs
      (All-weaker (λ c. All P (id_days zones ids c)) (λ c. All P (days_needed zones ids window c)) one cs (All-each_part P (id_days zones ids) cs named))
    where
      one : (c : Component) → All P (id_days zones ids c) → All P (days_needed zones ids window c)
      one c days = All-flat_map P (days_of_start zones ids window c) (option_to_list (own_start c)) (All-everywhere (λ s. All P (days_of_start zones ids window c s)) (λ s. if_there (same_int (window_at ((reading_of zones s).local (value_of zones s))) window)) (option_to_list (own_start c)))
        where
          if_there : (b : Bool) → All P (if b then id_days zones ids c else [])
          if_there true = days
          if_there false = All-nil P

  module _ (cs : List Component) (own : Digits) (has : HasWindow window own) (days : All (HasDay own) (flat_map (days_needed zones ids window) cs))
      (least : (z : ℤ) → ((window +ℤ pos 1) *ℤ window_seconds) ≤ℤ z → All (EndsBefore z) (flat_map (days_needed zones ids window) cs) → own.high ≤ℤ z) where
    pub needed-moved : (range : Digits) → HasRange range own → HasMovedOfAll zones ids window cs range → All (HasDay range) (days_of_movers zones ids cs) → ((z : ℤ) → own.high ≤ℤ z → IsBehind zones ids window cs z → range.high ≤ℤ z) → IsNeeded zones ids cs window range
    needed-moved range wider moved their_days end = record {
      its = (let of = has.from in let ot = has.to in let wf = wider.from in let wt = wider.to in record { from = omega (arith, ints, of, wf); to = omega (arith, ints, ot, wt) });
      days = All-weaker (HasDay own) (HasDay range) (λ midnight here. has_day range own midnight wider here) (flat_map (days_needed zones ids window) cs) days;
      moved = moved;
      their_days = their_days;
      least = λ z by behind. end z (least z by (needed-named (EndsBefore z) cs behind.named)) behind;
    }

    pub needed-alone : list_any (λ (c : Component). c.future) cs ≡ false → IsNeeded zones ids cs window own
    needed-alone none = needed-moved own (itself own) (moved-none zones ids window cs own none) (days-none zones ids cs own none) (λ z by behind. by)

-- An object.

-- what its window needs beside all starts
pub needed-for : (object : Object) (ids : Stamp) (needed : Needed) → Some ids ≡ ids_start object → All HasShortOffsets object.zones → HasNeeded object.zones ids object.components needed → IsNeededFor object ids (offset_bound object.zones) needed
needed-for object ids needed aligned short is =
    let all = starts every_moment object in
    let name = id_of_override object ids all in
    let means = means-all object ids all short in
    record {
      window = is.its;
      days = is.days;
      moved = governors-moved (HasMove (offset_bound object.zones) needed.window needed.range) object ids all (is.moved name means);
      their_days = movers-days object ids needed.range is.their_days;
      least = λ z by named moved. is.least z by
          (record { name = name; days = days_apart object; means = means; enough = enough-apart object ids aligned; named = named; moved = moved-governors (EndsMovedBy needed.window (days_apart object) z) object ids all moved });
    }
