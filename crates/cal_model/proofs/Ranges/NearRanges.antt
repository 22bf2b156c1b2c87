-- A range that a row meets, or one of its alarms, lies within the object's margin of the row's window.
use Rattle.std.proofs.Common.{◌≡◌, ℕ, zero, suc, ◌+◌, ◌-◌, ◌*◌, ◌<◌, ◌≤◌, List, map, refl, arith, Bool, true, false, ℤ, pos, negsuc, ◌+ℤ◌, ◌-ℤ◌, ◌*ℤ◌, ◌<ℤ◌, ◌≤ℤ◌, ◌⊎◌, inl, inr}
use Rattle.std.specs.Prelude.{All, flat_map, option_map, option_to_list, is_some, int_lt, int_le, unsigned_abs, slice_get, ◌&&◌, ◌||◌, Option, Some, None}
use Rattle.std.specs.Int.{int_div_euclid}
use Rattle.std.specs.List.{list_any}
use Rattle.std.proofs.Math.Nat.{mul-le-mul_right}
use Rattle.std.proofs.lemmas.Int.{ints}
use Rattle.std.proofs.lemmas.Bool.{cases_Bool}
use Rattle.std.proofs.lemmas.List.Elements.{All-weaker}
use Rattle.cal_moment.specs.declared.stamp.Length.{Length}
use Rattle.cal_moment.specs.declared.stamp.Stamp.{Stamp}
use Rattle.cal_moment.specs.declared.stamp.Stamp.TheVariants.{Date, Floating, Zoned, Utc}
use Rattle.cal_model.specs.declared.object.Alarm.{Alarm}
use Rattle.cal_model.specs.declared.object.Component.{Component}
use Rattle.cal_model.specs.declared.object.Object.{Object}
use Rattle.cal_model.specs.declared.object.Kind.{Kind}
use Rattle.cal_model.specs.declared.object.Kind.TheVariants.{Event, Todo, Journal, FreeBusy}
use Rattle.cal_model.specs.declared.object.Extent.{Extent}
use Rattle.cal_model.specs.declared.object.Extent.TheVariants as extent
use Rattle.cal_model.specs.declared.object.Related.{Related}
use Rattle.cal_model.specs.declared.object.Related.TheVariants as related
use Rattle.cal_model.specs.declared.object.Trigger.TheVariants as trigger
use Rattle.cal_model.specs.declared.row.Fixed.{Fixed}
use Rattle.cal_model.specs.declared.row.Range.{Range}
use Rattle.cal_model.specs.declared.row.Row.{Row}
use Rattle.cal_model.specs.declared.zone.ZoneTable.{ZoneTable}
use Rattle.cal_model.specs.Words.Lists.{counted_from}
use Rattle.cal_model.specs.Instances.Alignment.{reading_of}
use Rattle.cal_model.specs.Instances.Starts.{own_start, own_start_of}
use Rattle.cal_model.specs.Instances.Rows.{is_dated, rows_over, nominal_start, window_of, window_seconds}
use Rattle.cal_model.specs.Ranges.Overlap.{Line, spans, begins, lasts, runs_to_due, due_alone, completed_and_created, completed, created, stated, stored, always, never, holds, is_positive, line_of, line_of_kind, line_of_event, line_of_todo, line_of_journal, line_of_free_busy, in_zone, fixed, lasts_its_day, row_for_range, row_overlaps, dated_fixed, seconds_of, has_end, moment_related, is_in, some_trigger, alarm_overlaps}
use Rattle.cal_model.specs.Ranges.Cost.{longest, alarm_reach, alarms_reach, margin, window_meets}
use Rattle.cal_model.specs.Ranges.Nearness.{IsNear, HasShortOffsets, HasNearRows, MeetsNear, GoesOffNear}
use Rattle.cal_model.proofs.Ranges.RowBounds.{in_zone-near}
use Rattle.cal_model.proofs.Words.AllLemmas.{All-each_part, All-unmap, All-slice_get}
use Rattle.cal_model.proofs.Instances.EachRowLemmas.{All-greatest}
use Rattle.cal_model.proofs.Ranges.NearRows.{IsRowOf, rows-of_components}

-- Windows.

-- a number lies in its window
pub window-holds : (n : ℤ) → ((int_div_euclid n window_seconds *ℤ window_seconds) ≤ℤ n) × (n <ℤ ((int_div_euclid n window_seconds +ℤ pos 1) *ℤ window_seconds))
window-holds (pos a) = (omega (arith, ints), omega (arith, ints))
window-holds (negsuc a) = (omega (arith, ints), omega (arith, ints))

-- Lines that look at the instance.

abbrev is_of_times : Line → Bool
is_of_times (completed_and_created done made) = false
is_of_times (completed done) = false
is_of_times (created made) = false
is_of_times (stored periods) = false
is_of_times always = false
is_of_times other = true

-- some end of the instance isn't before the range, and some isn't after it
Touches : ℤ → ℤ → ℤ → ℤ → Type 0
Touches a b s e = ((a ≤ℤ s) ⊎ (a ≤ℤ e)) × ((s ≤ℤ b) ⊎ (e ≤ℤ b))

both_true : (x y : Bool) → (x && y) ≡ true → (x ≡ true) × (y ≡ true)
both_true true true h = (refl, refl)
both_true true false h = absurd cc
both_true false y h = absurd cc

not_after : (s e b : ℤ) → (int_lt s b || int_le e b) ≡ true → (s ≤ℤ b) ⊎ (e ≤ℤ b)
not_after s e b h = elim (cases_Bool (int_lt s b)) [
  | inl w ↦ inl (grind (arith, ints, w))
  | inr w ↦ (let later : int_le e b ≡ true = rw w at h in inr (grind (arith, ints, later)))
]

not_before : (s e a : ℤ) → (int_lt a e || int_le a s) ≡ true → (a ≤ℤ s) ⊎ (a ≤ℤ e)
not_before s e a h = elim (cases_Bool (int_lt a e)) [
  | inl w ↦ inr (grind (arith, ints, w))
  | inr w ↦ (let earlier : int_le a s ≡ true = rw w at h in inl (grind (arith, ints, earlier)))
]

holds-touches : (line : Line) (a b s e : ℤ) → is_of_times line ≡ true → holds line a b s e ≡ true → Touches a b s e
unfolding Touches
holds-touches spans a b s e t h = (inr (grind (arith, ints, h)), inl (grind (arith, ints, h)))
holds-touches begins a b s e t h = (inl (grind (arith, ints, h)), inl (grind (arith, ints, h)))
holds-touches lasts a b s e t h = let parts = both_true (int_le a e) (int_lt s b || int_le e b) h in let first = parts.0 in (inr (grind (arith, ints, first)), not_after s e b parts.1)
holds-touches runs_to_due a b s e t h = let parts = both_true (int_lt a e || int_le a s) (int_lt s b || int_le e b) h in (not_before s e a parts.0, not_after s e b parts.1)
holds-touches due_alone a b s e t h = (inr (grind (arith, ints, h)), inr (grind (arith, ints, h)))
holds-touches (completed_and_created done made) a b s e t h = absurd cc
holds-touches (completed done) a b s e t h = absurd cc
holds-touches (created made) a b s e t h = absurd cc
holds-touches stated a b s e t h = (inr (grind (arith, ints, h)), inl (grind (arith, ints, h)))
holds-touches (stored periods) a b s e t h = absurd cc
holds-touches always a b s e t h = absurd cc
holds-touches never a b s e t h = absurd cc

event_line : (start : Option Stamp) (end : Extent) → is_of_times (line_of_event start end) ≡ true
event_line None end = refl
event_line (Some s) (extent.End e) = refl
event_line (Some s) (extent.Lasting length) = elim (cases_Bool (is_positive length)) [ inl w ↦ rw w refl | inr w ↦ rw w refl ]
event_line (Some s) extent.WholeDay = refl
event_line (Some s) extent.Point = refl
event_line (Some s) (extent.Due e) = refl
event_line (Some s) extent.None = refl

todo_line : (start : Option Stamp) (end : Extent) (by_dates : Line) (s : Stamp) → own_start_of Todo start end ≡ Some s → is_of_times (line_of_todo start end by_dates) ≡ true
todo_line (Some t) (extent.End e) by_dates s own = refl
todo_line (Some t) (extent.Lasting length) by_dates s own = refl
todo_line (Some t) extent.WholeDay by_dates s own = refl
todo_line (Some t) extent.Point by_dates s own = refl
todo_line (Some t) (extent.Due e) by_dates s own = refl
todo_line (Some t) extent.None by_dates s own = refl
todo_line None (extent.Due e) by_dates s own = refl
todo_line None (extent.End e) by_dates s own = absurd cc
todo_line None (extent.Lasting length) by_dates s own = absurd cc
todo_line None extent.WholeDay by_dates s own = absurd cc
todo_line None extent.Point by_dates s own = absurd cc
todo_line None extent.None by_dates s own = absurd cc

journal_line : (start : Option Stamp) → is_of_times (line_of_journal start) ≡ true
journal_line None = refl
journal_line (Some (Date d)) = refl
journal_line (Some (Floating l)) = refl
journal_line (Some (Zoned l number)) = refl
journal_line (Some (Utc u)) = refl

free_busy_line : (start : Option Stamp) (end : Extent) (periods : List (ℤ × ℤ)) (s : Stamp) → own_start_of FreeBusy start end ≡ Some s → is_of_times (line_of_free_busy start end periods) ≡ true
free_busy_line (Some t) (extent.End e) periods s own = refl
free_busy_line None (extent.End e) periods s own = absurd cc
free_busy_line start (extent.Lasting length) periods s own = absurd cc
free_busy_line start extent.WholeDay periods s own = absurd cc
free_busy_line start extent.Point periods s own = absurd cc
free_busy_line start (extent.Due e) periods s own = absurd cc
free_busy_line start extent.None periods s own = absurd cc

line_of-of_times : (c : Component) (s : Stamp) → own_start c ≡ Some s → is_of_times (line_of c) ≡ true
line_of-of_times c s own = at_kind c.kind refl
  where
    at_kind : (k : Kind) → c.kind ≡ k → is_of_times (line_of_kind k c) ≡ true
    at_kind Event e = event_line c.start c.extent
    at_kind Todo e = todo_line c.start c.extent _ s (rw e at own)
    at_kind Journal e = journal_line c.start
    at_kind FreeBusy e = free_busy_line c.start c.extent _ s (rw e at own)

-- Rows.

-- both moments of a row, in a zone, lie near its nominal start
pub record LiesNear (n : ℕ) (at : Fixed) (nominal : ℤ) : Type 0 where
  pub start : IsNear n at.start nominal
  pub end : IsNear n at.end nominal

reaches : (n : ℕ) (at : Fixed) (range : Range) (nominal : ℤ) → LiesNear n at nominal → Touches range.start.0 range.end.0 at.start at.end → ((range.start.0 -ℤ pos n) <ℤ nominal) × (nominal <ℤ (range.end.0 +ℤ pos n))
unfolding Touches
reaches n at range nominal near touch =
    let first = near.start in let last = near.end in (
      elim touch.0 [ inl le ↦ omega (arith, ints, first, le) | inr le ↦ omega (arith, ints, last, le) ],
      elim touch.1 [ inl le ↦ omega (arith, ints, first, le) | inr le ↦ omega (arith, ints, last, le) ],
    )

-- a nominal start that a widened range has lies in a window that the widened range meets
pub window_meets-of : (m n : ℕ) (range : Range) (nominal : ℤ) → n ≤ m → ((range.start.0 -ℤ pos n) <ℤ nominal) × (nominal <ℤ (range.end.0 +ℤ pos n)) → window_meets m range (int_div_euclid nominal window_seconds) ≡ true
window_meets-of m n range nominal le near =
    let lies = window-holds nominal in
    let first = near.0 in let last = near.1 in
    let low : (range.start.0 -ℤ pos m) <ℤ ((int_div_euclid nominal window_seconds +ℤ pos 1) *ℤ window_seconds) = omega (arith, ints, lies, first, le) in
    let high : (int_div_euclid nominal window_seconds *ℤ window_seconds) <ℤ (range.end.0 +ℤ pos m) = omega (arith, ints, lies, last, le) in
    grind (arith, ints, low, high)

nominal_start-is : (object : Object) (row : Row) (is : IsRowOf object row) → nominal_start object row ≡ (reading_of object.zones is.stamp).local row.start
nominal_start-is object row is = rw (is.found, is.own) refl

-- the moments of a row, with any end that is near its start
pub moments-near : (object : Object) (row : Row) (zone : ZoneTable) (is : IsRowOf object row) (end : ℤ) → HasNearRows object → HasShortOffsets zone → IsNear (172800 + longest object) end row.start →
    LiesNear (259200 + longest object) (record { start = in_zone row.kind zone row.start; end = in_zone row.kind zone end }) (nominal_start object row)
moments-near object row zone is end near short last =
    let itself : IsNear (172800 + longest object) row.start row.start = (omega (arith, ints), omega (arith, ints)) in
    let at_start = in_zone-near object.zones zone is.stamp row.start row.start (172800 + longest object) near.offsets short itself in
    let at_end = in_zone-near object.zones zone is.stamp row.start end (172800 + longest object) near.offsets short last in
    let sum : 86400 + (172800 + longest object) ≡ 259200 + longest object = omega arith in
    rw (nominal_start-is object row is, is.kind) (record { start = rw sum at at_start; end = rw sum at at_end })

range_moments-near : (object : Object) (row : Row) (zone : ZoneTable) (c : Component) → HasNearRows object → HasShortOffsets zone → IsRowOf object row →
    LiesNear (259200 + longest object) (fixed (row_for_range c row) zone) (nominal_start object row)
range_moments-near object row zone c near short is = elim (cases_Bool (lasts_its_day c.kind row.kind)) [
  | inl w ↦ rw w (moments-near object row zone is (row.start +ℤ pos 86400) near short (omega (arith, ints), omega (arith, ints)))
  | inr w ↦ rw w (moments-near object row zone is row.end near short is.end_near)
]

-- a range that a row meets, widened by the margin, meets the row's window
pub row_overlaps-near : (object : Object) (row : Row) (zone : ZoneTable) (range : Range) → HasNearRows object → HasShortOffsets zone → (is : IsRowOf object row) →
    row_overlaps is.component row range zone ≡ true → window_meets (margin object) range (window_of object row) ≡ true
row_overlaps-near object row zone range near short is meets =
    let at = fixed (row_for_range is.component row) zone in
    let touch = holds-touches (line_of is.component) range.start.0 range.end.0 at.start at.end (line_of-of_times is.component is.stamp is.own) meets in
    window_meets-of (margin object) (259200 + longest object) range (nominal_start object row) (omega arith)
    (reaches (259200 + longest object) at range (nominal_start object row) (range_moments-near object row zone is.component near short is) touch)

-- Alarms.

-- a number in a row passes
some_counted : (p : ℕ → Bool) (first n : ℕ) → list_any p (counted_from first n) ≡ true → (k : ℕ) × (k < first + n) × (p k ≡ true)
unfolding counted_from
some_counted p first zero h = absurd cc
some_counted p first (suc n) h = elim (cases_Bool (p first)) [
  | inl w ↦ (first, omega arith, w)
  | inr w ↦ (let r = some_counted p (first + 1) n (rw w at h) in let b = r.1 in (r.0, omega (arith, b), r.2))
]

-- repeats lie no farther than the last
repeat_near : (k n : ℕ) (t z : ℤ) → k ≤ n → IsNear (1 + n * unsigned_abs z) (t +ℤ pos k *ℤ z) t
repeat_near k n t (pos m) le = let more = mul-le-mul_right m le in (omega (arith, ints, more), omega (arith, ints, more))
repeat_near k n t (negsuc m) le = let more = mul-le-mul_right (suc m) le in (omega (arith, ints, more), omega (arith, ints, more))

-- a trigger counts from the start or the end of the instance
from_moment : (r : Related) (c : Component) (at : Fixed) (z : ℤ) (g : ℤ → Bool) → list_any g (option_to_list (option_map (λ t. t +ℤ z) (moment_related r c (Some at)))) ≡ true →
    (t : ℤ) × ((t ≡ at.start) ⊎ (t ≡ at.end)) × (g (t +ℤ z) ≡ true)
from_moment related.Start c at z g h = elim (cases_Bool (is_some c.start)) [
  | inl w ↦ (let e = rw w at h in (at.start, inl refl, elim (cases_Bool (g (at.start +ℤ z))) [ inl v ↦ v | inr v ↦ absurd (grind (arith, e, v)) ]))
  | inr w ↦ (let e = rw w at h in absurd cc)
]
from_moment related.End c at z g h = elim (cases_Bool (has_end c.extent)) [
  | inl w ↦ (let e = rw w at h in (at.end, inr refl, elim (cases_Bool (g (at.end +ℤ z))) [ inl v ↦ v | inr v ↦ absurd (grind (arith, e, v)) ]))
  | inr w ↦ (let e = rw w at h in absurd cc)
]

alarm_near : (n : ℕ) (alarm : Alarm) (c : Component) (at : Fixed) (range : Range) (nominal : ℤ) (r : Related) (length : Length) → alarm.trigger ≡ trigger.From r length → LiesNear n at nominal →
    alarm_overlaps alarm c (Some at) range ≡ true → ((range.start.0 -ℤ pos (n + (1 + alarm_reach alarm))) <ℤ nominal) × (nominal <ℤ (range.end.0 +ℤ pos (n + (1 + alarm_reach alarm))))
alarm_near n alarm c at range nominal r length e near h =
    let from = from_moment r c at (seconds_of length) (some_trigger alarm range) (rw e at h) in
    let again = some_counted (λ k. is_in range (from.0 +ℤ seconds_of length +ℤ pos k *ℤ seconds_of alarm.gap)) 0 (alarm.repeat + 1 - 0) from.2 in
    let below = again.1 in
    let few : again.0 ≤ alarm.repeat = omega (arith, below) in
    let far = repeat_near again.0 alarm.repeat (from.0 +ℤ seconds_of length) (seconds_of alarm.gap) few in
    let inside = both_true (int_le range.start.0 (from.0 +ℤ seconds_of length +ℤ pos again.0 *ℤ seconds_of alarm.gap)) (int_lt (from.0 +ℤ seconds_of length +ℤ pos again.0 *ℤ seconds_of alarm.gap) range.end.0) again.2 in
    let low = inside.0 in
    let high = inside.1 in
    let start : range.start.0 ≤ℤ (from.0 +ℤ seconds_of length +ℤ pos again.0 *ℤ seconds_of alarm.gap) = grind (arith, ints, low) in
    let end : (from.0 +ℤ seconds_of length +ℤ pos again.0 *ℤ seconds_of alarm.gap) <ℤ range.end.0 = grind (arith, ints, high) in
    let here : IsNear n from.0 nominal = elim from.1 [ inl same ↦ rw same near.start | inr same ↦ rw same near.end ] in
    let reach : alarm_reach alarm ≡ unsigned_abs (seconds_of length) + alarm.repeat * unsigned_abs (seconds_of alarm.gap) = rw e refl in
    let size = sized (seconds_of length) in
    (omega (arith, ints, far, start, here, reach, size), omega (arith, ints, far, end, here, reach, size))
  where
    sized : (z : ℤ) → (z ≤ℤ pos (unsigned_abs z)) × (pos 0 ≤ℤ (z +ℤ pos (unsigned_abs z)))
    sized (pos m) = (omega (arith, ints), omega (arith, ints))
    sized (negsuc m) = (omega (arith, ints), omega (arith, ints))

alarm_reach-within : (object : Object) (i k : ℕ) (c : Component) (alarm : Alarm) → slice_get object.components i ≡ Some c → slice_get c.alarms k ≡ Some alarm → alarm_reach alarm ≤ alarms_reach object
alarm_reach-within object i k c alarm found there =
    let all = All-each_part (λ m. m ≤ alarms_reach object) (λ (c : Component). map alarm_reach c.alarms) object.components (All-greatest (flat_map (λ (c : Component). map alarm_reach c.alarms) object.components)) in
    let here = All-slice_get (λ (c : Component). All (λ m. m ≤ alarms_reach object) (map alarm_reach c.alarms)) object.components i c all found in
    All-slice_get (λ alarm. alarm_reach alarm ≤ alarms_reach object) c.alarms k alarm (All-unmap (λ m. m ≤ alarms_reach object) alarm_reach c.alarms here) there

-- a range that an alarm of a row meets, widened by the margin, meets the row's window. (An alarm at a moment of its own needs no row.)
pub alarm_overlaps-near : (object : Object) (row : Row) (zone : ZoneTable) (range : Range) (k : ℕ) (alarm : Alarm) (r : Related) (length : Length) → HasNearRows object → HasShortOffsets zone → (is : IsRowOf object row) →
    slice_get is.component.alarms k ≡ Some alarm → alarm.trigger ≡ trigger.From r length →
    alarm_overlaps alarm is.component (Some (fixed row zone)) range ≡ true → window_meets (margin object) range (window_of object row) ≡ true
alarm_overlaps-near object row zone range k alarm r length near short is there from meets =
    let reach = alarm_reach-within object row.component k is.component alarm is.found there in
    window_meets-of (margin object) (259200 + longest object + (1 + alarm_reach alarm)) range (nominal_start object row) (omega (arith, reach))
    (alarm_near (259200 + longest object) alarm is.component (fixed row zone) range (nominal_start object row) r length from (moments-near object row zone is row.end near short is.end_near) meets)

-- Of all rows.

-- the component of a row is the one at its number
pub component-is : (object : Object) (row : Row) (c : Component) (is : IsRowOf object row) → slice_get object.components row.component ≡ Some c → is.component ≡ c
component-is object row c is found = let there = is.found in cc

meets_near : (object : Object) (zone : ZoneTable) (range : Range) → HasNearRows object → HasShortOffsets zone → (row : Row) → (is_dated row ≡ true → IsRowOf object row) → MeetsNear object zone range row
meets_near object zone range near short row of c found dated meets =
    row_overlaps-near object row zone range near short (of dated) (rw (component-is object row c (of dated) found) meets)

goes_off_near : (object : Object) (zone : ZoneTable) (range : Range) → HasNearRows object → HasShortOffsets zone → (row : Row) → (is_dated row ≡ true → IsRowOf object row) → GoesOffNear object zone range row
goes_off_near object zone range near short row of c k alarm r length found there from meets = elim (cases_Bool (is_dated row)) [
  | inl dated ↦ (let same = component-is object row c (of dated) found in alarm_overlaps-near object row zone range k alarm r length near short (of dated) (rw same there) from (rw same (rw dated at meets)))
  | inr undated ↦ absurd (no_moment r undated from meets)
]
  where
    no_moment : (r : Related) → is_dated row ≡ false → alarm.trigger ≡ trigger.From r length → alarm_overlaps alarm c (dated_fixed row zone) range ≡ true → ⊥
    no_moment related.Start undated from meets = let e = rw (undated, from) at meets in absurd cc
    no_moment related.End undated from meets = let e = rw (undated, from) at meets in absurd cc

-- a range meets only rows whose windows it meets once it is widened by the margin
pub rows-near : (moments : List ℕ) (object : Object) (zone : ZoneTable) (range : Range) → HasNearRows object → HasShortOffsets zone → All (MeetsNear object zone range) (rows_over moments object)
rows-near moments object zone range near short =
    All-weaker (λ row. is_dated row ≡ true → IsRowOf object row) (MeetsNear object zone range) (meets_near object zone range near short) (rows_over moments object) (rows-of_components moments object near)

-- and only alarms of such rows, where they count from the row
pub alarms-near : (moments : List ℕ) (object : Object) (zone : ZoneTable) (range : Range) → HasNearRows object → HasShortOffsets zone → All (GoesOffNear object zone range) (rows_over moments object)
alarms-near moments object zone range near short =
    All-weaker (λ row. is_dated row ≡ true → IsRowOf object row) (GoesOffNear object zone range) (goes_off_near object zone range near short) (rows_over moments object) (rows-of_components moments object near)
