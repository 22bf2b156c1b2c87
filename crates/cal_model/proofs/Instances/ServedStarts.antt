-- Each start and each dated row of an object that was read lies within three days of the stated dates, so between 1599 and 2102, and in a window of theirs.
use Rattle.std.proofs.Common.{◌≡◌, ℕ, ◌+◌, ◌≤◌, List, [], ◌∷◌, ◌++◌, map, refl, sym, subst, arith, Bool, true, false, ℤ, pos, neg_ℤ, ◌+ℤ◌, ◌-ℤ◌, ◌≤ℤ◌, inl, inr, ap}
use Rattle.std.specs.Prelude.{All, Contains, filter, flat_map, not, nat_le, int_le, slice_get, option_to_list, option_and_then, is_none, unwrap_or, if◌then◌else◌, Option, Some, None}
use Rattle.std.specs.Int.{int_div_euclid}
use Rattle.std.proofs.lemmas.Int.{ints}
use Rattle.std.proofs.lemmas.Bool.{cases_Bool, leb-true}
use Rattle.std.proofs.lemmas.Option.{none-some}
use Rattle.std.proofs.lemmas.List.Elements.{All-head, All-nil, All-cons, All-append, All-map, All-filter, All-weaker, All-contains, filter_passes}
use Rattle.cal_moment.specs.Calendar.{seconds_since_1970}
use Rattle.cal_moment.proofs.CalendarLaws.{seconds_since_1970-moment_of_seconds}
use Rattle.cal_moment.specs.declared.stamp.Stamp.{Stamp}
use Rattle.cal_moment.specs.declared.stamp.Stamp.TheVariants.{Date, Floating, Zoned, Utc}
use Rattle.cal_moment.specs.declared.stamp.Period.{Period}
use Rattle.cal_model.specs.declared.object.Class.{Class}
use Rattle.cal_model.specs.declared.object.Component.{Component}
use Rattle.cal_model.specs.declared.object.Extent.{Extent}
use Rattle.cal_model.specs.declared.object.Extent.TheVariants as extent
use Rattle.cal_model.specs.declared.object.Kind.{Kind}
use Rattle.cal_model.specs.declared.object.Kind.TheVariants.{Event, Todo, Journal, FreeBusy}
use Rattle.cal_model.specs.declared.object.Object.{Object}
use Rattle.cal_model.specs.declared.row.Row.{Row}
use Rattle.cal_model.specs.declared.rule.Rule.{Rule}
use Rattle.cal_model.specs.declared.zone.ZoneTable.{ZoneTable}
use Rattle.cal_model.specs.Words.Limits.{first_date, last_date}
use Rattle.cal_model.specs.Recurrence.RecurrenceSet.{first_counted, later_moments, last_written}
use Rattle.cal_model.specs.Objects.ObjectFacts.{IsServed, IsReadComponent, IsReadObject, stamps_of_extent}
use Rattle.cal_model.specs.Objects.DatedLines.{stamps_of_period, stamps_of_end}
use Rattle.cal_model.specs.Instances.Alignment.{Aligned, reading_of, value_of, kind_of, written_value, written_moment, midnight_of}
use Rattle.cal_model.specs.Instances.Starts.{own_start, own_start_of, recurs, is_excepted, rule_starts, date_start, period_starts, plain_starts, ascending, starts_from, starts_of, is_date, end_from, end_of_instance}
use Rattle.cal_model.specs.Instances.Rows.{Numbered, numbered, has_id, masters, overrides, ids_start, id_of_override, named_by, is_named, row_of, undated_row, undated_rows, is_dated, starts, master_row, Governor, moved_digits, are_served, moved_row, row_at, override_row, override_row_from, dated_rows, rows_by, rows_over, rows, nominal_beside, nominal_start, window_of, window_seconds}
use Rattle.cal_model.specs.Ranges.Nearness.{IsNear, HasShortOffsets}
use Rattle.cal_model.specs.Reports.NeededWindows.{is_stated_window}
use Rattle.cal_model.proofs.Recurrence.RecurrenceSetLemmas.{uncounted, later_moments-after}
use Rattle.cal_model.proofs.Instances.DayLaws.{midnight_of-holds}
use Rattle.cal_model.proofs.Instances.GovernedRows.{row_at-holds, moved_to, moved_row-holds}
use Rattle.cal_model.proofs.Words.AllLemmas.{All-everywhere, All-flat_map, All-each_part, All-left, All-right, All-option, All-slice_get}
use Rattle.cal_model.proofs.Instances.EachRowLemmas.{All-in_order, All-numbered_from}
use Rattle.cal_model.proofs.Instances.RisingLists.{All-ascending}
use Rattle.cal_model.proofs.Ranges.RowBounds.{instant-near, local-near}
use Rattle.cal_model.proofs.Ranges.NearRanges.{window-holds}
use Rattle.cal_model.proofs.Objects.ObjectNearness.{HasNearRows-object}

-- a moment lies at most so many seconds outside the stated dates
abbrev pub IsStatedBy : ℕ → ℤ → Type 0
IsStatedBy by z = ((first_date -ℤ pos by) ≤ℤ z) × (z ≤ℤ (last_date +ℤ pos by))

near_stated : (by more : ℕ) (x y : ℤ) → IsNear more x y → IsStatedBy by y → IsStatedBy (by + more) x
near_stated by more x y near stated = (omega (arith, ints, near, stated), omega (arith, ints, near, stated))

further : (by most : ℕ) (z : ℤ) → by ≤ most → IsStatedBy by z → IsStatedBy most z
further by most z le stated = (omega (arith, ints, le, stated), omega (arith, ints, le, stated))

written : (s : Stamp) → IsServed s → IsStatedBy 0 (written_value s)
written s served = let first = served.from_first in let last = served.to_last in (omega (arith, ints, first), omega (arith, ints, last))

-- Starts of a component.

-- the instant of digits
instant-stated : (zones : List ZoneTable) (s : Stamp) (by : ℕ) (l : ℤ) → All HasShortOffsets zones → IsStatedBy by l → IsStatedBy (by + 86400) ((reading_of zones s).instant l)
instant-stated zones s by l short stated = near_stated by 86400 ((reading_of zones s).instant l) l (instant-near zones s l short) stated

value-stated : (zones : List ZoneTable) (s : Stamp) → All HasShortOffsets zones → IsServed s → IsStatedBy 86400 (value_of zones s)
value-stated zones s short served = instant-stated zones s 0 (written_value s) short (written s served)

-- a local day at the time of day of a start
at_time_of : (d w : ℤ) → IsStatedBy 0 d → IsStatedBy 86400 (d +ℤ (w -ℤ midnight_of w))
at_time_of d w stated = let day = midnight_of-holds w in (omega (arith, ints, day, stated), omega (arith, ints, day, stated))

-- the start of an RDATE
date_start-stated : (zones : List ZoneTable) (s x : Stamp) → All HasShortOffsets zones → IsServed x → IsStatedBy 172800 (date_start zones s x)
date_start-stated zones (Date d) x short served = let day = midnight_of-holds (written_value x) in let stated = written x served in (omega (arith, ints, day, stated), omega (arith, ints, day, stated))
date_start-stated zones (Floating l) (Date d) short served = further 86400 172800 _ (omega arith) (at_time_of (written_value (Date d)) (written_value (Floating l)) (written (Date d) served))
date_start-stated zones (Floating l) (Floating x) short served = further 0 172800 _ (omega arith) (written (Floating x) served)
date_start-stated zones (Floating l) (Zoned x number) short served = further 0 172800 _ (omega arith) (written (Zoned x number) served)
date_start-stated zones (Floating l) (Utc u) short served = further 0 172800 _ (omega arith) (written (Utc u) served)
date_start-stated zones (Zoned l zone) (Date d) short served =
    instant-stated zones (Zoned l zone) 86400 (written_value (Date d) +ℤ (written_value (Zoned l zone) -ℤ midnight_of (written_value (Zoned l zone)))) short (at_time_of (written_value (Date d)) (written_value (Zoned l zone)) (written (Date d) served))
date_start-stated zones (Zoned l zone) (Floating x) short served =
    further 86400 172800 _ (omega arith) (instant-stated zones (Zoned l zone) 0 (written_value (Floating x)) short (written (Floating x) served))
date_start-stated zones (Zoned l zone) (Zoned x other) short served = further 86400 172800 _ (omega arith) (value-stated zones (Zoned x other) short served)
date_start-stated zones (Zoned l zone) (Utc u) short served = further 0 172800 _ (omega arith) (written (Utc u) served)
date_start-stated zones (Utc v) (Date d) short served = further 86400 172800 _ (omega arith) (at_time_of (written_value (Date d)) (written_value (Utc v)) (written (Date d) served))
date_start-stated zones (Utc v) (Floating x) short served = further 0 172800 _ (omega arith) (written (Floating x) served)
date_start-stated zones (Utc v) (Zoned x other) short served = further 86400 172800 _ (omega arith) (value-stated zones (Zoned x other) short served)
date_start-stated zones (Utc v) (Utc u) short served = further 0 172800 _ (omega arith) (written (Utc u) served)

-- the moment of a served stamp has its digits
digits-served : (s : Stamp) → IsServed s → seconds_since_1970 (written_moment s) ≡ written_value s
digits-served s served =
    let first = served.from_first in
    let last = served.to_last in
    seconds_since_1970-moment_of_seconds (written_value s) (omega (arith, ints, first), omega (arith, ints, last))

-- a later moment of a rule lies behind the start and not behind the last stated date
later-stated : (moments : List ℕ) (zones : List ZoneTable) (s : Stamp) (rule : Rule) → IsServed s →
    All (λ m. IsStatedBy 0 (seconds_since_1970 m)) (later_moments rule (written_moment s) (reading_of zones s) moments)
later-stated moments zones s rule served = λ k d lt.
    (let after = later_moments-after moments rule (written_moment s) (reading_of zones s) k d lt in
    let until = leb-true _ last_written (filter_passes (λ m. nat_le m last_written) (first_counted rule.count (uncounted rule (written_moment s) (reading_of zones s) moments)) k d lt) in
    let digits = digits-served s served in
    let first = served.from_first in
    (omega (arith, ints, after, digits, first), omega (arith, ints, until)))

rule_starts-stated : (moments : List ℕ) (zones : List ZoneTable) (s : Stamp) (rule : Rule) → All HasShortOffsets zones → IsServed s → All (IsStatedBy 172800) (rule_starts moments zones s rule)
rule_starts-stated moments zones s rule short served =
    All-map (IsStatedBy 172800) (λ m. (reading_of zones s).instant (seconds_since_1970 m)) (written_moment s ∷ later_moments rule (written_moment s) (reading_of zones s) moments)
    (All-weaker (λ m. IsStatedBy 0 (seconds_since_1970 m)) (λ m. IsStatedBy 172800 ((reading_of zones s).instant (seconds_since_1970 m))) (λ m stated. further 86400 172800 _ (omega arith) (instant-stated zones s 0 (seconds_since_1970 m) short stated))
    (written_moment s ∷ later_moments rule (written_moment s) (reading_of zones s) moments)
    (All-cons (λ m. IsStatedBy 0 (seconds_since_1970 m)) (written_moment s) (later_moments rule (written_moment s) (reading_of zones s) moments) (subst (IsStatedBy 0) (sym (digits-served s served)) (written s served)) (later-stated moments zones s rule served)))

-- what is known of the stamps of a component
record HasServed (c : Component) : Type 0 where
  start : All IsServed (option_to_list c.start)
  end : All IsServed (stamps_of_extent c.extent)
  dates : All IsServed c.dates
  periods : All (λ (p : Period). IsServed p.start) c.periods

has_served : (object : Object) (c : Component) → IsReadComponent object c → HasServed c
has_served object c is =
    let end = stamps_of_extent c.extent in
    let ids = option_to_list c.recurrence_id in
    let periods = flat_map stamps_of_period c.periods in
    let to_end = option_to_list c.start ++ end in
    let to_dates = to_end ++ ids ++ c.dates in
    let to_periods = to_dates ++ periods in
    let served = All-left IsServed to_periods c.except (All-left IsServed (to_periods ++ c.except) (flat_map (λ (entry : Option Class × Period). stamps_of_period entry.1) c.stored_busy) is.served) in
    let dated = All-left IsServed to_dates periods served in
    let ended = All-left IsServed to_end ids (All-left IsServed (to_end ++ ids) c.dates dated) in
    record {
      start = All-left IsServed (option_to_list c.start) end ended;
      end = All-right IsServed (option_to_list c.start) end ended;
      dates = All-right IsServed (to_end ++ ids) c.dates dated;
      periods = All-weaker (λ (p : Period). All IsServed (stamps_of_period p)) (λ (p : Period). IsServed p.start) (λ p stamps. All-head IsServed p.start (stamps_of_end p.end) stamps) c.periods (All-each_part IsServed stamps_of_period c.periods (All-right IsServed to_dates periods served));
    }

option_served : (o : Option Stamp) (s : Stamp) → All IsServed (option_to_list o) → o ≡ Some s → IsServed s
option_served None s all is = absurd (none-some s is)
option_served (Some t) s all is = subst IsServed (ap (λ found. unwrap_or found s) is) (All-head IsServed t [] all)

own_served : (kind : Kind) (start : Option Stamp) (end : Extent) (s : Stamp) → All IsServed (option_to_list start) → All IsServed (stamps_of_extent end) → own_start_of kind start end ≡ Some s → IsServed s
own_served FreeBusy start (extent.End e) s all ends is = option_served start s all is
own_served FreeBusy start (extent.Due e) s all ends is = absurd (none-some s is)
own_served FreeBusy start (extent.Lasting l) s all ends is = absurd (none-some s is)
own_served FreeBusy start extent.WholeDay s all ends is = absurd (none-some s is)
own_served FreeBusy start extent.Point s all ends is = absurd (none-some s is)
own_served FreeBusy start extent.None s all ends is = absurd (none-some s is)
own_served Event start end s all ends is = option_served start s all is
own_served Journal start end s all ends is = option_served start s all is
own_served Todo (Some t) end s all ends is = option_served (Some t) s all is
own_served Todo None (extent.Due e) s all ends is = option_served (Some e) s ends is
own_served Todo None (extent.End e) s all ends is = absurd (none-some s is)
own_served Todo None (extent.Lasting l) s all ends is = absurd (none-some s is)
own_served Todo None extent.WholeDay s all ends is = absurd (none-some s is)
own_served Todo None extent.Point s all ends is = absurd (none-some s is)
own_served Todo None extent.None s all ends is = absurd (none-some s is)

if_dated : (b : Bool) (zones : List ZoneTable) (s : Stamp) (c : Component) → All (IsStatedBy 172800) (period_starts zones s c) → All (IsStatedBy 172800) (if b then period_starts zones s c else [])
if_dated true zones s c all = all
if_dated false zones s c all = All-nil (IsStatedBy 172800)

period_starts-stated : (zones : List ZoneTable) (s : Stamp) (c : Component) → All HasShortOffsets zones → HasServed c → All (IsStatedBy 172800) (period_starts zones s c)
period_starts-stated zones s c short is =
    All-map (IsStatedBy 172800) (λ (p : Period). date_start zones s p.start) c.periods
    (All-weaker (λ (p : Period). IsServed p.start) (λ (p : Period). IsStatedBy 172800 (date_start zones s p.start)) (λ p served. date_start-stated zones s p.start short served) c.periods is.periods)

plain_starts-stated : (moments : List ℕ) (zones : List ZoneTable) (s : Stamp) (c : Component) → All HasShortOffsets zones → IsServed s → HasServed c → All (IsStatedBy 172800) (plain_starts moments zones s c)
plain_starts-stated moments zones s c short served is =
    All-cons (IsStatedBy 172800) (value_of zones s) _ (further 86400 172800 _ (omega arith) (value-stated zones s short served))
    (All-append (IsStatedBy 172800) (flat_map (rule_starts moments zones s) c.rules) _
    (All-flat_map (IsStatedBy 172800) (rule_starts moments zones s) c.rules (All-everywhere (λ rule. All (IsStatedBy 172800) (rule_starts moments zones s rule)) (λ rule. rule_starts-stated moments zones s rule short served) c.rules))
    (All-append (IsStatedBy 172800) (map (date_start zones s) c.dates) _
    (All-map (IsStatedBy 172800) (date_start zones s) c.dates (All-weaker IsServed (λ x. IsStatedBy 172800 (date_start zones s x)) (λ x there. date_start-stated zones s x short there) c.dates is.dates))
    (if_dated (is_date s) zones s c (period_starts-stated zones s c short is))))

starts_from-stated : (moments : List ℕ) (zones : List ZoneTable) (c : Component) (own : Option Stamp) → All HasShortOffsets zones → HasServed c → ((s : Stamp) → own ≡ Some s → IsServed s) → All (IsStatedBy 172800) (starts_from moments zones c own)
starts_from-stated moments zones c None short is served = All-nil (IsStatedBy 172800)
starts_from-stated moments zones c (Some s) short is served = elim (cases_Bool (recurs c)) [
  | inl w ↦ rw w (All-filter (λ r. not (is_excepted zones s c r)) (IsStatedBy 172800) (ascending (plain_starts moments zones s c ++ period_starts zones s c))
      (All-ascending (IsStatedBy 172800) (plain_starts moments zones s c ++ period_starts zones s c)
      (All-append (IsStatedBy 172800) (plain_starts moments zones s c) (period_starts zones s c) (plain_starts-stated moments zones s c short (served s refl) is) (period_starts-stated zones s c short is))))
  | inr w ↦ rw w (All-cons (IsStatedBy 172800) (value_of zones s) [] (further 86400 172800 _ (omega arith) (value-stated zones s short (served s refl))) (All-nil (IsStatedBy 172800)))
]

-- Starts and rows of an object.

numbered_served : (object : Object) → IsReadObject object → All (λ (n : Numbered). HasServed n.component) (numbered object)
numbered_served object is =
    All-numbered_from (λ (n : Numbered). HasServed n.component) 0 object.components
    (λ i j c e found. has_served object c (All-slice_get (IsReadComponent object) object.components i c is.components found))

own-stated : (n : Numbered) → HasServed n.component → (s : Stamp) → own_start n.component ≡ Some s → IsServed s
own-stated n is s own = let c = n.component in own_served c.kind c.start c.extent s is.start is.end own

short_zones : (object : Object) → IsReadObject object → All HasShortOffsets object.zones
short_zones object is = let near = HasNearRows-object object is in near.offsets

-- all starts lie within two days of the stated dates
pub starts-served : (moments : List ℕ) (object : Object) → IsReadObject object → All (IsStatedBy 172800) (starts moments object)
starts-served moments object is =
    All-flat_map (IsStatedBy 172800) (λ (n : Numbered). starts_of moments object.zones n.component) (masters object)
    (All-filter (λ n. not (has_id n)) (λ (n : Numbered). All (IsStatedBy 172800) (starts_of moments object.zones n.component)) (numbered object)
    (All-weaker (λ (n : Numbered). HasServed n.component) (λ (n : Numbered). All (IsStatedBy 172800) (starts_of moments object.zones n.component))
    (λ n served. starts_from-stated moments object.zones n.component (own_start n.component) (short_zones object is) served (own-stated n served)) (numbered object) (numbered_served object is)))

-- a row that has a date starts there
abbrev pub StartsStated : Row → Type 0
StartsStated row = is_dated row ≡ true → IsStatedBy 172800 row.start

override_row-stated : (object : Object) (ids : Stamp) (all : List ℤ) (n : Numbered) → All HasShortOffsets object.zones → HasServed n.component → All StartsStated (override_row object ids all n)
override_row-stated object ids all n short is =
    All-flat_map StartsStated (λ s. override_row_from object ids all n s (value_of object.zones s)) (option_to_list (own_start n.component))
    (All-option (λ s. All StartsStated (override_row_from object ids all n s (value_of object.zones s))) (own_start n.component) from)
  where
    row : Stamp → Aligned → Row
    row s x = row_of (id_of_override object ids all x) (value_of object.zones s) (end_from object.zones n.component (value_of object.zones s)) n.number (kind_of ids) (kind_of s)

    from : (s : Stamp) → own_start n.component ≡ Some s → All StartsStated (override_row_from object ids all n s (value_of object.zones s))
    from s own =
        All-map StartsStated (row s) (named_by object.zones ids n)
        (All-everywhere (λ x. StartsStated (row s x)) (λ x dated. further 86400 172800 _ (omega arith) (value-stated object.zones s short (own-stated n is s own))) (named_by object.zones ids n))

-- the digits of a moved row lie within the stated dates
moved-stated : (object : Object) (ids : Stamp) (r : ℤ) (g : Governor) → All HasShortOffsets object.zones → All StartsStated (moved_row object ids r g)
moved-stated object ids r g short =
    moved_row-holds (All StartsStated) object ids r g (All-nil StartsStated)
    (λ served. All-cons StartsStated (moved_to object ids r g) [] (λ dated. there (served_by (moved_digits object.zones g r) served)) (All-nil StartsStated))
  where
    served_by : (l : ℤ) → are_served l ≡ true → IsStatedBy 0 l
    served_by l h = elim (cases_Bool (int_le first_date l)) [
      | inl w ↦ (let last : int_le l last_date ≡ true = rw w at h in
          let from : first_date ≤ℤ l = grind (arith, ints, w) in
          let to : l ≤ℤ last_date = grind (arith, ints, last) in (omega (arith, ints, from), omega (arith, ints, to)))
      | inr w ↦ absurd (let e = rw w at h in cc)
    ]

    there : IsStatedBy 0 (moved_digits object.zones g r) → IsStatedBy 172800 ((reading_of object.zones g.start).instant (moved_digits object.zones g r))
    there stated = further 86400 172800 _ (omega arith) (instant-stated object.zones g.start 0 (moved_digits object.zones g r) short stated)

row_at-stated : (moments : List ℕ) (object : Object) (ids : Stamp) (all : List ℤ) (r : ℤ) → All HasShortOffsets object.zones → IsStatedBy 172800 r → All StartsStated (row_at moments object ids all r)
row_at-stated moments object ids all r short stated =
    row_at-holds (All StartsStated) moments object ids all r
    (All-flat_map StartsStated (master_row moments object ids r) (masters object)
    (All-everywhere (λ n. All StartsStated (master_row moments object ids r n)) of_master (masters object)))
    (λ g governs. moved-stated object ids r g short)
  where
    of_master : (n : Numbered) → All StartsStated (master_row moments object ids r n)
    of_master n =
        All-map StartsStated (λ s. row_of r r (end_of_instance moments object.zones s n.component r) n.number (kind_of ids) (kind_of s)) (option_to_list (own_start n.component))
        (All-everywhere (λ s. StartsStated (row_of r r (end_of_instance moments object.zones s n.component r) n.number (kind_of ids) (kind_of s))) (λ s dated. stated) (option_to_list (own_start n.component)))

rows_by-stated : (row : Stamp → List ℤ → ℤ → List Row) (moments : List ℕ) (object : Object) → IsReadObject object →
    ((ids : Stamp) (r : ℤ) → IsStatedBy 172800 r → All StartsStated (row ids (starts moments object) r)) → All StartsStated (rows_by row moments object)
rows_by-stated row moments object is each =
    All-append StartsStated (undated_rows object) (flat_map (dated_rows row moments object) (option_to_list (ids_start object)))
    (All-map StartsStated undated_row (filter (λ (n : Numbered). is_none (own_start n.component)) (numbered object)) (All-everywhere (λ n. StartsStated (undated_row n)) (λ n dated. absurd cc) (filter (λ (n : Numbered). is_none (own_start n.component)) (numbered object))))
    (All-flat_map StartsStated (dated_rows row moments object) (option_to_list (ids_start object)) (All-everywhere (λ ids. All StartsStated (dated_rows row moments object ids)) dated (option_to_list (ids_start object))))
  where
    dated : (ids : Stamp) → All StartsStated (dated_rows row moments object ids)
    dated ids =
        All-in_order StartsStated (flat_map (override_row object ids (starts moments object)) (overrides object) ++ filter (λ (r : Row). not (is_named object ids r.id)) (flat_map (row ids (starts moments object)) (starts moments object)))
        (All-append StartsStated (flat_map (override_row object ids (starts moments object)) (overrides object)) (filter (λ (r : Row). not (is_named object ids r.id)) (flat_map (row ids (starts moments object)) (starts moments object)))
        (All-flat_map StartsStated (override_row object ids (starts moments object)) (overrides object)
        (All-filter has_id (λ n. All StartsStated (override_row object ids (starts moments object) n)) (numbered object)
        (All-weaker (λ (n : Numbered). HasServed n.component) (λ n. All StartsStated (override_row object ids (starts moments object) n)) (λ n served. override_row-stated object ids (starts moments object) n (short_zones object is) served) (numbered object) (numbered_served object is))))
        (All-filter (λ (r : Row). not (is_named object ids r.id)) StartsStated (flat_map (row ids (starts moments object)) (starts moments object))
        (All-flat_map StartsStated (row ids (starts moments object)) (starts moments object)
        (All-weaker (IsStatedBy 172800) (λ r. All StartsStated (row ids (starts moments object) r)) (each ids) (starts moments object) (starts-served moments object is)))))

pub rows-served : (moments : List ℕ) (object : Object) → IsReadObject object → All (λ row. is_dated row ≡ true → IsStatedBy 172800 row.start) (rows_over moments object)
rows-served moments object is = rows_by-stated (row_at moments object) moments object is (λ ids r stated. row_at-stated moments object ids (starts moments object) r (short_zones object is) stated)

-- Windows.

nominal_beside-near : (zones : List ZoneTable) (start : ℤ) (own : Option Stamp) → All HasShortOffsets zones → IsNear 86400 (nominal_beside zones start own) start
nominal_beside-near zones start None short = (omega (arith, ints), omega (arith, ints))
nominal_beside-near zones start (Some s) short = local-near zones s start short

-- what lies at most three days outside the stated dates lies in one of their windows
stated_window : (z : ℤ) → IsStatedBy 259200 z → is_stated_window (int_div_euclid z window_seconds) ≡ true
stated_window z stated =
    let lies = window-holds z in
    let first : neg_ℤ (pos 2112) ≤ℤ int_div_euclid z window_seconds = omega (arith, ints, lies, stated) in
    let last : int_div_euclid z window_seconds ≤ℤ pos 747 = omega (arith, ints, lies, stated) in
    grind (arith, ints, first, last)

in_stated_window : (object : Object) (row : Row) → All HasShortOffsets object.zones → StartsStated row → is_dated row ≡ true → is_stated_window (window_of object row) ≡ true
in_stated_window object row short stated dated =
    stated_window (nominal_start object row)
    (near_stated 172800 86400 (nominal_start object row) row.start (nominal_beside-near object.zones row.start (option_and_then own_start (slice_get object.components row.component)) short) (stated dated))

-- each dated row of an object that was read lies in a window of the stated dates
pub is_stated-row : (object : Object) → IsReadObject object → (row : Row) → Contains (rows object) row → is_dated row ≡ true → is_stated_window (window_of object row) ≡ true
is_stated-row object is row among dated =
    in_stated_window object row (short_zones object is) (All-contains StartsStated (rows object) row (rows-served _ object is) among) dated
