-- The rows of each object that was read can be shown: their moments lie between the years 1050 and 2650.
use Rattle.std.proofs.Common.{◌≡◌, ℕ, ◌≤◌, Bool, true, false, List, [], ◌∷◌, ◌++◌, map, length, get_or, Option, Some, None, refl, sym, ◌∙◌, arith, ℤ, pos, neg_ℤ, ◌+ℤ◌, ◌-ℤ◌, ◌≤ℤ◌, inl, inr}
use Rattle.std.specs.Prelude.{◌*◌, All, Contains, filter, flat_map, option_to_list, unwrap_or, unsigned_abs, nat_abs}
use Rattle.std.proofs.lemmas.Bool.{cases_Bool, false≢true}
use Rattle.std.proofs.lemmas.Bool.Decides.{nat_tests}
use Rattle.std.proofs.lemmas.Int.{ints}
use Rattle.std.proofs.lemmas.List.Elements.{All-cons, All-contains, All-filter, All-head, All-map, All-nil, All-tail, All-weaker, filter_passes}
use Rattle.cal_moment.specs.Calendar.{IsCalendarMoment}
use Rattle.cal_moment.specs.declared.stamp.Length.{Length}
use Rattle.cal_moment.specs.declared.stamp.Period.{Period}
use Rattle.cal_moment.specs.declared.stamp.PeriodEnd.{PeriodEnd}
use Rattle.cal_moment.specs.declared.stamp.PeriodEnd.TheVariants as until
use Rattle.cal_moment.specs.declared.stamp.Stamp.{Stamp}
use Rattle.cal_moment.specs.declared.stamp.Stamp.TheVariants.{Date, Floating, Zoned, Utc}
use Rattle.cal_model.specs.declared.object.Class.{Class}
use Rattle.cal_model.specs.declared.object.Component.{Component}
use Rattle.cal_model.specs.declared.object.Extent.{Extent}
use Rattle.cal_model.specs.declared.object.Extent.TheVariants as extent
use Rattle.cal_model.specs.declared.object.Kind.{Kind}
use Rattle.cal_model.specs.declared.object.Kind.TheVariants.{Event, Todo, Journal, FreeBusy}
use Rattle.cal_model.specs.declared.object.Object.{Object}
use Rattle.cal_model.specs.declared.row.Row.{Row}
use Rattle.cal_model.specs.declared.zone.ZoneTable.{ZoneTable}
use Rattle.cal_model.specs.Instances.Alignment.{Aligned, at, on_day, align, align_timed, align_floating, kind_of, midnight_of, names_start, reading_of, value_of, written_value}
use Rattle.cal_model.specs.Instances.Rows.{Governor, Numbered, end_from, end_of_instance, has_date, has_id, id_of_override, is_dated, master_row, named_by, numbered, override_row, override_row_from, overrides, row_of, rows, rows_in, starts, undated_row}
use Rattle.cal_model.specs.Instances.Starts.{end_beside, own_start, own_start_of}
use Rattle.cal_model.specs.Objects.LineValues.{is_short}
use Rattle.cal_model.specs.Objects.ObjectFacts.{HasShortEnd, IsRead, IsReadComponent, IsReadObject, IsServed, IsShort, lengths_of_extent, stamps_of_extent}
use Rattle.cal_model.specs.Objects.DatedLines.{stamps_of_period}
use Rattle.cal_model.specs.Ranges.Cost.{extent_length, greatest, length_to, lengths, longest}
use Rattle.cal_model.specs.Ranges.Nearness.{HasShortOffsets}
use Rattle.cal_model.specs.Ranges.Overlap.{seconds_of}
use Rattle.cal_model.specs.Recurrence.RecurrenceSet.{every_moment}
use Rattle.cal_model.specs.Words.Limits.{first_date, last_date}
use Rattle.cal_model.specs.Words.Lists.{first_or_else}
use Rattle.cal_model.proofs.Instances.DayLaws.{midnight_of-holds}
use Rattle.cal_model.proofs.Instances.EachRowLemmas.{All-numbered_from}
use Rattle.cal_model.proofs.Instances.EveryRow.{rows-hold}
use Rattle.cal_model.proofs.Instances.GovernedRows.{moved_to}
use Rattle.cal_model.proofs.Instances.ServedStarts.{rows-served, starts-served}
use Rattle.cal_model.proofs.Objects.ObjectFactLaws.{IsReadObject-read}
use Rattle.cal_model.proofs.Objects.ObjectNearness.{HasNearRows-read}
use Rattle.cal_model.proofs.Ranges.NearRows.{IsRowOf, rows-of_components}
use Rattle.cal_model.proofs.Ranges.RowBounds.{end_of_extent-near, instant-near, local-near}
use Rattle.cal_model.proofs.Ranges.WindowLaws.{rows_in-only}
use Rattle.cal_model.proofs.Words.AllLemmas.{All-each_part, All-everywhere, All-flat_map, All-left, All-right, All-slice_get}
use Rattle.cal_model.proofs.Words.IntegerLemmas.{same_int-true}
use Rattle.cal_model.proofs.Words.ListTests.{each_of}
use Rattle.expand_limit.specs.InstanceLines.{IsShownRow}
use Rattle.expand_limit.specs.SeenRows.{id_said, named_id}
use Rattle.overlap_rules.specs.Bounds.{IsNear}

-- What is known of the stamps of a component

record HasServed (c : Component) : Type 0 where
  start : All IsServed (option_to_list c.start)
  end : All IsServed (stamps_of_extent c.extent)
  id : All IsServed (option_to_list c.recurrence_id)
  periods : All (λ (p : Period). All IsServed (stamps_of_period p)) c.periods

has_served : (object : Object) (c : Component) → IsReadComponent object c → HasServed c
has_served object c is =
    let start = option_to_list c.start in
    let end = stamps_of_extent c.extent in
    let ids = option_to_list c.recurrence_id in
    let periods = flat_map stamps_of_period c.periods in
    let to_end = start ++ end in
    let to_ids = to_end ++ ids in
    let to_dates = to_ids ++ c.dates in
    let to_periods = to_dates ++ periods in
    let served = All-left IsServed to_periods c.except (All-left IsServed (to_periods ++ c.except) (flat_map (λ (entry : Option Class × Period). stamps_of_period entry.1) c.stored_busy) is.served) in
    let dated = All-left IsServed to_dates periods served in
    let named = All-left IsServed to_ids c.dates dated in
    let ended = All-left IsServed to_end ids named in
    record {
      start = All-left IsServed start end ended;
      end = All-right IsServed start end ended;
      id = All-right IsServed to_end ids named;
      periods = All-each_part IsServed stamps_of_period c.periods (All-right IsServed to_dates periods served);
    }

pub served_id : (object : Object) (c : Component) → IsReadComponent object c → All IsServed (option_to_list c.recurrence_id)
served_id object c is = (has_served object c is).id

own_served : (kind : Kind) (start : Option Stamp) (end : Extent) → All IsServed (option_to_list start) → All IsServed (stamps_of_extent end) → All IsServed (option_to_list (own_start_of kind start end))
own_served FreeBusy start (extent.End e) starts ends = starts
own_served FreeBusy start (extent.Due e) starts ends = All-nil IsServed
own_served FreeBusy start (extent.Lasting l) starts ends = All-nil IsServed
own_served FreeBusy start extent.WholeDay starts ends = All-nil IsServed
own_served FreeBusy start extent.Point starts ends = All-nil IsServed
own_served FreeBusy start extent.None starts ends = All-nil IsServed
own_served Event start end starts ends = starts
own_served Journal start end starts ends = starts
own_served Todo (Some s) end starts ends = starts
own_served Todo None (extent.Due e) starts ends = ends
own_served Todo None (extent.End e) starts ends = All-nil IsServed
own_served Todo None (extent.Lasting l) starts ends = All-nil IsServed
own_served Todo None extent.WholeDay starts ends = All-nil IsServed
own_served Todo None extent.Point starts ends = All-nil IsServed
own_served Todo None extent.None starts ends = All-nil IsServed

-- at most two days outside the stated dates
abbrev IsStated : ℤ → Type 0
IsStated z = ((first_date -ℤ pos 172800) ≤ℤ z) × (z ≤ℤ (last_date +ℤ pos 172800))

instant_stated : (zones : List ZoneTable) (s : Stamp) (l : ℤ) → All HasShortOffsets zones → first_date ≤ℤ l → l ≤ℤ last_date → IsStated ((reading_of zones s).instant l)
instant_stated zones s l offsets first last = let near = instant-near zones s l offsets in (omega (arith, ints, near, first), omega (arith, ints, near, last))

value_stated : (zones : List ZoneTable) (s : Stamp) → All HasShortOffsets zones → IsServed s → IsStated (value_of zones s)
value_stated zones s offsets served = instant_stated zones s (written_value s) offsets served.from_first served.to_last

-- How long components are

-- 200,000 days
abbrev most : ℕ
most = 17_280_000_000

apart : (x y : ℤ) → IsStated x → IsStated y → unsigned_abs (x -ℤ y) ≤ most
apart x y a b = omega (arith, ints, a, b)

short : (length : Length) → IsShort length → unsigned_abs (seconds_of length) ≤ most
short length is = let size = bound length is in omega (arith, ints, size)
  where
    bound : (l : Length) → is_short l ≡ true → nat_abs (seconds_of l) ≤ 200_000 * 86_400
    bound l e = grind (arith, nat_tests, e)

distance : (zones : List ZoneTable) (start end : Stamp) → All HasShortOffsets zones → IsServed start → IsServed end → unsigned_abs (value_of zones end -ℤ value_of zones start) ≤ most
distance zones start end offsets a b = apart (value_of zones end) (value_of zones start) (value_stated zones end offsets b) (value_stated zones start offsets a)

extent_small : (zones : List ZoneTable) (own : Option Stamp) (said : Extent) → All HasShortOffsets zones → All IsServed (option_to_list own) → All IsServed (stamps_of_extent said) → All IsShort (lengths_of_extent said) → extent_length zones own said ≤ most
extent_small zones own (extent.Lasting length) offsets starts ends size = short length (All-head IsShort length [] size)
extent_small zones (Some s) (extent.End e) offsets starts ends size = distance zones s e offsets (All-head IsServed s [] starts) (All-head IsServed e [] ends)
extent_small zones (Some s) (extent.Due e) offsets starts ends size = distance zones s e offsets (All-head IsServed s [] starts) (All-head IsServed e [] ends)
extent_small zones None (extent.End e) offsets starts ends size = omega arith
extent_small zones None (extent.Due e) offsets starts ends size = omega arith
extent_small zones None extent.Point offsets starts ends size = omega arith
extent_small zones None extent.WholeDay offsets starts ends size = omega arith
extent_small zones None extent.None offsets starts ends size = omega arith
extent_small zones (Some s) extent.Point offsets starts ends size = omega arith
extent_small zones (Some s) extent.WholeDay offsets starts ends size = omega arith
extent_small zones (Some s) extent.None offsets starts ends size = omega arith

period_small : (zones : List ZoneTable) (start : Stamp) (end : PeriodEnd) → All HasShortOffsets zones → All IsServed (stamps_of_period (record { start = start; end = end })) → HasShortEnd (record { start = start; end = end }) → length_to zones start end ≤ most
period_small zones start (until.At e) offsets served size = distance zones start e offsets (All-head IsServed start (e ∷ []) served) (All-head IsServed e [] (All-tail IsServed start (e ∷ []) served))
period_small zones start (until.After length) offsets served size = short length size

component_small : (object : Object) (c : Component) → All HasShortOffsets object.zones → IsReadComponent object c → All (λ m. m ≤ most) (lengths object.zones c)
component_small object c offsets is =
    let served = has_served object c is in
    All-cons (λ m. m ≤ most) (extent_length object.zones (own_start c) c.extent) (map (λ (p : Period). length_to object.zones p.start p.end) c.periods)
    (extent_small object.zones (own_start c) c.extent offsets (own_served c.kind c.start c.extent served.start served.end) served.end is.short_extent)
    (All-map (λ m. m ≤ most) (λ (p : Period). length_to object.zones p.start p.end) c.periods
    (λ k d lt. period_small object.zones (get_or c.periods k d).start (get_or c.periods k d).end offsets (served.periods k d lt) (is.short_periods k d lt)))

greatest_small : (n : ℕ) (xs : List ℕ) → All (λ m. m ≤ n) xs → greatest xs ≤ n
greatest_small n [] all = omega arith
greatest_small n (x ∷ xs) all =
    let here : x ≤ n = All-head (λ m. m ≤ n) x xs all in
    let rest = greatest_small n xs (All-tail (λ m. m ≤ n) x xs all) in
    omega (arith, here, rest)

longest_small : (object : Object) → IsRead object → longest object ≤ most
longest_small object read =
    let offsets = (HasNearRows-read object read).offsets in
    greatest_small most (flat_map (lengths object.zones) object.components)
    (All-flat_map (λ m. m ≤ most) (lengths object.zones) object.components
    (All-weaker (IsReadComponent object) (λ c. All (λ m. m ≤ most) (lengths object.zones c)) (λ c is. component_small object c offsets is) object.components (IsReadObject-read object read).components))

-- Ids

abbrev HasStated : Aligned → Type 0
HasStated (at v) = IsStated v
HasStated (on_day midnight) = (first_date ≤ℤ midnight) × (midnight ≤ℤ last_date)

as_written : (s : Stamp) → IsServed s → IsStated (written_value s)
as_written s served = let first = served.from_first in let last = served.to_last in (omega (arith, ints, first), omega (arith, ints, last))

on_its_day : (s : Stamp) → IsServed s → (first_date ≤ℤ written_value s) × (written_value s ≤ℤ last_date)
on_its_day s served = (served.from_first, served.to_last)

floating_stated : (x : Stamp) → IsServed x → HasStated (align_floating x)
floating_stated (Date d) served = on_its_day (Date d) served
floating_stated (Floating l) served = as_written (Floating l) served
floating_stated (Zoned l zone) served = as_written (Zoned l zone) served
floating_stated (Utc u) served = as_written (Utc u) served

timed_stated : (zones : List ZoneTable) (x s : Stamp) → All HasShortOffsets zones → IsServed x → HasStated (align_timed zones x s)
timed_stated zones (Date d) s offsets served = on_its_day (Date d) served
timed_stated zones (Floating l) s offsets served = instant_stated zones s (written_value (Floating l)) offsets served.from_first served.to_last
timed_stated zones (Zoned l zone) s offsets served = value_stated zones (Zoned l zone) offsets served
timed_stated zones (Utc u) s offsets served = as_written (Utc u) served

align_stated : (zones : List ZoneTable) (x s : Stamp) → All HasShortOffsets zones → IsServed x → HasStated (align zones x s)
align_stated zones x (Date d) offsets served = let day = midnight_of-holds (written_value x) in let first = served.from_first in let last = served.to_last in (omega (arith, ints, day, first), omega (arith, ints, day, last))
align_stated zones x (Floating l) offsets served = floating_stated x served
align_stated zones x (Zoned l zone) offsets served = timed_stated zones x (Zoned l zone) offsets served
align_stated zones x (Utc u) offsets served = timed_stated zones x (Utc u) offsets served

first_holds : (z : ℤ) (xs : List ℤ) → IsStated z → All IsStated xs → IsStated (first_or_else z xs)
first_holds z [] is all = is
first_holds z (x ∷ xs) is all = All-head IsStated x xs all

-- a start on a local day of the stated dates
on_day_stated : (zones : List ZoneTable) (ids : Stamp) (midnight r : ℤ) → All HasShortOffsets zones → HasStated (on_day midnight) → names_start (reading_of zones ids) r (on_day midnight) ≡ true → IsStated r
on_day_stated zones ids midnight r offsets is names =
    let near = local-near zones ids r offsets in
    let day = midnight_of-holds ((reading_of zones ids).local r) in
    let same = same_int-true midnight (midnight_of ((reading_of zones ids).local r)) names in
    let first = is.0 in
    let last = is.1 in
    (omega (arith, ints, near, day, same, first), omega (arith, ints, near, day, same, last))

id_stated : (object : Object) (ids : Stamp) (all : List ℤ) (x : Aligned) → All HasShortOffsets object.zones → HasStated x → IsStated (id_of_override object ids all x)
id_stated object ids all (at v) offsets is = is
id_stated object ids all (on_day midnight) offsets is =
    let names : ℤ → Bool = λ r. names_start (reading_of object.zones ids) r (on_day midnight) in
    first_holds ((reading_of object.zones ids).instant midnight) (filter names all) (instant_stated object.zones ids midnight offsets is.0 is.1)
    (All-weaker (λ r. names r ≡ true) IsStated (λ r named. on_day_stated object.zones ids midnight r offsets is named) (filter names all) (filter_passes names all))

-- Rows

-- the id of a row, and all of one without a date
record IsFine (row : Row) : Type 0 where
  id : IsStated row.id
  undated : is_dated row ≡ false → (row.start ≡ pos 0) × (row.end ≡ pos 0)

has_date_of : (s : Stamp) → has_date (kind_of s) ≡ true
has_date_of (Date d) = refl
has_date_of (Floating l) = refl
has_date_of (Zoned l zone) = refl
has_date_of (Utc u) = refl

fine_row : (ids s : Stamp) (id start end : ℤ) (number : ℕ) → IsStated id → IsFine (row_of id start end number (kind_of ids) (kind_of s))
fine_row ids s id start end number stated = record { id = stated; undated = λ none. absurd (false≢true (sym none ∙ has_date_of s)) }

fine_undated : (n : Numbered) → IsFine (undated_row n)
fine_undated n = record { id = (omega (arith, ints), omega (arith, ints)); undated = λ none. (refl, refl) }

overrides_fine : (object : Object) (ids : Stamp) (all : List ℤ) (n : Numbered) → All HasShortOffsets object.zones → HasServed n.component → All IsFine (override_row object ids all n)
overrides_fine object ids all n offsets served =
    All-flat_map IsFine (λ s. override_row_from object ids all n s (value_of object.zones s)) (option_to_list (own_start n.component))
    (All-everywhere (λ s. All IsFine (override_row_from object ids all n s (value_of object.zones s))) from (option_to_list (own_start n.component)))
  where
    row : Stamp → Aligned → Row
    row s x = row_of (id_of_override object ids all x) (value_of object.zones s) (end_from object.zones n.component (value_of object.zones s)) n.number (kind_of ids) (kind_of s)

    named : All HasStated (named_by object.zones ids n)
    named =
        All-map HasStated (λ x. align object.zones x ids) (option_to_list n.component.recurrence_id)
        (All-weaker IsServed (λ x. HasStated (align object.zones x ids)) (λ x is. align_stated object.zones x ids offsets is) (option_to_list n.component.recurrence_id) served.id)

    from : (s : Stamp) → All IsFine (override_row_from object ids all n s (value_of object.zones s))
    from s =
        All-map IsFine (row s) (named_by object.zones ids n)
        (All-weaker HasStated (λ x. IsFine (row s x))
        (λ x is. fine_row ids s (id_of_override object ids all x) (value_of object.zones s) (end_from object.zones n.component (value_of object.zones s)) n.number (id_stated object ids all x offsets is))
        (named_by object.zones ids n) named)

master_fine : (object : Object) (ids : Stamp) (r : ℤ) (n : Numbered) → IsStated r → All IsFine (master_row every_moment object ids r n)
master_fine object ids r n stated =
    All-map IsFine (λ s. row_of r r (end_of_instance every_moment object.zones s n.component r) n.number (kind_of ids) (kind_of s)) (option_to_list (own_start n.component))
    (All-everywhere (λ s. IsFine (row_of r r (end_of_instance every_moment object.zones s n.component r) n.number (kind_of ids) (kind_of s)))
    (λ s. fine_row ids s r r (end_of_instance every_moment object.zones s n.component r) n.number stated) (option_to_list (own_start n.component)))

moved_fine : (object : Object) (ids : Stamp) (r : ℤ) (g : Governor) → IsStated r → IsFine (moved_to object ids r g)
moved_fine object ids r g stated = let row = moved_to object ids r g in fine_row ids g.start r row.start row.end g.override.number stated

numbered_served : (object : Object) → IsReadObject object → All (λ (n : Numbered). HasServed n.component) (numbered object)
numbered_served object is =
    All-numbered_from (λ (n : Numbered). HasServed n.component) 0 object.components
    (λ i j c e found. has_served object c (All-slice_get (IsReadComponent object) object.components i c is.components found))

rows_fine : (object : Object) → IsRead object → All IsFine (rows object)
rows_fine object read = rows-hold IsFine every_moment object (record {
  undated = fine_undated;
  own = λ ids all n c. overrides_fine object ids all n offsets (All-contains (λ (m : Numbered). HasServed m.component) (overrides object) n served c);
  instance = λ ids r n c d. master_fine object ids r n (All-contains IsStated (starts every_moment object) r stated c);
  moved = λ ids r g c governs served. moved_fine object ids r g (All-contains IsStated (starts every_moment object) r stated c);
})
  where
    offsets : All HasShortOffsets object.zones
    offsets = (HasNearRows-read object read).offsets

    stated : All IsStated (starts every_moment object)
    stated = starts-served every_moment object (IsReadObject-read object read)

    served : All (λ (m : Numbered). HasServed m.component) (overrides object)
    served = All-filter has_id (λ (m : Numbered). HasServed m.component) (numbered object) (numbered_served object (IsReadObject-read object read))

shown_row : (object : Object) → IsRead object → (row : Row) → Contains (rows object) row → IsShownRow row
shown_row object read row among = elim (cases_Bool (is_dated row)) [
  | inl dated ↦ with_date dated
  | inr none ↦ (let zero = (fine.undated none) in let start = zero.0 in let end = zero.1 in record {
    id = (omega (arith, ints, id), omega (arith, ints, id));
    start = (omega (arith, ints, start), omega (arith, ints, start));
    end = (omega (arith, ints, end), omega (arith, ints, end));
  })
]
  where
    fine : IsFine row
    fine = All-contains IsFine (rows object) row (rows_fine object read) among

    id : IsStated row.id
    id = fine.id

    with_date : is_dated row ≡ true → IsShownRow row
    with_date dated =
        let start : IsStated row.start = All-contains (λ r. is_dated r ≡ true → IsStated r.start) (rows object) row (rows-served every_moment object (IsReadObject-read object read)) among dated in
        let is = All-contains (λ r. is_dated r ≡ true → IsRowOf object r) (rows object) row (rows-of_components every_moment object (HasNearRows-read object read)) among dated in
        let near = is.end_near in
        let small = longest_small object read in
        record {
          id = (omega (arith, ints, id), omega (arith, ints, id));
          start = (omega (arith, ints, start), omega (arith, ints, start));
          end = (omega (arith, ints, start, near, small), omega (arith, ints, start, near, small));
        }

-- Original instances

-- the id that a RECURRENCE-ID gives by itself
pub named_moment : (object : Object) (ids name : Stamp) → IsRead object → IsServed name → IsCalendarMoment (named_id object.zones ids name)
named_moment object ids name read served =
    let stated = said (align object.zones name ids) (align_stated object.zones name ids offsets served) in
    (omega (arith, ints, stated), omega (arith, ints, stated))
  where
    offsets : All HasShortOffsets object.zones
    offsets = (HasNearRows-read object read).offsets

    said : (x : Aligned) → HasStated x → IsStated (id_said object.zones ids x)
    said (at v) is = is
    said (on_day midnight) is = instant_stated object.zones ids midnight offsets is.0 is.1

-- the id of an override
pub id_moment : (object : Object) (ids name : Stamp) (seen : Option ℤ) → IsRead object → IsServed name → All IsCalendarMoment (option_to_list seen) → IsCalendarMoment (unwrap_or seen (named_id object.zones ids name))
id_moment object ids name (Some id) read served moments = All-head IsCalendarMoment id [] moments
id_moment object ids name None read served moments = named_moment object ids name read served

-- the end of an instance that keeps the length of its component
pub end_near : (object : Object) (c : Component) (r : ℤ) → IsRead object → IsReadComponent object c → IsCalendarMoment r → IsNear (end_from object.zones c r)
end_near object c r read is within =
    let served = has_served object c is in
    near (own_start c) (extent_small object.zones (own_start c) c.extent offsets (own_served c.kind c.start c.extent served.start served.end) served.end is.short_extent)
  where
    offsets : All HasShortOffsets object.zones
    offsets = (HasNearRows-read object read).offsets

    first : neg_ℤ (pos 62_135_596_800) ≤ℤ r
    first = within.0

    last : r ≤ℤ pos 253_402_300_799
    last = within.1

    near : (own : Option Stamp) → extent_length object.zones own c.extent ≤ most → IsNear (end_beside object.zones c own r)
    near None small = (omega (arith, ints, first, last), omega (arith, ints, first, last))
    near (Some s) small = let close = end_of_extent-near object.zones s c.extent r offsets in (omega (arith, ints, first, last, close, small), omega (arith, ints, first, last, close, small))

-- rows of an object that was read
pub shown_rows : (object : Object) (some : List Row) → IsRead object → ((row : Row) → Contains some row → Contains (rows object) row) → All IsShownRow some
shown_rows object some read among = each_of IsShownRow some (λ row is. shown_row object read row (among row is))

-- all of them
pub rows_shown : (object : Object) → IsRead object → All IsShownRow (rows object)
rows_shown object read = shown_rows object (rows object) read (λ row is. is)

-- those of a window
pub window_shown : (object : Object) (window : ℤ) → IsRead object → All IsShownRow (rows_in object window)
window_shown object window read = shown_rows object (rows_in object window) read (λ row is. (rows_in-only every_moment object window row is).0)
