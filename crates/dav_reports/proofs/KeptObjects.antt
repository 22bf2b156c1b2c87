-- What holds of each object that the server keeps: its stamps can be converted, and its rows and stored periods lie near 1970.
use Rattle.std.proofs.Common.{◌≡◌, ℕ, suc, ◌+◌, ◌≤◌, Bool, true, false, cond, List, [], ◌∷◌, ◌++◌, length, map, Option, Some, None, refl, ◌∙◌, arith, ℤ, pos, neg_ℤ, ◌-ℤ◌, get_or}
use Rattle.std.specs.Prelude.{◌*◌, ◌||◌, not, filter, flat_map, option_to_list, is_none, is_some, unsigned_abs, nat_abs, nat_lt, All, Ok}
use Rattle.std.specs.List.{Contains, count_by}
use Rattle.std.proofs.lemmas.Bool.Decides.{nat_tests}
use Rattle.std.proofs.lemmas.Int.{ints}
use Rattle.std.proofs.lemmas.List.Elements.{All-cons, All-contains, All-head, All-map, All-tail, All-weaker}
use Rattle.std.proofs.lemmas.List.Sums.{sum_by-cons}
use Rattle.cal_moment.specs.Calendar.{IsBetween}
use Rattle.cal_moment.specs.declared.stamp.Length.{Length}
use Rattle.cal_moment.specs.declared.stamp.Period.{Period}
use Rattle.cal_moment.specs.declared.stamp.PeriodEnd.{PeriodEnd}
use Rattle.cal_moment.specs.declared.stamp.PeriodEnd.TheVariants.{At, After}
use Rattle.cal_moment.specs.declared.stamp.Stamp.{Stamp}
use Rattle.cal_model.specs.declared.object.Class.{Class}
use Rattle.cal_model.specs.declared.object.Component.{Component}
use Rattle.cal_model.specs.declared.object.Extent.{Extent}
use Rattle.cal_model.specs.declared.object.Extent.TheVariants as extent
use Rattle.cal_model.specs.declared.object.Object.{Object}
use Rattle.cal_model.specs.declared.row.Row.{Row}
use Rattle.cal_model.specs.declared.zone.ZoneTable.{ZoneTable}
use Rattle.cal_model.specs.Instances.Alignment.{value_of}
use Rattle.cal_model.specs.Instances.Rows.{Numbered, has_id, is_dated, masters, numbered_from, rows, rows_in, has_fine_rule}
use Rattle.cal_model.specs.Instances.Starts.{own_start}
use Rattle.cal_model.specs.Objects.LineValues.{is_short}
use Rattle.cal_model.specs.Objects.ObjectFacts.{HasShortEnd, IsRead, IsReadComponent, IsServed, stamps_of_extent}
use Rattle.cal_model.specs.Objects.DatedLines.{stamps_of_period}
use Rattle.cal_model.specs.Objects.ObjectReading.{read_object}
use Rattle.cal_model.specs.Ranges.Cost.{extent_length, greatest, length_to, lengths, longest}
use Rattle.cal_model.specs.Ranges.Nearness.{HasShortOffsets}
use Rattle.cal_model.specs.Ranges.Overlap.{seconds_of}
use Rattle.cal_model.specs.Recurrence.RecurrenceSet.{every_moment}
use Rattle.cal_model.specs.Refusals.Preconditions.{IsServable, has_too_many}
use Rattle.cal_model.specs.Refusals.RequestLimits.{instances_limit}
use Rattle.cal_model.specs.TimeZones.TableBounds.{IsTable}
use Rattle.cal_model.proofs.Instances.ServedStarts.{IsStatedBy, rows-served}
use Rattle.cal_model.proofs.Objects.ObjectFactLaws.{IsReadObject-read}
use Rattle.cal_model.proofs.Objects.ObjectNearness.{HasNearRows-read}
use Rattle.cal_model.proofs.Ranges.NearRows.{IsRowOf, rows-of_components}
use Rattle.cal_model.proofs.Ranges.WindowLaws.{rows_in-only}
use Rattle.cal_model.proofs.Words.AllLemmas.{All-each_part, All-flat_map, All-right}
use Rattle.cal_model.proofs.Words.ListTests.{each_of}
use Rattle.overlap_rules.specs.Bounds.{IsNearRow}
use Rattle.override_merge.specs.Conversions.{IsConvertible, IsConvertibleExtent, IsShortLength}
use Rattle.override_merge.specs.ExpandableComponents.{IsConvertibleEnd, IsConvertiblePeriod, IsExpandable}
use Rattle.override_merge.proofs.ReadObjects.{HasConvertibleRows-read}
use Rattle.override_merge.proofs.StampLemmas.{own_start_convertible}
use Rattle.rrule_sets.specs.CountedRows.{has_own_row}
use Rattle.rrule_sets.proofs.DateStarts.{value_near}
use Rattle.rrule_sets.proofs.ReadLemmas.{HasRowsToFind-read}
use Rattle.rrule_sets.proofs.RowCounts.{length_rows}
use Rattle.dav_reports.specs.ObjectTimes.{IsNearPeriod, IsNearStored}
use Rattle.dav_reports.specs.PieceRows.{IsKept}

pub kept_zones : (object : Object) → IsKept object → All IsTable object.zones
kept_zones object kept = (HasConvertibleRows-read object kept.read kept.few).zones

pub kept_components : (object : Object) → IsKept object → All (IsExpandable (length object.zones)) object.components
kept_components object kept = (HasRowsToFind-read object kept.read kept.few kept.coarse).components

-- Lengths

-- half as much as what two moments near 1970 may lie apart, and that
abbrev IsClose : ℤ → Type 0
IsClose = IsBetween (neg_ℤ (pos 1_200_000_000_000)) (pos 1_200_000_000_000)

abbrev most : ℕ
most = 2_400_000_000_000

apart : (x y : ℤ) → IsClose x → IsClose y → unsigned_abs (x -ℤ y) ≤ most
apart x y a b = omega (arith, ints, a, b)

short : (length : Length) → IsShortLength length → unsigned_abs (seconds_of length) ≤ most
short length is = let days = is.days in let seconds = is.seconds in omega (arith, ints, days, seconds)

distance : (zones : List ZoneTable) (n : ℕ) (start end : Stamp) → All HasShortOffsets zones → IsConvertible n start → IsConvertible n end → unsigned_abs (value_of zones end -ℤ value_of zones start) ≤ most
distance zones n start end offsets a b = apart (value_of zones end) (value_of zones start) (value_near zones end offsets b.near) (value_near zones start offsets a.near)

extent_small : (zones : List ZoneTable) (n : ℕ) (own : Option Stamp) (said : Extent) → All HasShortOffsets zones → All (IsConvertible n) (option_to_list own) → IsConvertibleExtent n said → extent_length zones own said ≤ most
extent_small zones n own (extent.Lasting length) offsets start is = short length is
extent_small zones n (Some s) (extent.End e) offsets start is = distance zones n s e offsets (All-head (IsConvertible n) s [] start) is
extent_small zones n (Some s) (extent.Due e) offsets start is = distance zones n s e offsets (All-head (IsConvertible n) s [] start) is
extent_small zones n None (extent.End e) offsets start is = omega arith
extent_small zones n None (extent.Due e) offsets start is = omega arith
extent_small zones n None extent.Point offsets start is = omega arith
extent_small zones n None extent.WholeDay offsets start is = omega arith
extent_small zones n None extent.None offsets start is = omega arith
extent_small zones n (Some s) extent.Point offsets start is = omega arith
extent_small zones n (Some s) extent.WholeDay offsets start is = omega arith
extent_small zones n (Some s) extent.None offsets start is = omega arith

period_small : (zones : List ZoneTable) (n : ℕ) (start : Stamp) (end : PeriodEnd) → All HasShortOffsets zones → IsConvertible n start → IsConvertibleEnd n end → length_to zones start end ≤ most
period_small zones n start (At e) offsets a b = distance zones n start e offsets a b
period_small zones n start (After length) offsets a b = short length b

component_small : (zones : List ZoneTable) (c : Component) → All HasShortOffsets zones → IsExpandable (length zones) c → All (λ m. m ≤ most) (lengths zones c)
component_small zones c offsets is =
    All-cons (λ m. m ≤ most) (extent_length zones (own_start c) c.extent) (map (λ (p : Period). length_to zones p.start p.end) c.periods)
    (extent_small zones (length zones) (own_start c) c.extent offsets (own_start_convertible (length zones) c is.row) is.row.extent)
    (All-map (λ m. m ≤ most) (λ (p : Period). length_to zones p.start p.end) c.periods
    (All-weaker (IsConvertiblePeriod (length zones)) (λ (p : Period). length_to zones p.start p.end ≤ most) (λ p at. period_small zones (length zones) p.start p.end offsets at.start at.end) c.periods is.periods))

greatest_small : (n : ℕ) (xs : List ℕ) → All (λ m. m ≤ n) xs → greatest xs ≤ n
greatest_small n [] all = omega arith
greatest_small n (x ∷ xs) all =
    let here : x ≤ n = All-head (λ m. m ≤ n) x xs all in
    let rest = greatest_small n xs (All-tail (λ m. m ≤ n) x xs all) in
    omega (arith, here, rest)

longest_small : (object : Object) → IsKept object → longest object ≤ most
longest_small object kept =
    let offsets = (HasNearRows-read object kept.read).offsets in
    greatest_small most (flat_map (lengths object.zones) object.components)
    (All-flat_map (λ m. m ≤ most) (lengths object.zones) object.components
    (All-weaker (IsExpandable (length object.zones)) (λ c. All (λ m. m ≤ most) (lengths object.zones c)) (λ c is. component_small object.zones c offsets is) object.components (kept_components object kept)))

-- Rows

-- the rows in a window
pub rows_near : (object : Object) → IsKept object → (window : ℤ) → All IsNearRow (rows_in object window)
rows_near object kept window = each_of IsNearRow (rows_in object window) near
  where
    near : (row : Row) → Contains (rows_in object window) row → IsNearRow row
    near row among =
        let only = rows_in-only every_moment object window row among in
        let start = All-contains (λ r. is_dated r ≡ true → IsStatedBy 172800 r.start) (rows object) row (rows-served every_moment object (IsReadObject-read object kept.read)) only.0 only.1 in
        let is = All-contains (λ r. is_dated r ≡ true → IsRowOf object r) (rows object) row (rows-of_components every_moment object (HasNearRows-read object kept.read)) only.0 only.1 in
        let end = is.end_near in
        let small = longest_small object kept in
        record {
          start = (omega (arith, ints, start), omega (arith, ints, start));
          end = (omega (arith, ints, start, end, small), omega (arith, ints, start, end, small));
        }

-- Stored periods

period_near : (start : Stamp) (end : PeriodEnd) → All IsServed (stamps_of_period (record { start = start; end = end })) → HasShortEnd (record { start = start; end = end }) → IsNearPeriod (record { start = start; end = end })
period_near start (At e) served short =
    let first = (All-head IsServed start (e ∷ []) served) in
    let last = (All-head IsServed e [] (All-tail IsServed start (e ∷ []) served)) in
    let a = first.from_first in let b = first.to_last in let c = last.from_first in let d = last.to_last in
    record { start = (omega (arith, ints, a, b), omega (arith, ints, a, b)); end = (omega (arith, ints, c, d), omega (arith, ints, c, d)) }
period_near start (After length) served short =
    let first = (All-head IsServed start [] served) in
    let a = first.from_first in let b = first.to_last in
    let size = is_short_size length short in
    record { start = (omega (arith, ints, a, b), omega (arith, ints, a, b)); end = (omega (arith, ints, a, b, size), omega (arith, ints, a, b, size)) }
  where
    is_short_size : (length : Length) → is_short length ≡ true → nat_abs (seconds_of length) ≤ 200_000 * 86_400
    is_short_size length e = grind (arith, nat_tests, e)

component_stored : (object : Object) (c : Component) → IsReadComponent object c → All IsNearStored c.stored_busy
component_stored object c is =
    let front = option_to_list c.start ++ stamps_of_extent c.extent ++ option_to_list c.recurrence_id ++ c.dates ++ flat_map stamps_of_period c.periods ++ c.except in
    let stored = flat_map (λ (entry : Option Class × Period). stamps_of_period entry.1) c.stored_busy in
    let served = All-each_part IsServed (λ (entry : Option Class × Period). stamps_of_period entry.1) c.stored_busy (All-right IsServed front stored is.served) in
    λ k d lt. period_near (get_or c.stored_busy k d).1.start (get_or c.stored_busy k d).1.end (served k d lt) (is.short_busy k d lt)

pub stored_near : (object : Object) → IsKept object → All (λ (c : Component). All IsNearStored c.stored_busy) object.components
stored_near object kept = All-weaker (IsReadComponent object) (λ (c : Component). All IsNearStored c.stored_busy) (component_stored object) object.components (IsReadObject-read object kept.read).components

-- Objects that are stored

-- each component but a master has a row
abbrev HasRows : ℕ → List Component → Type 0
HasRows k cs = length cs ≤ count_by has_own_row cs + length (filter (λ (n : Numbered). not (has_id n)) (numbered_from k cs))

rows_more : (c : Component) (cs : List Component) (named without : Bool) → is_some c.recurrence_id ≡ named → is_none (own_start c) ≡ without
    → count_by has_own_row (c ∷ cs) ≡ cond (without || named) 1 0 + count_by has_own_row cs
rows_more c cs named without e f = sum_by-cons (λ (x : Component). cond (has_own_row x) 1 0) c cs ∙ (λ i. cond (f i || e i) 1 0 + count_by has_own_row cs)

masters_more : (k : ℕ) (c : Component) (cs : List Component) (named : Bool) → is_some c.recurrence_id ≡ named
    → length (filter (λ (n : Numbered). not (has_id n)) (numbered_from k (c ∷ cs))) ≡ cond (not named) 1 0 + length (filter (λ (n : Numbered). not (has_id n)) (numbered_from (k + 1) cs))
masters_more k c cs true e = rw e (omega arith)
masters_more k c cs false e = rw e (omega arith)

counted : (size rows masters all_rows all_masters : ℕ) (named without : Bool) → size ≤ rows + masters → all_rows ≡ cond (without || named) 1 0 + rows → all_masters ≡ cond (not named) 1 0 + masters → suc size ≤ all_rows + all_masters
counted size rows masters all_rows all_masters true true h a b = omega arith
counted size rows masters all_rows all_masters true false h a b = omega arith
counted size rows masters all_rows all_masters false true h a b = omega arith
counted size rows masters all_rows all_masters false false h a b = omega arith

one_more : (k : ℕ) (c : Component) (cs : List Component) (named without : Bool) → is_some c.recurrence_id ≡ named → is_none (own_start c) ≡ without → HasRows (k + 1) cs → HasRows k (c ∷ cs)
one_more k c cs named without e f later = counted (length cs) _ _ _ _ named without later (rows_more c cs named without e f) (masters_more k c cs named e)

each_has_a_row : (k : ℕ) (cs : List Component) → HasRows k cs
each_has_a_row k [] = omega arith
each_has_a_row k (c ∷ cs) = one_more k c cs (is_some c.recurrence_id) (is_none (own_start c)) refl refl (each_has_a_row (k + 1) cs)

few_parts : (object : Object) → has_too_many object ≡ false → (has_fine_rule object ≡ false) × (length (rows object) ≤ instances_limit)
few_parts object few = by_rule (has_fine_rule object) refl few
  where
    by_rule : (b : Bool) → has_fine_rule object ≡ b → (b || nat_lt instances_limit (length (rows object))) ≡ false → (has_fine_rule object ≡ false) × (length (rows object) ≤ instances_limit)
    by_rule true e f = absurd cc
    by_rule false e f = (e, grind (arith, nat_tests, f))

-- an object that octets are and that is not too much is kept
pub IsKept-stored : (octets : List ℕ) (object : Object) → IsServable octets → read_object octets ≡ Ok object → IsKept object
IsKept-stored octets object servable reading =
    let same : servable.object ≡ object = cc (servable.reading, reading) in
    let few = few_parts object (rw same at servable.few) in
    let read : IsRead object = record { octets = octets; reading = reading } in
    let one = (IsReadObject-read object read).one_master in
    let rows_are = length_rows object one in
    let each = each_has_a_row 0 object.components in
    let counted = few.1 in
    record { read = read; few = omega (arith, one, rows_are, each, counted); coarse = few.0 }
