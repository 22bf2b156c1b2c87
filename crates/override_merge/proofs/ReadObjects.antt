-- Each object that was read has what a merge asks for: zones with short offsets, served stamps in zones that are there, and lengths of days and seconds that are short by themselves, since both bear one sign (RFC 5545, 3.3.6).
use Rattle.std.proofs.Common.{◌≡◌, ℕ, ◌*◌, ◌<◌, ◌≤◌, ◌^◌, List, [], ◌∷◌, ◌++◌, length, refl, sym, ap, subst, arith, Bool, true, false, pos, ◌≤ℤ◌, suc}
use Rattle.std.specs.Prelude.{All, filter_map, flat_map, option_to_list, Option, Some, nat_abs}
use Rattle.std.specs.List.{AllByRecursion as Each}
use Rattle.std.specs.Prelude.{codes}
use Rattle.std.proofs.lemmas.Int.{ints}
use Rattle.std.proofs.lemmas.List.Elements.{All-weaker, All-map, All-from_recursion, All-head, All-tail, All-nil, All-cons}
use Rattle.cal_base.specs.Lines.ContentLines.{placed_lines}
use Rattle.cal_base.specs.declared.line.Line.{Line}
use Rattle.cal_moment.specs.Texts.{signed}
use Rattle.cal_moment.specs.declared.stamp.Length.{Length}
use Rattle.cal_moment.specs.declared.stamp.Period.{Period}
use Rattle.cal_moment.specs.declared.stamp.Stamp.{Stamp}
use Rattle.cal_moment.specs.declared.stamp.Stamp.TheVariants.{Date, Floating, Zoned, Utc}
use Rattle.cal_model.specs.declared.object.Class.{Class}
use Rattle.cal_model.specs.declared.object.Component.{Component}
use Rattle.cal_model.specs.declared.object.Extent.{Extent}
use Rattle.cal_model.specs.declared.object.Extent.TheVariants as extent
use Rattle.cal_model.specs.declared.object.Object.{Object}
use Rattle.cal_model.specs.declared.zone.ZoneTable.{ZoneTable}
use Rattle.cal_model.specs.Values.ValueTexts.{length_of}
use Rattle.cal_model.specs.Ranges.Overlap.{seconds_of}
use Rattle.cal_model.specs.Recurrence.RecurrenceSet.{every_moment}
use Rattle.cal_model.specs.TimeZones.TableBounds.{IsTable}
use Rattle.cal_model.specs.Objects.ComponentLines.{lines_of, one_of}
use Rattle.cal_model.specs.Objects.ZoneReading.{zone_names, zones_of}
use Rattle.cal_model.specs.Objects.DatedLines.{stamps_of_period}
use Rattle.cal_model.specs.Objects.CalendarChildren.{Child, children_in, kinds_among, component_of_child}
use Rattle.cal_model.specs.Instances.Rows.{ids_start}
use Rattle.cal_model.specs.Objects.ObjectReading.{object_in, settled_component}
use Rattle.cal_model.specs.Objects.ObjectFacts.{IsRead, IsReadComponent, IsZone, IsKnown, IsServed, IsShort, lengths_of_extent, stamps_of_extent, component_stamps}
use Rattle.cal_model.proofs.Objects.ComponentStamps.{is_made}
use Rattle.cal_model.proofs.Objects.ObjectFactLaws.{IsReadObject-read}
use Rattle.cal_model.proofs.Objects.ReadingSteps.{read_from}
use Rattle.cal_model.proofs.Objects.RuleBounds.{and_then_value}
use Rattle.cal_model.proofs.Objects.ShortLengths.{extent_lengths}
use Rattle.cal_model.proofs.TimeZones.ZoneTableLaws.{IsTable-table_of}
use Rattle.cal_model.proofs.Values.LengthLaws.{SpellsLength-length_of}
use Rattle.cal_model.proofs.Words.EachLemmas.{each-filter_map}
use Rattle.override_merge.specs.Conversions.{HasZone, IsConvertible, IsShortLength, IsConvertibleExtent, HasConvertibleRow, HasConvertibleRows}

-- Lengths.

-- the days and the seconds of a length bear one sign
pub data IsOneSigned (length : Length) : Type 0 where
  forward : pos 0 ≤ℤ length.days → pos 0 ≤ℤ length.seconds → IsOneSigned length
  backward : length.days ≤ℤ pos 0 → length.seconds ≤ℤ pos 0 → IsOneSigned length

by_sign : (length : Length) (negative : Bool) (days seconds : ℕ) → length.days ≡ signed negative days → length.seconds ≡ signed negative seconds → IsOneSigned length
by_sign length true days seconds e f = backward (omega (arith, ints, e)) (omega (arith, ints, f))
by_sign length false days seconds e f = forward (omega (arith, ints, e)) (omega (arith, ints, f))

pub one_signed : (text : List ℕ) (length : Length) → length_of text ≡ Some length → IsOneSigned length
one_signed text length e = let spelled = SpellsLength-length_of text length e in by_sign length spelled.negative spelled.days spelled.seconds spelled.days_number spelled.seconds_number

pub short_parts : (length : Length) → IsShort length → IsOneSigned length → IsShortLength length
short_parts lasting short (forward days seconds) =
    let most : nat_abs (seconds_of lasting) ≤ 200_000 * 86_400 = grind (arith, short) in
    record { days = (omega (arith, ints, most), omega (arith, ints, most)); seconds = (omega (arith, ints, most), omega (arith, ints, most)) }
short_parts lasting short (backward days seconds) =
    let most : nat_abs (seconds_of lasting) ≤ 200_000 * 86_400 = grind (arith, short) in
    record { days = (omega (arith, ints, most), omega (arith, ints, most)); seconds = (omega (arith, ints, most), omega (arith, ints, most)) }

all_untested : {X : Type 0} (xs : List X) → Each (λ (x : X). Unit {0}) xs
all_untested [] = tt
all_untested (x ∷ xs) = (tt, all_untested xs)

extent_one_signed : (names : List (List ℕ)) (child : Child) (component : Component) → component_of_child names child ≡ Some component → Each IsOneSigned (lengths_of_extent component.extent)
extent_one_signed names child component made =
    let source = is_made names child component made in
    rw source.is
    (extent_lengths IsOneSigned names source.kind (lines_of child.tree)
    (λ length is. let found = and_then_value (λ (line : Line). length_of line.value) (one_of (codes "DURATION") (lines_of child.tree)) length is in one_signed found.0.value length found.2))

abbrev HasOneSigned : Component → Type 0
HasOneSigned c = Each IsOneSigned (lengths_of_extent c.extent)

lengths_one_signed : (object : Object) → IsRead object → All (λ (c : Component). Each IsOneSigned (lengths_of_extent c.extent)) object.components
lengths_one_signed object read =
    let found = read_from every_moment read.octets object read.reading in
    let said = object_in every_moment (placed_lines read.octets) found.0 in
    let P : Object → Type 0 = λ o. All HasOneSigned o.components in
    subst P (sym found.1.is)
    (All-map HasOneSigned (settled_component (ids_start said)) said.components
    (All-weaker HasOneSigned (λ c. HasOneSigned (settled_component (ids_start said) c)) (λ c has. has) said.components
    (of_children (zones_of every_moment found.0) (kinds_among (children_in (placed_lines read.octets) found.0)))))
  where
    of_children : (zones : List ZoneTable) (children : List Child) → All HasOneSigned (filter_map (component_of_child (zone_names zones)) children)
    of_children zones children =
        All-from_recursion HasOneSigned (filter_map (component_of_child (zone_names zones)) children)
        (each-filter_map (λ (child : Child). Unit {0}) HasOneSigned (component_of_child (zone_names zones)) (λ child component any made. extent_one_signed (zone_names zones) child component made) children (all_untested children))

-- Stamps.

names_count : (zones : List ZoneTable) → length (zone_names zones) ≡ length zones
names_count [] = refl
names_count (z ∷ zs) = ap (λ n. suc n) (names_count zs)

known_zone : (zones : List ZoneTable) (stamp : Stamp) → IsKnown zones stamp → HasZone (length zones) stamp
known_zone zones (Date day) known = tt
known_zone zones (Floating local) known = tt
known_zone zones (Zoned local number) known = let count = names_count zones in grind (arith, count, known)
known_zone zones (Utc moment) known = tt

served_stamp : (zones : List ZoneTable) (stamp : Stamp) → IsKnown zones stamp → IsServed stamp → IsConvertible (length zones) stamp
served_stamp zones stamp known served =
    let from = served.from_first in let to = served.to_last in
    record { zone = known_zone zones stamp known; near = (omega (arith, ints, from), omega (arith, ints, to)) }

All-left : {X : Type 0} (P : X → Type 0) (xs ys : List X) → All P (xs ++ ys) → All P xs
All-left P [] ys all = All-nil P
All-left P (x ∷ xs) ys all = All-cons P x xs (All-head P x (xs ++ ys) all) (All-left P xs ys (All-tail P x (xs ++ ys) all))

All-right : {X : Type 0} (P : X → Type 0) (xs ys : List X) → All P (xs ++ ys) → All P ys
All-right P [] ys all = all
All-right P (x ∷ xs) ys all = All-right P xs ys (All-tail P x (xs ++ ys) all)

served_extent : (zones : ℕ) (said : Extent) → All (IsConvertible zones) (stamps_of_extent said) → All IsShort (lengths_of_extent said) → Each IsOneSigned (lengths_of_extent said) → IsConvertibleExtent zones said
served_extent zones (extent.End end) stamps short signs = All-head (IsConvertible zones) end [] stamps
served_extent zones (extent.Due end) stamps short signs = All-head (IsConvertible zones) end [] stamps
served_extent zones (extent.Lasting length) stamps short signs = short_parts length (All-head IsShort length [] short) signs.0
served_extent zones extent.Point stamps short signs = tt
served_extent zones extent.WholeDay stamps short signs = tt
served_extent zones extent.None stamps short signs = tt

pub all_convertible : (object : Object) (c : Component) → IsReadComponent object c → All (IsConvertible (length object.zones)) (component_stamps c)
all_convertible object c is = λ k d lt. served_stamp object.zones _ (is.known_zones k d lt) (is.served k d lt)

row_convertible : (object : Object) (c : Component) → IsReadComponent object c → Each IsOneSigned (lengths_of_extent c.extent) → HasConvertibleRow (length object.zones) c
row_convertible object c is signs =
    let P = IsConvertible (length object.zones) in
    let start = option_to_list c.start in
    let said = stamps_of_extent c.extent in
    let id = option_to_list c.recurrence_id in
    let periods = flat_map stamps_of_period c.periods in
    let stored = flat_map (λ (entry : Option Class × Period). stamps_of_period entry.1) c.stored_busy in
    let whole = all_convertible object c is in
    let up_to_except = All-left P (start ++ said ++ id ++ c.dates ++ periods ++ c.except) stored whole in
    let up_to_periods = All-left P (start ++ said ++ id ++ c.dates ++ periods) c.except up_to_except in
    let up_to_dates = All-left P (start ++ said ++ id ++ c.dates) periods up_to_periods in
    let up_to_id = All-left P (start ++ said ++ id) c.dates up_to_dates in
    let up_to_extent = All-left P (start ++ said) id up_to_id in
    record {
      start = All-left P start said up_to_extent;
      extent = served_extent (length object.zones) c.extent (All-right P start said up_to_extent) is.short_extent signs;
      id = All-right P (start ++ said) id up_to_id;
    }

-- what was read can be merged
pub HasConvertibleRows-read : (object : Object) → IsRead object → length object.components < 2 ^ 32 → HasConvertibleRows object
HasConvertibleRows-read object read few =
    let facts = IsReadObject-read object read in
    let signs = lengths_one_signed object read in
    record {
      zones = All-weaker IsZone IsTable (λ zone is. subst IsTable (sym is.table) (IsTable-table_of zone.name is.parts is.read)) object.zones facts.zones;
      components = λ k d lt. row_convertible object _ (facts.components k d lt) (signs k d lt);
      numbers = few;
    }
