-- Where offsets are below a day, a row's end lies near its start, and both near its nominal start.
use Rattle.std.proofs.Common.{◌≡◌, ℕ, ◌+◌, ◌≤◌, List, [], ◌∷◌, ◌++◌, map, refl, arith, Bool, false, ℤ, pos, negsuc, ◌+ℤ◌, ◌-ℤ◌, ◌*ℤ◌, inl, inr, zero, suc}
use Rattle.std.specs.Prelude.{All, filter, flat_map, int_lt, unsigned_abs, if◌then◌else◌, Some}
use Rattle.std.specs.List.{list_any}
use Rattle.std.proofs.lemmas.Int.{ints}
use Rattle.std.proofs.lemmas.Bool.{cases_Bool}
use Rattle.std.proofs.lemmas.List.Elements.{All-head, All-tail, All-nil, All-cons}
use Rattle.cal_moment.specs.declared.stamp.Stamp.{Stamp}
use Rattle.cal_moment.specs.declared.stamp.Stamp.TheVariants.{Date, Floating, Zoned, Utc}
use Rattle.cal_moment.specs.declared.stamp.Length.{Length}
use Rattle.cal_moment.specs.declared.stamp.Period.{Period}
use Rattle.cal_moment.specs.declared.stamp.PeriodEnd.{PeriodEnd}
use Rattle.cal_moment.specs.declared.stamp.PeriodEnd.TheVariants.{At, After}
use Rattle.cal_model.specs.declared.object.Component.{Component}
use Rattle.cal_model.specs.declared.object.Extent.{Extent}
use Rattle.cal_model.specs.declared.object.Extent.TheVariants as extent
use Rattle.cal_model.specs.declared.zone.ZoneTable.{ZoneTable}
use Rattle.cal_model.specs.Words.Integers.{greatest_of, same_int}
use Rattle.cal_model.specs.Instances.Alignment.{utc_zone, zone_of, reading_of, value_of, kind_of, plus_length, align, start_on, written_value}
use Rattle.cal_model.specs.Instances.Starts.{own_start, end_of_extent, end_of_period, end_of_instance, rule_starts, plain_starts, period_starts, date_start, latest_of, is_date}
use Rattle.cal_model.specs.Ranges.Overlap.{in_zone, seconds_of}
use Rattle.cal_model.specs.Ranges.Cost.{extent_length, length_to, lengths}
use Rattle.cal_model.specs.Ranges.Nearness.{IsNear, HasShortOffsets, IsTimed, end_is_date}
use Rattle.cal_model.proofs.Words.IntegerLemmas.{same_int-true}
use Rattle.cal_model.proofs.TimeZones.NearTimes.{local_at-near, instant_of-near}

-- Readings.

utc_zone-short : HasShortOffsets utc_zone
utc_zone-short = record { before = (omega (arith, ints), omega (arith, ints)); after = All-nil _ }

pub zone_of-short : (zones : List ZoneTable) (number : ℕ) → All HasShortOffsets zones → HasShortOffsets (zone_of zones number)
zone_of-short [] number all = utc_zone-short
zone_of-short (z ∷ zs) zero all = All-head HasShortOffsets z zs all
zone_of-short (z ∷ zs) (suc number) all = zone_of-short zs number (All-tail HasShortOffsets z zs all)

itself_near : (z : ℤ) → IsNear 86400 z z
itself_near z = (omega (arith, ints), omega (arith, ints))

pub local-near : (zones : List ZoneTable) (s : Stamp) (u : ℤ) → All HasShortOffsets zones → IsNear 86400 ((reading_of zones s).local u) u
local-near zones (Date d) u all = itself_near u
local-near zones (Floating l) u all = itself_near u
local-near zones (Zoned l number) u all = local_at-near (zone_of zones number) u (zone_of-short zones number all)
local-near zones (Utc v) u all = itself_near u

pub instant-near : (zones : List ZoneTable) (s : Stamp) (l : ℤ) → All HasShortOffsets zones → IsNear 86400 ((reading_of zones s).instant l) l
instant-near zones (Date d) l all = itself_near l
instant-near zones (Floating f) l all = itself_near l
instant-near zones (Zoned f number) l all = instant_of-near (zone_of zones number) l (zone_of-short zones number all)
instant-near zones (Utc v) l all = itself_near l

-- a time of a row by the clock of its own kind, read in a zone, lies within a day more of the row's nominal start
pub in_zone-near : (zones : List ZoneTable) (zone : ZoneTable) (s : Stamp) (r e : ℤ) (n : ℕ) → All HasShortOffsets zones → HasShortOffsets zone → IsNear n e r → IsNear (86400 + n) (in_zone (kind_of s) zone e) ((reading_of zones s).local r)
in_zone-near zones zone (Date d) r e n all short near = let there = instant_of-near zone e short in (omega (arith, ints, there, near), omega (arith, ints, there, near))
in_zone-near zones zone (Floating l) r e n all short near = let there = instant_of-near zone e short in (omega (arith, ints, there, near), omega (arith, ints, there, near))
in_zone-near zones zone (Zoned l number) r e n all short near = let back = local_at-near (zone_of zones number) r (zone_of-short zones number all) in (omega (arith, ints, back, near), omega (arith, ints, back, near))
in_zone-near zones zone (Utc u) r e n all short near = (omega (arith, ints, near), omega (arith, ints, near))

-- Ends.

-- a sum with something no larger than a size
by_size : (r z : ℤ) → IsNear (172800 + unsigned_abs z) (r +ℤ z) r
by_size r (pos n) = (omega (arith, ints), omega (arith, ints))
by_size r (negsuc n) = (omega (arith, ints), omega (arith, ints))

moved_by : (r x y z : ℤ) → IsNear 86400 x r → IsNear 86400 y (x +ℤ z) → (w : ℤ) → IsNear (172800 + unsigned_abs (z +ℤ w)) (y +ℤ w) r
moved_by r x y z near far w = sized (z +ℤ w) refl
  where
    sized : (t : ℤ) → t ≡ z +ℤ w → IsNear (172800 + unsigned_abs t) (y +ℤ w) r
    sized (pos n) e = (omega (arith, ints, near, far, e), omega (arith, ints, near, far, e))
    sized (negsuc n) e = (omega (arith, ints, near, far, e), omega (arith, ints, near, far, e))

pub plus_length-near : (zones : List ZoneTable) (s : Stamp) (r : ℤ) (length : Length) → All HasShortOffsets zones → IsNear (172800 + unsigned_abs (seconds_of length)) (plus_length (reading_of zones s) r length) r
plus_length-near zones s r length all =
    moved_by r ((reading_of zones s).local r) ((reading_of zones s).instant ((reading_of zones s).local r +ℤ length.days *ℤ pos 86400)) (length.days *ℤ pos 86400)
    (local-near zones s r all) (instant-near zones s ((reading_of zones s).local r +ℤ length.days *ℤ pos 86400) all) length.seconds

pub end_of_extent-near : (zones : List ZoneTable) (s : Stamp) (said : Extent) (r : ℤ) → All HasShortOffsets zones → IsNear (172800 + extent_length zones (Some s) said) (end_of_extent zones s said r) r
end_of_extent-near zones s (extent.End e) r all = by_size r (value_of zones e -ℤ value_of zones s)
end_of_extent-near zones s (extent.Due e) r all = by_size r (value_of zones e -ℤ value_of zones s)
end_of_extent-near zones s (extent.Lasting length) r all = plus_length-near zones s r length all
end_of_extent-near zones s extent.WholeDay r all = (omega (arith, ints), omega (arith, ints))
end_of_extent-near zones s extent.Point r all = (omega (arith, ints), omega (arith, ints))
end_of_extent-near zones s extent.None r all = (omega (arith, ints), omega (arith, ints))

-- a stamp that is no DATE, aligned beside a start that is none, lies within a day of its value
pub aligned-near : (zones : List ZoneTable) (s x : Stamp) → All HasShortOffsets zones → is_date s ≡ false → is_date x ≡ false → IsNear 86400 (start_on (reading_of zones s) s (align zones x s)) (value_of zones x)
aligned-near zones (Date d) x all timed moment = absurd cc
aligned-near zones (Floating l) (Date d) all timed moment = absurd cc
aligned-near zones (Floating l) (Floating x) all timed moment = itself_near _
aligned-near zones (Floating l) (Zoned x number) all timed moment = let there = instant_of-near (zone_of zones number) (written_value (Zoned x number)) (zone_of-short zones number all) in (omega (arith, ints, there), omega (arith, ints, there))
aligned-near zones (Floating l) (Utc u) all timed moment = itself_near _
aligned-near zones (Zoned l number) (Date d) all timed moment = absurd cc
aligned-near zones (Zoned l number) (Floating x) all timed moment = instant_of-near (zone_of zones number) (written_value (Floating x)) (zone_of-short zones number all)
aligned-near zones (Zoned l number) (Zoned x other) all timed moment = itself_near _
aligned-near zones (Zoned l number) (Utc u) all timed moment = itself_near _
aligned-near zones (Utc v) (Date d) all timed moment = absurd cc
aligned-near zones (Utc v) (Floating x) all timed moment = itself_near _
aligned-near zones (Utc v) (Zoned x other) all timed moment = itself_near _
aligned-near zones (Utc v) (Utc u) all timed moment = itself_near _

-- RDATE periods.

apart : (x y a b : ℤ) → IsNear 86400 x a → IsNear 86400 y b → IsNear (172800 + unsigned_abs (b -ℤ a)) y x
apart x y a b near far = sized (b -ℤ a) refl
  where
    sized : (t : ℤ) → t ≡ b -ℤ a → IsNear (172800 + unsigned_abs t) y x
    sized (pos n) e = (omega (arith, ints, near, far, e), omega (arith, ints, near, far, e))
    sized (negsuc n) e = (omega (arith, ints, near, far, e), omega (arith, ints, near, far, e))

period_end-near : (zones : List ZoneTable) (s first : Stamp) (end : PeriodEnd) → All HasShortOffsets zones → is_date s ≡ false → is_date first ≡ false → end_is_date end ≡ false →
    IsNear (172800 + length_to zones first end) (end_of_period zones s (date_start zones s first) end) (date_start zones s first)
period_end-near zones s first (At e) all timed moment later =
    apart (date_start zones s first) (end_of_period zones s (date_start zones s first) (At e)) (value_of zones first) (value_of zones e)
    (aligned-near zones s first all timed moment) (aligned-near zones s e all timed later)
period_end-near zones s first (After length) all timed moment later = plus_length-near zones s (date_start zones s first) length all

-- what is near by so much is near by more
pub wider : (m n : ℕ) (x y : ℤ) → m ≤ n → IsNear (172800 + m) x y → IsNear (172800 + n) x y
wider m n x y le near = (omega (arith, ints, le, near), omega (arith, ints, le, near))

-- the ends of the periods that start at r
period_ends-near : (zones : List ZoneTable) (s : Stamp) (r : ℤ) (most : ℕ) (periods : List Period) → All HasShortOffsets zones → is_date s ≡ false → All IsTimed periods →
    All (λ n. n ≤ most) (map (λ (p : Period). length_to zones p.start p.end) periods) →
    All (λ e. IsNear (172800 + most) e r) (map (λ (p : Period). end_of_period zones s r p.end) (filter (λ (p : Period). same_int r (date_start zones s p.start)) periods))
period_ends-near zones s r most [] all timed each small = All-nil _
period_ends-near zones s r most (p ∷ ps) all timed each small =
    let rest = period_ends-near zones s r most ps all timed (All-tail IsTimed p ps each) (All-tail (λ n. n ≤ most) (length_to zones p.start p.end) (map (λ (p : Period). length_to zones p.start p.end) ps) small) in
    elim (cases_Bool (same_int r (date_start zones s p.start))) [
      | inl w ↦ rw w (
          let same : r ≡ date_start zones s p.start = same_int-true r (date_start zones s p.start) w in
          let moment = All-head IsTimed p ps each in
          let near = wider (length_to zones p.start p.end) most _ _ (All-head (λ n. n ≤ most) (length_to zones p.start p.end) (map (λ (p : Period). length_to zones p.start p.end) ps) small) (period_end-near zones s p.start p.end all timed moment.start moment.end) in
          let here : IsNear (172800 + most) (end_of_period zones s r p.end) r = rw same near in
          All-cons (λ e. IsNear (172800 + most) e r) (end_of_period zones s r p.end) _ here rest)
      | inr w ↦ rw w rest
    ]

greatest_of-holds : (P : ℤ → Type 0) (z : ℤ) (xs : List ℤ) → P z → All P xs → P (greatest_of z xs)
greatest_of-holds P z [] p all = p
greatest_of-holds P z (x ∷ xs) p all = elim (cases_Bool (int_lt z x)) [
  | inl w ↦ rw w (greatest_of-holds P x xs (All-head P x xs all) (All-tail P x xs all))
  | inr w ↦ rw w (greatest_of-holds P z xs p (All-tail P x xs all))
]

latest_of-holds : (P : ℤ → Type 0) (none : ℤ) (xs : List ℤ) → P none → All P xs → P (latest_of none xs)
latest_of-holds P none [] p all = p
latest_of-holds P none (x ∷ xs) p all = greatest_of-holds P x xs (All-head P x xs all) (All-tail P x xs all)

-- beside a DATE each period is a day of its own, and is among the plain starts
none_at : (zones : List ZoneTable) (s : Stamp) (r : ℤ) (periods : List Period) → list_any (same_int r) (map (λ (p : Period). date_start zones s p.start) periods) ≡ false →
    filter (λ (p : Period). same_int r (date_start zones s p.start)) periods ≡ []
none_at zones s r [] h = refl
none_at zones s r (p ∷ ps) h = elim (cases_Bool (same_int r (date_start zones s p.start))) [
  | inl w ↦ absurd (grind (arith, h, w))
  | inr w ↦ rw w (none_at zones s r ps (rw w at h))
]

none_right : (p : ℤ → Bool) (xs ys : List ℤ) → list_any p (xs ++ ys) ≡ false → list_any p ys ≡ false
none_right p [] ys h = h
none_right p (x ∷ xs) ys h = elim (cases_Bool (p x)) [
  | inl w ↦ absurd (grind (arith, h, w))
  | inr w ↦ none_right p xs ys (rw w at h)
]

pub end_of_instance-near : (moments : List ℕ) (zones : List ZoneTable) (s : Stamp) (c : Component) (r : ℤ) (most : ℕ) → All HasShortOffsets zones → own_start c ≡ Some s → All IsTimed c.periods →
    All (λ n. n ≤ most) (lengths zones c) → IsNear (172800 + most) (end_of_instance moments zones s c r) r
end_of_instance-near moments zones s c r most all own each small = elim (cases_Bool (list_any (same_int r) (plain_starts moments zones s c))) [
  | inl w ↦ rw w (wider (extent_length zones (Some s) c.extent) most _ r (rw own at (All-head (λ n. n ≤ most) (extent_length zones (own_start c) c.extent) (map (λ (p : Period). length_to zones p.start p.end) c.periods) small)) (end_of_extent-near zones s c.extent r all))
  | inr w ↦ rw w (latest_of-holds (λ e. IsNear (172800 + most) e r) r (map (λ (p : Period). end_of_period zones s r p.end) (filter (λ (p : Period). same_int r (date_start zones s p.start)) c.periods)) (omega (arith, ints), omega (arith, ints)) (period_ends w))
]
  where
    period_ends : list_any (same_int r) (plain_starts moments zones s c) ≡ false → All (λ e. IsNear (172800 + most) e r) (map (λ (p : Period). end_of_period zones s r p.end) (filter (λ (p : Period). same_int r (date_start zones s p.start)) c.periods))
    period_ends w = elim (cases_Bool (is_date s)) [
      | inl dated ↦ (let e = rw dated at (none_right (same_int r) (map (date_start zones s) c.dates) (if is_date s then period_starts zones s c else []) (none_right (same_int r) (value_of zones s ∷ flat_map (rule_starts moments zones s) c.rules) (map (date_start zones s) c.dates ++ (if is_date s then period_starts zones s c else [])) w)) in
          rw (none_at zones s r c.periods e) (All-nil _))
      | inr timed ↦ period_ends-near zones s r most c.periods all timed each (All-tail (λ n. n ≤ most) (extent_length zones (own_start c) c.extent) (map (λ (p : Period). length_to zones p.start p.end) c.periods) small)
    ]
