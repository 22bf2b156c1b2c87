-- Where a start lies whose row an override moves into a window: by the clock of the ids within a few days of the window moved back; and these digits end by the last day up to which the window may cost.
use Rattle.std.proofs.Common.{◌≡◌, ℕ, zero, suc, ◌+◌, ◌*◌, ◌<◌, ◌≤◌, Bool, true, false, List, [], ◌∷◌, refl, arith, ℤ, pos, negsuc, ◌+ℤ◌, ◌-ℤ◌, ◌*ℤ◌, ◌<ℤ◌, ◌≤ℤ◌}
use Rattle.std.specs.Prelude.{All}
use Rattle.std.specs.Int.{int_div_euclid}
use Rattle.std.proofs.lemmas.Int.{ints}
use Rattle.std.proofs.lemmas.List.Elements.{All-head, All-tail, All-nil}
use Rattle.cal_moment.specs.Calendar.{epoch_day, seconds_since_1970}
use Rattle.cal_moment.specs.declared.stamp.Stamp.{Stamp}
use Rattle.cal_moment.specs.declared.stamp.Stamp.TheVariants.{Date, Floating, Zoned, Utc}
use Rattle.cal_model.specs.declared.zone.ZoneTable.{ZoneTable}
use Rattle.cal_model.specs.Instances.Alignment.{utc_zone, zone_of, reading_of}
use Rattle.cal_model.specs.Instances.Rows.{Governor, move_of, moved_digits, window_seconds}
use Rattle.cal_model.specs.Ranges.Cost.{days_earlier, last_of_window, natural_part, number_of_day}
use Rattle.cal_model.specs.Ranges.Nearness.{IsNear, HasOffsetsBelow}
use Rattle.cal_model.proofs.Ranges.NearRanges.{window-holds}
use Rattle.cal_model.proofs.TimeZones.NearTimes.{local_at-below, instant_of-below}

-- Readings.

utc_zone-below : (n : ℕ) → 0 < n → HasOffsetsBelow n utc_zone
utc_zone-below n some = record { before = (omega (arith, ints, some), omega (arith, ints, some)); after = All-nil _ }

zone_of-below : (n : ℕ) → 0 < n → (zones : List ZoneTable) (number : ℕ) → All (HasOffsetsBelow n) zones → HasOffsetsBelow n (zone_of zones number)
zone_of-below n some [] number all = utc_zone-below n some
zone_of-below n some (z ∷ zs) zero all = All-head (HasOffsetsBelow n) z zs all
zone_of-below n some (z ∷ zs) (suc number) all = zone_of-below n some zs number (All-tail (HasOffsetsBelow n) z zs all)

itself : (n : ℕ) → 0 < n → (z : ℤ) → IsNear n z z
itself n some z = (omega (arith, ints, some), omega (arith, ints, some))

local-below : (n : ℕ) → 0 < n → (zones : List ZoneTable) (s : Stamp) (u : ℤ) → All (HasOffsetsBelow n) zones → IsNear n ((reading_of zones s).local u) u
local-below n some zones (Date d) u all = itself n some u
local-below n some zones (Floating l) u all = itself n some u
local-below n some zones (Zoned l number) u all = local_at-below n (zone_of zones number) u (zone_of-below n some zones number all)
local-below n some zones (Utc v) u all = itself n some u

instant-below : (n : ℕ) → 0 < n → (zones : List ZoneTable) (s : Stamp) (l : ℤ) → All (HasOffsetsBelow n) zones → IsNear n ((reading_of zones s).instant l) l
instant-below n some zones (Date d) l all = itself n some l
instant-below n some zones (Floating f) l all = itself n some l
instant-below n some zones (Zoned f number) l all = instant_of-below n (zone_of zones number) l (zone_of-below n some zones number all)
instant-below n some zones (Utc v) l all = itself n some l

-- The start of a row that an override moves into a window: its digits by the clock of the ids, moved, lie at most four times the greatest offset from the window.
pub moved-near_window : (n : ℕ) → 0 < n → (zones : List ZoneTable) (ids : Stamp) (g : Governor) (r window : ℤ) → All (HasOffsetsBelow n) zones →
    int_div_euclid ((reading_of zones g.start).local ((reading_of zones g.start).instant (moved_digits zones g r))) window_seconds ≡ window →
    (((window *ℤ window_seconds) -ℤ pos (4 * n)) <ℤ ((reading_of zones ids).local r +ℤ move_of zones g)) × (((reading_of zones ids).local r +ℤ move_of zones g) <ℤ ((window +ℤ pos 1) *ℤ window_seconds +ℤ pos (4 * n)))
moved-near_window n some zones ids g r window all e =
    let s = g.start in
    let by_ids = local-below n some zones ids r all in
    let by_start = local-below n some zones s r all in
    let there = instant-below n some zones s (moved_digits zones g r) all in
    let nominal = local-below n some zones s ((reading_of zones s).instant (moved_digits zones g r)) all in
    let lies = window-holds ((reading_of zones s).local ((reading_of zones s).instant (moved_digits zones g r))) in
    let at = rw e at lies in
    sum ((reading_of zones ids).local r) r ((reading_of zones s).local r) (move_of zones g) ((reading_of zones s).instant (moved_digits zones g r)) ((reading_of zones s).local ((reading_of zones s).instant (moved_digits zones g r))) by_ids by_start there nominal at
  where
    sum : (a r b move u l : ℤ) → IsNear n a r → IsNear n b r → IsNear n u (b +ℤ move) → IsNear n l u →
        ((window *ℤ window_seconds) ≤ℤ l) × (l <ℤ ((window +ℤ pos 1) *ℤ window_seconds)) →
        (((window *ℤ window_seconds) -ℤ pos (4 * n)) <ℤ (a +ℤ move)) × ((a +ℤ move) <ℤ ((window +ℤ pos 1) *ℤ window_seconds +ℤ pos (4 * n)))
    sum a r b move u l by_ids by_start there nominal at = (omega (arith, ints, by_ids, by_start, there, nominal, at), omega (arith, ints, by_ids, by_start, there, nominal, at))

-- a move to earlier takes no more days than are counted
pub days_earlier-holds : (move : ℤ) → (pos 0 -ℤ move) ≤ℤ pos (86400 * days_earlier move)
days_earlier-holds (pos k) = omega (arith, ints)
days_earlier-holds (negsuc k) = omega (arith, ints)

natural_from : (z : ℤ) → z ≤ℤ pos (natural_part z)
natural_from (pos k) = omega (arith, ints)
natural_from (negsuc k) = omega (arith, ints)

-- The digits of these starts end by the last day up to which the window may cost.
pub moved-by_last : (n days : ℕ) (move window : ℤ) (last : ℕ) → 4 * n ≤ 86400 * days → last_of_window window + (days + days_earlier move) ≤ last →
    (((window +ℤ pos 1) *ℤ window_seconds +ℤ pos (4 * n)) -ℤ move) ≤ℤ seconds_since_1970 (86400 * (last + 1))
moved-by_last n days move window last clocks by =
    let from = natural_from (window *ℤ pos 64 +ℤ pos 63 +ℤ pos epoch_day) in
    let earlier = days_earlier-holds move in
    omega (arith, ints, from, earlier, clocks, by)
