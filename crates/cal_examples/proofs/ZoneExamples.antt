-- Examples of zone conversion: a gap in spring, a fold in autumn, and a short stay that is passed over.
use Rattle.std.specs.Prelude.{◌≡◌, refl, ℕ, true, false, [], ◌∷◌, ℤ, pos, neg_ℤ}
use Rattle.cal_moment.specs.Calendar.{moment_of_date, seconds_since_1970}
use Rattle.cal_model.specs.declared.zone.Onset.{Onset}
use Rattle.cal_model.specs.declared.zone.ZoneTable.{ZoneTable}
use Rattle.cal_model.specs.TimeZones.Zones.{offset_at, exists_in, instant_of}

-- the seconds from 1970 of a date and a time of day
abbrev pub written : ℕ → ℕ → ℕ → ℕ → ℕ → ℕ → ℤ
written y m d hour minute second = seconds_since_1970 (moment_of_date y m d hour minute second)

abbrev pub onset : ℤ → ℤ → Onset
onset at offset = record { at = record { 0 = at }; offset = offset }

-- New York in 2025: to summer time on 9 March at 02:00, back on 2 November at 02:00
abbrev pub new_york : ZoneTable
new_york = record {
  name = [];
  before = neg_ℤ (pos 18000);
  onsets = onset (written 2025 3 9 7 0 0) (neg_ℤ (pos 14400)) ∷ onset (written 2025 11 2 6 0 0) (neg_ℤ (pos 18000)) ∷ [];
}

epoch : written 1970 1 1 0 0 0 ≡ pos 0
epoch = refl

winter : instant_of new_york (written 2025 3 8 2 30 0) ≡ written 2025 3 8 7 30 0
unfolding instant_of offset_at
winter = refl

-- 02:30 of 9 March is skipped: it is read by the offset before the gap
gap : exists_in new_york (written 2025 3 9 2 30 0) ≡ false
unfolding exists_in offset_at
gap = refl

after_the_gap : instant_of new_york (written 2025 3 9 2 30 0) ≡ written 2025 3 9 7 30 0
unfolding instant_of offset_at
after_the_gap = refl

-- the edges of the gap
before_gap : (exists_in new_york (written 2025 3 9 1 59 59) ≡ true) × (exists_in new_york (written 2025 3 9 2 0 0) ≡ false) × (exists_in new_york (written 2025 3 9 2 59 59) ≡ false) × (exists_in new_york (written 2025 3 9 3 0 0) ≡ true)
unfolding exists_in offset_at
before_gap = (refl, refl, refl, refl)

-- 01:30 of 2 November stands twice: the first counts
fold : instant_of new_york (written 2025 11 2 1 30 0) ≡ written 2025 11 2 5 30 0
unfolding instant_of offset_at
fold = refl

-- the edges of the fold
fold_edges : (instant_of new_york (written 2025 11 2 0 59 59) ≡ written 2025 11 2 4 59 59) × (instant_of new_york (written 2025 11 2 1 0 0) ≡ written 2025 11 2 5 0 0)
    × (instant_of new_york (written 2025 11 2 1 59 59) ≡ written 2025 11 2 5 59 59) × (instant_of new_york (written 2025 11 2 2 0 0) ≡ written 2025 11 2 7 0 0)
unfolding instant_of offset_at
fold_edges = (refl, refl, refl, refl)

-- a zone without onsets
abbrev pub plain : ZoneTable
plain = record { name = []; before = pos 3600; onsets = [] }

no_onset : instant_of plain (written 2025 1 1 0 0 0) ≡ written 2024 12 31 23 0 0
unfolding instant_of offset_at
no_onset = refl

-- two gaps of an hour, half an hour apart: the first onset that leads past a skipped time decides
abbrev pub two_gaps : ZoneTable
two_gaps = record { name = []; before = pos 0; onsets = onset (pos 36000) (pos 3600) ∷ onset (pos 37800) (pos 7200) ∷ [] }

in_first_gap : instant_of two_gaps (pos 37000) ≡ pos 37000
unfolding instant_of offset_at
in_first_gap = refl

in_second_gap : instant_of two_gaps (pos 43000) ≡ pos 39400
unfolding instant_of offset_at
in_second_gap = refl

-- a stay in between that a jump back passes over: 36000 stands before the jump back, at it and after the return
abbrev pub short_stay : ZoneTable
short_stay = record { name = []; before = pos 0; onsets = onset (pos 36000) (neg_ℤ (pos 3600)) ∷ onset (pos 37800) (pos 0) ∷ [] }

least : instant_of short_stay (pos 35000) ≡ pos 35000
unfolding instant_of offset_at
least = refl

skipped : (exists_in short_stay (pos 36000) ≡ false) × (instant_of short_stay (pos 36000) ≡ pos 39600)
unfolding exists_in instant_of offset_at
skipped = (refl, refl)

-- the offset before the first onset holds however early, and an onset's own moment has the new one
offsets_in_order : (offset_at new_york (written 1601 1 1 0 0 0) ≡ neg_ℤ (pos 18000)) × (offset_at new_york (written 2025 3 9 6 59 59) ≡ neg_ℤ (pos 18000)) × (offset_at new_york (written 2025 3 9 7 0 0) ≡ neg_ℤ (pos 14400)) × (offset_at new_york (written 2100 1 1 0 0 0) ≡ neg_ℤ (pos 18000))
unfolding offset_at
offsets_in_order = (refl, refl, refl, refl)

-- offsets of nearly a day: a jump of almost two days forward skips that long, and the instant is by the offset before it
abbrev pub far_apart : ZoneTable
far_apart = record { name = []; before = neg_ℤ (pos 86399); onsets = onset (pos 0) (pos 86399) ∷ [] }

far_gap : (exists_in far_apart (neg_ℤ (pos 86400)) ≡ true) × (exists_in far_apart (neg_ℤ (pos 86399)) ≡ false) × (exists_in far_apart (pos 86398) ≡ false) × (exists_in far_apart (pos 86399) ≡ true)
unfolding exists_in offset_at
far_gap = (refl, refl, refl, refl)

far_instants : (instant_of far_apart (neg_ℤ (pos 86400)) ≡ neg_ℤ (pos 1)) × (instant_of far_apart (neg_ℤ (pos 86399)) ≡ pos 0) × (instant_of far_apart (pos 86398) ≡ pos 172797) × (instant_of far_apart (pos 86399) ≡ pos 0)
unfolding instant_of offset_at
far_instants = (refl, refl, refl, refl)

-- and the same jump back lets each time of that long stand twice, of which the first counts
abbrev pub far_back : ZoneTable
far_back = record { name = []; before = pos 86399; onsets = onset (pos 0) (neg_ℤ (pos 86399)) ∷ [] }

far_fold : (instant_of far_back (neg_ℤ (pos 86399)) ≡ neg_ℤ (pos 172798)) × (instant_of far_back (pos 86398) ≡ neg_ℤ (pos 1)) × (instant_of far_back (pos 86399) ≡ pos 172798)
unfolding instant_of offset_at
far_fold = (refl, refl, refl)
