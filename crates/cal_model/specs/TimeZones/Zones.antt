-- Zone conversion: the offset at an instant, the instant of a local time, and whether a local time exists. From RFC 5545, 3.3.5 (form 3) and 3.6.5.
-- Instants and local times are seconds from 1970, local ones by their digits. A table is the set of its onsets, in rising order, and the offset before them. Everything here is the latest, the least or the first of a set. Since a table stands in rising order, the latest is the last of those that a filter keeps and the first is their head; code may search in it as it likes.
use Rattle.std.specs.Prelude.{◌≡◌, ◌≢◌, ◌⊎◌, Bool, not, List, [], ◌∷◌, Contains, map, filter, ℤ, pos, ◌+ℤ◌, ◌-ℤ◌, ◌≤ℤ◌, ◌<ℤ◌, int_le, int_lt}
use Rattle.cal_model.specs.declared.zone.Onset.{Onset}
use Rattle.cal_model.specs.declared.zone.ZoneTable.{ZoneTable}
use Rattle.cal_model.specs.Words.Lists.{is_empty, last_or_else}
use Rattle.cal_model.specs.Words.Integers.{same_int, least_of}

-- the offset of the latest onset at or before an instant, among onsets in rising order, or the one before them
abbrev pub offset_among : ℤ → List Onset → ℤ → ℤ
offset_among before onsets u = last_or_else before (map (λ (o : Onset). o.offset) (filter (λ (o : Onset). int_le o.at.0 u) onsets))

-- the offset at an instant
unfoldable pub offset_at : ZoneTable → ℤ → ℤ
offset_at table u = offset_among table.before table.onsets u

-- the local time of an instant
abbrev pub local_at : ZoneTable → ℤ → ℤ
local_at table u = u +ℤ offset_at table u

-- the offsets that the zone ever has
abbrev pub offsets : ZoneTable → List ℤ
offsets table = table.before ∷ map (λ (o : Onset). o.offset) table.onsets

-- the instants whose local time this is: each is the local time less an offset that the zone has
abbrev pub instants_of : ZoneTable → ℤ → List ℤ
instants_of table l = filter (λ u. same_int (local_at table u) l) (map (λ o. l -ℤ o) (offsets table))

-- some instant has this local time
unfoldable pub exists_in : ZoneTable → ℤ → Bool
exists_in table l = not (is_empty (instants_of table l))

-- the onsets after which the local time is past l
abbrev pub onsets_past : ZoneTable → ℤ → List Onset
onsets_past table l = filter (λ (o : Onset). int_lt l (o.at.0 +ℤ o.offset)) table.onsets

-- of a local time that a gap skips, the instant by the offset before the gap: the gap ends at the first onset that leads past it
abbrev pub after_gap : ZoneTable → ℤ → List Onset → ℤ
after_gap table l [] = l -ℤ table.before
after_gap table l (o ∷ later) = l -ℤ offset_at table (o.at.0 -ℤ pos 1)

abbrev pub least_or_after_gap : ZoneTable → ℤ → List ℤ → ℤ
least_or_after_gap table l [] = after_gap table l (onsets_past table l)
least_or_after_gap table l (u ∷ us) = least_of u us

-- the instant of a local time: the least that has it (so of a time that stands twice the first), else the one by the offset before the gap
unfoldable pub instant_of : ZoneTable → ℤ → ℤ
instant_of table l = least_or_after_gap table l (instants_of table l)

-- The same in the standard's own words. The functions above meet them: `IsOffsetAt-offset_at`, `exists_in-shown` and `exists_in-skipped` (`proofs/TimeZones/ConversionLaws`), `instant_of-is` and, since nothing else meets the last of them, `IsInstantOf-same` (`proofs/TimeZones/Instants`).

-- the latest onset at or before an instant
pub record IsLatestOnset (table : ZoneTable) (u : ℤ) (onset : Onset) : Type 0 where
  pub member : Contains table.onsets onset
  pub at_or_before : onset.at.0 ≤ℤ u
  pub latest : (other : Onset) → Contains table.onsets other → other.at.0 ≤ℤ u → other.at.0 ≤ℤ onset.at.0

-- an offset holds at an instant: that of the latest onset at or before it, or where all come after it the one before them
abbrev pub IsOffsetAt : ZoneTable → ℤ → ℤ → Type 0
IsOffsetAt table u offset =
    ((onset : Onset) × IsLatestOnset table u onset × (offset ≡ onset.offset))
    ⊎ (((onset : Onset) → Contains table.onsets onset → u <ℤ onset.at.0) × (offset ≡ table.before))

-- some instant has this local time
abbrev pub IsShown : ZoneTable → ℤ → Type 0
IsShown table l = (u : ℤ) × (local_at table u ≡ l)

-- u is the least instant with this local time
abbrev pub IsLeastInstant : ZoneTable → ℤ → ℤ → Type 0
IsLeastInstant table l u = (local_at table u ≡ l) × ((v : ℤ) → v <ℤ u → local_at table v ≢ l)

-- t is the first moment whose local time is past l
abbrev pub IsFirstPast : ZoneTable → ℤ → ℤ → Type 0
IsFirstPast table l t = (l <ℤ local_at table t) × ((v : ℤ) → v <ℤ t → local_at table v ≤ℤ l)

-- no instant has this local time
abbrev pub IsSkipped : ZoneTable → ℤ → Type 0
IsSkipped table l = (v : ℤ) → local_at table v ≢ l

-- u is the instant of the local time l
abbrev pub IsInstantOf : ZoneTable → ℤ → ℤ → Type 0
IsInstantOf table l u =
    IsLeastInstant table l u
    ⊎ (IsSkipped table l × ((t : ℤ) × IsFirstPast table l t × (u ≡ l -ℤ offset_at table (t -ℤ pos 1))))
