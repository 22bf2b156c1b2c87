-- The stretches of a zone's time between its onsets (RFC 5545, 3.6.5), for the contracts of the functions that go over them. Stretch 0 lies before the first onset, and the last one from the last onset on.
-- What a local time is stands in `TimeZones/Zones`, which knows no stretch.
use Rattle.std.specs.Prelude.{ℕ, ◌-◌, Bool, true, ◌&&◌, ◌==◌, if◌then◌else◌, List, length, get_or, ℤ, pos, ◌-ℤ◌, int_le, int_lt}
use Rattle.cal_model.specs.declared.zone.Onset.{Onset}
use Rattle.cal_model.specs.declared.zone.ZoneTable.{ZoneTable}

-- what stands for an onset that is not there
abbrev pub no_onset : Onset
no_onset = record { at = record { 0 = pos 0 }; offset = pos 0 }

-- the offset that holds in a stretch
abbrev pub offset_of_stretch : ZoneTable → ℕ → ℤ
offset_of_stretch table k = if k == 0 then table.before else (get_or table.onsets (k - 1) no_onset).offset

-- a stretch begins at or before an instant
abbrev pub begins_by : List Onset → ℕ → ℤ → Bool
begins_by onsets k u = if k == 0 then true else int_le (get_or onsets (k - 1) no_onset).at.0 u

-- and ends after it
abbrev pub ends_after : List Onset → ℕ → ℤ → Bool
ends_after onsets k u = if k == length onsets then true else int_lt u (get_or onsets k no_onset).at.0

-- the instant lies in the stretch
abbrev pub is_in_stretch : List Onset → ℕ → ℤ → Bool
is_in_stretch onsets k u = begins_by onsets k u && ends_after onsets k u

-- the stretch has a moment with the local time l
unfoldable pub has_local : ZoneTable → ℤ → ℕ → Bool
has_local table l k = is_in_stretch table.onsets k (l -ℤ offset_of_stretch table k)

-- the local time from an onset on is past l
abbrev pub leads_past : ℤ → Onset → Bool
leads_past l o = int_lt (l -ℤ o.offset) o.at.0
