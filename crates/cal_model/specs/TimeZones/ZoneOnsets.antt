-- The table of a zone from its STANDARD and DAYLIGHT parts, and how much a table counts. From RFC 5545, 3.6.5.
-- A change comes from the start of a part, from one of its dates or from a moment of one of its rules. A table puts them in order; that its offset at an instant is that of the latest of all changes, whatever their order, is `offset_at-table_over` in `proofs/TimeZones/ZoneTableLaws`. As with recurrence sets, each definition takes the list of moments over which rules are taken. Parts that lack a start or an offset are no parts: the reader has passed them over.
use Rattle.std.specs.Prelude.{ℕ, ◌+◌, ◌*◌, nat_lt, if◌then◌else◌, List, [], ◌∷◌, ◌++◌, map, filter, flat_map, fold, length, sum, ℤ, pos, ◌-ℤ◌, int_lt}
use Rattle.cal_moment.specs.Calendar.{seconds_since_1970}
use Rattle.cal_model.specs.declared.rule.Rule.{Rule}
use Rattle.cal_model.specs.declared.zone.Onset.{Onset}
use Rattle.cal_model.specs.declared.zone.ZonePart.{ZonePart}
use Rattle.cal_model.specs.declared.zone.ZoneTable.{ZoneTable}
use Rattle.cal_model.specs.Words.Integers.{same_int}
use Rattle.cal_model.specs.Values.LocalTimes.{moment_of_local}
use Rattle.cal_model.specs.Recurrence.NextPassing.{end_day}
use Rattle.cal_model.specs.Recurrence.RecurrenceSet.{recurrence_set_over, onset_reading, every_moment}

-- a change of the offset, and from which to which
pub record Change : Type 0 where
  pub at : ℤ
  pub from : ℤ
  pub to : ℤ

-- the moments of a part's rule, its start among them: no moment is missing, and UNTIL in UTC is compared with the instant
abbrev pub rule_moments : List ℕ → ZonePart → Rule → List ℕ
rule_moments moments part rule = recurrence_set_over moments rule (moment_of_local part.start) (onset_reading part.from)

-- DTSTART, the RDATEs and the rules' moments, up to the end of 2101
abbrev pub part_moments : List ℕ → ZonePart → List ℕ
part_moments moments part =
    filter (λ m. nat_lt m (86_400 * end_day)) (moment_of_local part.start ∷ map moment_of_local part.dates ++ flat_map (rule_moments moments part) part.rules)

-- an onset is a local time less the offset before it
abbrev pub part_changes : List ℕ → ZonePart → List Change
part_changes moments part = map (λ m. record { at = seconds_since_1970 m -ℤ part.from; from = part.from; to = part.to }) (part_moments moments part)

-- a change put among those of earlier parts, in rising order: of two at one moment the later part's holds
abbrev pub put_change : List Change → Change → List Change
put_change [] c = c ∷ []
put_change (x ∷ xs) c =
    if int_lt c.at x.at then c ∷ x ∷ xs else (if same_int c.at x.at then c ∷ xs else x ∷ put_change xs c)

-- the changes of all parts, in rising order
abbrev pub changes : List ℕ → List ZonePart → List Change
changes moments parts = fold put_change [] (flat_map (part_changes moments) parts)

-- the offset before the first part
abbrev pub first_from : List ZonePart → ℤ
first_from [] = pos 0
first_from (p ∷ ps) = p.from

-- the offset before all changes: from which the earliest goes, or where there is none the first part's
abbrev pub offset_before : List Change → List ZonePart → ℤ
offset_before [] parts = first_from parts
offset_before (c ∷ cs) parts = c.from

-- a change as a table keeps it
abbrev pub as_onset : Change → Onset
as_onset c = record { at = record { 0 = c.at }; offset = c.to }

abbrev pub table_over : List ℕ → List ℕ → List ZonePart → ZoneTable
table_over moments name parts =
    let all = changes moments parts in record { name = name; before = offset_before all parts; onsets = map as_onset all }

-- the table, over all moments
abbrev pub table_of : List ℕ → List ZonePart → ZoneTable
table_of = table_over every_moment

-- how much a table counts: each part one, each RDATE one, and each moment of each rule's set, in which the start stands once more; what lies after 2101 is counted too
abbrev pub count_of_part : List ℕ → ZonePart → ℕ
count_of_part moments part = 1 + (length part.dates + sum (map (λ rule. length (rule_moments moments part rule)) part.rules))

-- over all parts
abbrev pub table_count_over : List ℕ → List ZonePart → ℕ
table_count_over moments parts = sum (map (count_of_part moments) parts)

-- the count, over all moments
abbrev pub table_count : List ZonePart → ℕ
table_count = table_count_over every_moment
