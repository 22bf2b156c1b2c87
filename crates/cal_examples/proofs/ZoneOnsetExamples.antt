-- Examples of a zone's table from its parts.
use Rattle.std.specs.Prelude.{◌≡◌, refl, ℕ, List, [], ◌∷◌, map, ℤ, pos, neg_ℤ, ◌-ℤ◌, Some}
use Rattle.cal_moment.specs.declared.stamp.Local.{Local}
use Rattle.cal_moment.specs.Calendar.{day_of_date, moment_of_date, seconds_since_1970, epoch_day, year_of, month_of, day_of_month}
use Rattle.cal_model.specs.declared.rule.Rule.{Rule}
use Rattle.cal_model.specs.declared.rule.Freq.TheVariants.{Daily, Yearly}
use Rattle.cal_model.specs.declared.rule.Until.TheVariants.{Utc}
use Rattle.cal_model.specs.declared.zone.ZoneTable.{ZoneTable}
use Rattle.cal_model.specs.declared.zone.ZonePart.{ZonePart}
use Rattle.cal_model.specs.Words.Lists.{counted_from}
use Rattle.cal_model.specs.Recurrence.Passing.{day_passes, time_passes}
use Rattle.cal_examples.proofs.PassingExamples.{each, nth_weekday}
use Rattle.cal_examples.proofs.RecurrenceSetExamples.{daily_at, in_zone}
use Rattle.cal_examples.proofs.ZoneExamples.{written, onset}
use Rattle.cal_model.specs.Recurrence.RecurrenceSet.{recurrence_set_over}
use Rattle.cal_model.specs.TimeZones.Zones.{offset_at, exists_in, instant_of}
use Rattle.cal_model.specs.TimeZones.ZoneOnsets.{table_over, table_count_over}

abbrev pub at_two : ℕ → ℕ → ℕ → Local
at_two y m d = record { day = pos (day_of_date y m d) -ℤ pos epoch_day; second = 7200 }

abbrev pub nth_sunday : ℕ → ℤ → Rule
nth_sunday month n = record (each Yearly) { by_month = month ∷ []; by_day = nth_weekday n 6 ∷ [] }

-- New York: the second Sunday of March and the first of November, over 2024 and 2025
abbrev pub new_york_parts : List ZonePart
new_york_parts =
    record { start = at_two 2024 3 10; from = neg_ℤ (pos 18000); to = neg_ℤ (pos 14400); rules = nth_sunday 3 (pos 2) ∷ []; dates = [] }
    ∷ record { start = at_two 2024 11 3; from = neg_ℤ (pos 14400); to = neg_ℤ (pos 18000); rules = nth_sunday 11 (pos 1) ∷ []; dates = [] } ∷ []

two_years : table_over (daily_at 7200 (day_of_date 2024 1 1) 731) [] new_york_parts ≡ record {
  name = [];
  before = neg_ℤ (pos 18000);
  onsets = onset (written 2024 3 10 7 0 0) (neg_ℤ (pos 14400)) ∷ onset (written 2024 11 3 6 0 0) (neg_ℤ (pos 18000))
      ∷ onset (written 2025 3 9 7 0 0) (neg_ℤ (pos 14400)) ∷ onset (written 2025 11 2 6 0 0) (neg_ℤ (pos 18000)) ∷ [];
}
unfolding year_of month_of day_of_month day_passes time_passes counted_from
two_years = refl

how_many : table_count_over (daily_at 7200 (day_of_date 2024 1 1) 731) new_york_parts ≡ 6
unfolding year_of month_of day_of_month day_passes time_passes counted_from
how_many = refl

-- of two onsets at one moment the later part's holds, for the offset before too
one_moment : table_over [] [] (record { start = at_two 2024 3 10; from = pos 0; to = pos 3600; rules = []; dates = at_two 2024 3 10 ∷ [] } ∷ record { start = at_two 2024 3 10; from = pos 0; to = pos 7200; rules = []; dates = [] } ∷ [])
    ≡ record { name = []; before = pos 0; onsets = onset (written 2024 3 10 2 0 0) (pos 7200) ∷ [] }
one_moment = refl

-- onsets after 2101 aren't taken, and where none is, the first part's offset before holds everywhere
none_taken : table_over [] [] (record { start = at_two 2102 1 1; from = pos 1800; to = pos 3600; rules = []; dates = [] } ∷ []) ≡ record { name = []; before = pos 1800; onsets = [] }
none_taken = refl

-- New York with parts that start with 1601, as programs write them: both starts are onsets, and the earlier one's offset before holds before all
abbrev pub long_parts : List ZonePart
long_parts =
    record { start = at_two 1601 1 1; from = neg_ℤ (pos 18000); to = neg_ℤ (pos 14400); rules = nth_sunday 3 (pos 2) ∷ []; dates = [] }
    ∷ record { start = at_two 1601 1 1; from = neg_ℤ (pos 14400); to = neg_ℤ (pos 18000); rules = nth_sunday 11 (pos 1) ∷ []; dates = [] } ∷ []

abbrev pub long_table : ZoneTable
long_table = table_over (daily_at 7200 (day_of_date 2024 11 1) 367) [] long_parts

from_1601 : long_table ≡ record {
  name = [];
  before = neg_ℤ (pos 14400);
  onsets = onset (written 1601 1 1 6 0 0) (neg_ℤ (pos 18000)) ∷ onset (written 1601 1 1 7 0 0) (neg_ℤ (pos 14400))
      ∷ onset (written 2024 11 3 6 0 0) (neg_ℤ (pos 18000)) ∷ onset (written 2025 3 9 7 0 0) (neg_ℤ (pos 14400)) ∷ onset (written 2025 11 2 6 0 0) (neg_ℤ (pos 18000)) ∷ [];
}
unfolding year_of month_of day_of_month day_passes time_passes counted_from
from_1601 = refl

-- in it 9 March has no 02:30, and of the two 01:30 of 2 November the first counts
rule_in_it : map (λ m. instant_of long_table (seconds_since_1970 m)) (recurrence_set_over (daily_at 9000 (day_of_date 2025 3 1) 30) (record (each Daily) { count = Some 3 }) (moment_of_date 2025 3 8 2 30 0) (in_zone long_table))
    ≡ written 2025 3 8 7 30 0 ∷ written 2025 3 10 6 30 0 ∷ written 2025 3 11 6 30 0 ∷ []
unfolding year_of month_of day_of_month day_passes time_passes counted_from exists_in instant_of offset_at
rule_in_it = refl

fold_in_it : instant_of long_table (written 2025 11 2 1 30 0) ≡ written 2025 11 2 5 30 0
unfolding year_of month_of day_of_month day_passes time_passes counted_from instant_of offset_at
fold_in_it = refl

-- UNTIL in UTC is compared with the onset's instant: the onset of 3 November 2024 is at 06:00 there
abbrev until_at : ℤ → ZonePart
until_at u = record { start = at_two 2023 11 5; from = neg_ℤ (pos 14400); to = neg_ℤ (pos 18000); rules = record (nth_sunday 11 (pos 1)) { until = Some (Utc (record { 0 = u })) } ∷ []; dates = [] }

until_the_onset : table_over (daily_at 7200 (day_of_date 2023 1 1) 1096) [] (until_at (written 2024 11 3 6 0 0) ∷ [])
    ≡ record { name = []; before = neg_ℤ (pos 14400); onsets = onset (written 2023 11 5 6 0 0) (neg_ℤ (pos 18000)) ∷ onset (written 2024 11 3 6 0 0) (neg_ℤ (pos 18000)) ∷ [] }
unfolding year_of month_of day_of_month day_passes time_passes counted_from
until_the_onset = refl

until_a_second_less : table_over (daily_at 7200 (day_of_date 2023 1 1) 1096) [] (until_at (written 2024 11 3 5 59 59) ∷ [])
    ≡ record { name = []; before = neg_ℤ (pos 14400); onsets = onset (written 2023 11 5 6 0 0) (neg_ℤ (pos 18000)) ∷ [] }
unfolding year_of month_of day_of_month day_passes time_passes counted_from
until_a_second_less = refl

-- a part's dates come in any order, and its count has each of them, its own start, and the starts of its rules once more
abbrev dated_part : ZonePart
dated_part = record { start = at_two 2025 3 9; from = pos 0; to = pos 3600; rules = record (nth_sunday 3 (pos 2)) { count = Some 1 } ∷ record (nth_sunday 3 (pos 2)) { count = Some 1 } ∷ []; dates = at_two 2027 3 14 ∷ at_two 2026 3 8 ∷ at_two 2027 3 14 ∷ [] }

dates_in_order : table_over [] [] (dated_part ∷ []) ≡ record { name = []; before = pos 0; onsets = onset (written 2025 3 9 2 0 0) (pos 3600) ∷ onset (written 2026 3 8 2 0 0) (pos 3600) ∷ onset (written 2027 3 14 2 0 0) (pos 3600) ∷ [] }
dates_in_order = refl

count_of_dates : table_count_over [] (dated_part ∷ []) ≡ 6
count_of_dates = refl

-- of a start after 2101 no onset is taken, and it is counted all the same
count_past_the_end : table_count_over [] (record { start = at_two 2102 1 1; from = pos 0; to = pos 3600; rules = each Yearly ∷ []; dates = at_two 2102 1 1 ∷ [] } ∷ []) ≡ 3
count_past_the_end = refl

-- the order of the parts is not the order of their onsets
later_part_first : table_over [] [] (record { start = at_two 2025 11 2; from = pos 3600; to = pos 0; rules = []; dates = [] } ∷ record { start = at_two 2025 3 9; from = pos 0; to = pos 3600; rules = []; dates = [] } ∷ [])
    ≡ record { name = []; before = pos 0; onsets = onset (written 2025 3 9 2 0 0) (pos 3600) ∷ onset (written 2025 11 2 1 0 0) (pos 0) ∷ [] }
later_part_first = refl
