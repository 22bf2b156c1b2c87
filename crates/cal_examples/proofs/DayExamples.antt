-- Examples of local days and of the last day of a window, before the year 0 too.
use Rattle.std.specs.Prelude.{◌≡◌, refl, ℕ, true, false, pos, neg_ℤ}
use Rattle.cal_examples.proofs.ZoneExamples.{written}
use Rattle.cal_model.specs.declared.rule.Until.{Until}
use Rattle.cal_model.specs.declared.rule.Until.TheVariants.{Day}
use Rattle.std.specs.Prelude.{Some}
use Rattle.cal_model.specs.Recurrence.RuleBounds.{IsWrittenUntil}
use Rattle.cal_model.specs.Recurrence.RecurrenceSet.{utc_reading, last_written}
use Rattle.cal_moment.specs.Calendar.{moment_of_date}
use Rattle.cal_model.specs.Instances.Alignment.{midnight_of, names_start, on_day}
use Rattle.cal_model.specs.Ranges.Cost.{last_of_window}

-- a day begins at its midnight and not after its seconds, before 1970 and before the year 0 too
midnights : (midnight_of (written 2025 3 10 0 0 0) ≡ written 2025 3 10 0 0 0) × (midnight_of (written 2025 3 10 23 59 59) ≡ written 2025 3 10 0 0 0)
    × (midnight_of (neg_ℤ (pos 1)) ≡ neg_ℤ (pos 86400)) × (midnight_of (neg_ℤ (pos 62_167_219_201)) ≡ neg_ℤ (pos 62_167_305_600))
midnights = (refl, refl, refl, refl)

-- so a day of 2025 names no moment of the year -2025
days_apart : (names_start utc_reading (written 2025 3 10 9 0 0) (on_day (written 2025 3 10 0 0 0)) ≡ true) × (names_start utc_reading (neg_ℤ (pos 126_076_035_600)) (on_day (written 2025 3 10 0 0 0)) ≡ false)
days_apart = (refl, refl)

-- a window that ends before the year 0 costs no more than the first day; the last whose every day lies before it is -11,243
last_days : (last_of_window (pos 314) ≡ 739_687) × (last_of_window (neg_ℤ (pos 11_242)) ≡ 103) × (last_of_window (neg_ℤ (pos 11_243)) ≡ 39) × (last_of_window (neg_ℤ (pos 11_244)) ≡ 0) × (last_of_window (neg_ℤ (pos 12_000)) ≡ 0)
last_days = (refl, refl, refl, refl, refl)

-- UNTIL is a day of the years 1 to 9999: no other is kept by a rule that was read
first_until : IsWrittenUntil (Some (Day (record { 0 = neg_ℤ (pos 719_162) })))
first_until = (Prim.search, Prim.search)

-- the last moment that a rule gives is the last date that is served
last_moment : last_written ≡ moment_of_date 2100 12 31 23 59 59
last_moment = refl
