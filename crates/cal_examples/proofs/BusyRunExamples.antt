-- Examples of the class of a second, of runs and of their text (RFC 4791, 7.10). Where runs are computed, a number is an hour of the day in place of a second.
use Rattle.std.specs.Prelude.{◌≡◌, refl, ℕ, List, [], ◌∷◌, codes, ℤ, pos, Option, Some, None}
use Rattle.cal_moment.specs.Calendar.{year_of, month_of, day_of_month}
use Rattle.cal_model.specs.declared.object.Class.{Class}
use Rattle.cal_model.specs.declared.object.Class.TheVariants.{Busy, Unavailable, Tentative}
use Rattle.cal_model.specs.declared.row.Range.{Range}
use Rattle.cal_model.specs.declared.object.Extent.TheVariants as extent
use Rattle.cal_model.specs.declared.object.Object.{Object}
use Rattle.cal_model.specs.Instances.Alignment.{utc_zone}
use Rattle.cal_model.specs.TimeZones.Zones.{exists_in, instant_of, offset_at}
use Rattle.cal_examples.proofs.RowExamples.{event, object_of, utc}
use Rattle.cal_model.specs.Busy.BusyTimes.{BusyTime}
use Rattle.cal_model.specs.Busy.BusyRuns.{calendar_times, class_at, same_class, runs}
use Rattle.cal_model.specs.Busy.FreeBusyText.{free_busy_text}
use Rattle.std.proofs.Common.{ap, arith}
use Rattle.std.proofs.lemmas.Bool.{true≢false}
use Rattle.std.proofs.lemmas.Int.{ints, by_lt_z}
use Rattle.cal_model.proofs.Busy.BusyRunLaws.{AreRuns-chain, runs-AreRuns}
use Rattle.cal_examples.proofs.ZoneExamples.{written}

abbrev pub hours : Class → ℕ → ℕ → BusyTime
hours class start end = record { class = class; start = pos start; end = pos end }

abbrev pub day : Range
day = record { start = record { 0 = pos 0 }; end = record { 0 = pos 24 } }

-- the greatest class counts, a time holds its start and not its end
classes : (class_at (hours Tentative 9 11 ∷ hours Busy 10 12 ∷ []) (pos 10) ≡ Some Busy) × (class_at (hours Tentative 9 11 ∷ hours Busy 10 12 ∷ []) (pos 9) ≡ Some Tentative)
    × (class_at (hours Tentative 9 11 ∷ hours Busy 10 12 ∷ []) (pos 12) ≡ None) × (class_at (hours Tentative 9 11 ∷ hours Unavailable 9 10 ∷ []) (pos 9) ≡ Some Unavailable)
classes = (refl, refl, refl, refl)

-- 9 to 11 tentative, 10 to 12 busy
covered : runs (hours Tentative 9 11 ∷ hours Busy 10 12 ∷ []) day ≡ hours Tentative 9 10 ∷ hours Busy 10 12 ∷ []
covered = refl

-- a greater class in the midst parts a run
parted : runs (hours Busy 10 11 ∷ hours Tentative 9 12 ∷ []) day ≡ hours Tentative 9 10 ∷ hours Busy 10 11 ∷ hours Tentative 11 12 ∷ []
parted = refl

-- times of one class that touch or overlap are one run; of different classes they are two, and a gap parts
touching : (runs (hours Busy 9 10 ∷ hours Busy 10 11 ∷ []) day ≡ hours Busy 9 11 ∷ []) × (runs (hours Busy 9 10 ∷ hours Unavailable 10 11 ∷ []) day ≡ hours Busy 9 10 ∷ hours Unavailable 10 11 ∷ [])
    × (runs (hours Busy 9 10 ∷ hours Busy 11 12 ∷ []) day ≡ hours Busy 9 10 ∷ hours Busy 11 12 ∷ []) × (runs (hours Busy 9 11 ∷ hours Busy 10 12 ∷ hours Busy 9 10 ∷ []) day ≡ hours Busy 9 12 ∷ [])
touching = (refl, refl, refl, refl)

-- the range cuts
cut : runs (hours Busy 0 5 ∷ hours Tentative 22 40 ∷ []) (record { start = record { 0 = pos 4 }; end = record { 0 = pos 24 } }) ≡ hours Busy 4 5 ∷ hours Tentative 22 24 ∷ []
cut = refl

-- a time without length is none
no_length : runs (hours Busy 9 9 ∷ []) day ≡ []
no_length = refl

-- an answer with two runs
abbrev pub tenth_of_march : Range
tenth_of_march = record { start = record { 0 = written 2025 3 10 0 0 0 }; end = record { 0 = written 2025 3 11 0 0 0 } }

abbrev pub two_runs : List BusyTime
two_runs = record { class = Tentative; start = written 2025 3 10 9 0 0; end = written 2025 3 10 10 0 0 } ∷ record { class = Busy; start = written 2025 3 10 10 0 0; end = written 2025 3 10 12 0 0 } ∷ []

answer : free_busy_text (pos 1_741_600_000) tenth_of_march two_runs
    ≡ codes "BEGIN:VCALENDAR\r\nVERSION:2.0\r\nPRODID:-//caldav_server//EN\r\nBEGIN:VFREEBUSY\r\nUID:free-busy\r\nDTSTAMP:20250310T094640Z\r\nDTSTART:20250310T000000Z\r\nDTEND:20250311T000000Z\r\nFREEBUSY;FBTYPE=BUSY-TENTATIVE:20250310T090000Z/20250310T100000Z\r\nFREEBUSY;FBTYPE=BUSY:20250310T100000Z/20250310T120000Z\r\nEND:VFREEBUSY\r\nEND:VCALENDAR\r\n"
unfolding year_of month_of day_of_month
answer = refl

-- They are the runs of that whole day, second by second, where 9 to 11 is tentative and 10 to 12 is busy; an event that counts as free gives no time.
abbrev pub two_times : List BusyTime
two_times = record { class = Tentative; start = written 2025 3 10 9 0 0; end = written 2025 3 10 11 0 0 } ∷ record { class = Busy; start = written 2025 3 10 10 0 0; end = written 2025 3 10 12 0 0 } ∷ []

same_classes : (t : ℤ) → class_at two_runs t ≡ class_at two_times t
same_classes t = by_lt_z t (pos 1_741_597_200) (λ l. grind (arith, ints)) (λ l. by_lt_z t (pos 1_741_600_800) (λ m. grind (arith, ints)) (λ m. by_lt_z t (pos 1_741_604_400) (λ n. grind (arith, ints)) (λ n. by_lt_z t (pos 1_741_608_000) (λ o. grind (arith, ints)) (λ o. grind (arith, ints)))))

whole_day : two_runs ≡ runs two_times tenth_of_march
whole_day = runs-AreRuns two_times tenth_of_march two_runs (AreRuns-chain two_times tenth_of_march two_runs
    (omega (arith, ints), omega (arith, ints), omega (arith, ints), λ e same. true≢false (ap (same_class Tentative) same), (omega (arith, ints), omega (arith, ints), omega (arith, ints), tt, tt))
    (λ t l m. same_classes t))

-- a calendar with three events of that day: 9 to 11 tentative, 10 to 12, and 8 to 13 that counts as free
abbrev pub from_to : Option Class → ℕ → ℕ → Object
from_to class start end = object_of (record (event (Some (utc 2025 3 10 start 0)) (extent.End (utc 2025 3 10 end 0))) { busy = class } ∷ [])

three_events : calendar_times utc_zone (from_to (Some Tentative) 9 11 ∷ from_to (Some Busy) 10 12 ∷ from_to None 8 13 ∷ []) ≡ two_times
unfolding exists_in instant_of offset_at
three_events = refl
