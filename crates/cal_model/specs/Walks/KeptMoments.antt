-- What a rule gives from a moment on, one moment after the other. From RFC 5545, 3.3.10 and 3.8.5.3.
use Rattle.std.specs.Prelude.{◌≡◌, ℕ, ◌-◌, ◌*◌, ◌<◌, ◌&&◌, nat_le, nat_lt, List, [], ◌∷◌, if◌then◌else◌, filter, take, map, ℤ, Option, Some, None}
use Rattle.cal_moment.specs.Calendar.{seconds_since_1970}
use Rattle.cal_moment.specs.declared.stamp.Local.{Local}
use Rattle.cal_model.specs.declared.rule.Rule.{Rule}
use Rattle.cal_model.specs.Words.Lists.{numbers_between}
use Rattle.cal_model.specs.Values.LocalTimes.{moment_of_local}
use Rattle.cal_model.specs.Recurrence.NextPassing.{end_day}
use Rattle.cal_model.specs.Recurrence.Passing.{period_number}
use Rattle.cal_model.specs.Recurrence.RecurrenceSet.{Reading, later_moments, every_moment, found_moments, at_places, until_passes, last_written}

-- the moments from one on that pass and exist
abbrev pub found_from : Rule → ℕ → Reading → ℕ → List ℕ
found_from rule start reading from = found_moments rule start reading (numbers_between from (86400 * end_day))

-- those from one moment up to another
abbrev pub found_between : Rule → ℕ → Reading → ℕ → ℕ → List ℕ
found_between rule start reading a b = found_moments rule start reading (numbers_between a b)

abbrev pub moments_of : List Local → List ℕ
moments_of ls = map moment_of_local ls

-- a moment that exists
abbrev pub if_there : Reading → ℕ → List ℕ
if_there reading m = if reading.exists (seconds_since_1970 m) then m ∷ [] else []

-- the number of a moment's period
abbrev pub number_of : Rule → ℕ → ℕ
number_of rule m = period_number rule.freq rule.week_start m

-- and those of them that BYSETPOS keeps, where no period is cut
unfoldable pub kept_from : Rule → ℕ → Reading → ℕ → List ℕ
kept_from rule start reading from = at_places rule (found_from rule start reading from)

-- how many of the later moments COUNT still allows: none said, or so many
abbrev pub counted_by : Option ℕ → List ℕ → List ℕ
counted_by None later = later
counted_by (Some left) later = take left later

-- one less, where some are said
abbrev pub one_less : Option ℕ → Option ℕ
one_less None = None
one_less (Some left) = Some (left - 1)

-- of the moments that are kept those that the set has from `low` up to `high`, where so many are still allowed
abbrev pub wanted : Rule → ℕ → Reading → ℕ → ℕ → Option ℕ → List ℕ → List ℕ
wanted rule start reading low high left kept =
    filter (λ m. nat_le low m && nat_lt m high)
    (filter (λ m. nat_le m last_written)
    (counted_by left (filter (until_passes reading rule.until) (filter (λ m. nat_lt start m) kept))))

-- no period lies on both sides of a moment
abbrev pub IsPeriodFirst : Rule → ℕ → Type 0
IsPeriodFirst rule a = (m : ℕ) → m < a → period_number rule.freq rule.week_start m < period_number rule.freq rule.week_start a

-- the period of a moment ends at another: that is the first of a later one
pub record EndsPeriod (rule : Rule) (m end : ℕ) : Type 0 where
  pub later : m < end
  pub last : number_of rule (end - 1) ≡ number_of rule m
  pub next : number_of rule m < number_of rule end

-- the starts of some moments: their instants, or their digits
abbrev pub starts_by : Reading → List ℕ → List ℤ
starts_by reading moments = map (λ m. reading.instant (seconds_since_1970 m)) moments

-- the later starts of a rule from one moment up to another
abbrev pub starts_between : Rule → ℕ → Reading → ℕ → ℕ → List ℤ
starts_between rule start reading low high =
    starts_by reading (filter (λ m. nat_le low m && nat_lt m high) (later_moments rule start reading every_moment))
