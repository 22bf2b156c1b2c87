-- What the starts of one component are made of before EXDATEs are taken off.
use Rattle.std.specs.Prelude.{ℕ, List, [], ◌∷◌, map, filter, if◌then◌else◌, ℤ}
use Rattle.std.specs.List.{list_any}
use Rattle.cal_moment.specs.declared.stamp.Stamp.{Stamp}
use Rattle.cal_model.specs.declared.object.Component.{Component}
use Rattle.cal_model.specs.declared.object.Extent.{Extent}
use Rattle.cal_model.specs.Words.Integers.{same_int}
use Rattle.cal_model.specs.declared.row.Row.{Row}
use Rattle.cal_model.specs.declared.rule.Rule.{Rule}
use Rattle.cal_model.specs.declared.zone.ZoneTable.{ZoneTable}
use Rattle.cal_model.specs.Instances.Alignment.{reading_of, value_of, written_moment, kind_of}
use Rattle.cal_model.specs.Instances.Rows.{row_of}
use Rattle.cal_model.specs.Instances.Starts.{end_of_extent, end_of_instance, latest_of, own_start, plain_starts, recurs, starts_from}
use Rattle.cal_model.specs.Recurrence.RecurrenceSet.{every_moment, later_moments}
use Rattle.cal_model.specs.Walks.KeptMoments.{starts_by}
use Rattle.rrule_sets.specs.declared.range.Digits.{Digits}
use Rattle.rrule_sets.specs.DigitRanges.{starts_in}
use Rattle.rrule_sets.specs.PeriodSpans.{ends_at, period_span}

-- the starts of a rule behind its first one that lie in a range
abbrev pub later_starts : List ZoneTable → Stamp → Digits → Rule → List ℤ
later_starts zones s range rule = filter (starts_in zones s range) (starts_by (reading_of zones s) (later_moments rule (written_moment s) (reading_of zones s) every_moment))

-- the starts that keep the length of their component
abbrev pub plain_of : List ZoneTable → Stamp → Component → List ℤ
plain_of zones s c = if recurs c then plain_starts every_moment zones s c else value_of zones s ∷ []

-- the starts and ends of RDATE periods
abbrev pub spans_of : List ZoneTable → Stamp → Component → List (ℤ × ℤ)
spans_of zones s c = if recurs c then map (period_span zones s) c.periods else []

-- the EXDATEs that count
abbrev pub exceptions_of : Component → List Stamp
exceptions_of c = if recurs c then c.except else []

-- the end of an instance, and its row, where some starts keep the component's length and others have the latest end of their spans
abbrev pub end_by : List ZoneTable → Stamp → Extent → List ℤ → List (ℤ × ℤ) → ℤ → ℤ
end_by zones s extent plain spans r = if list_any (same_int r) plain then end_of_extent zones s extent r else latest_of r (ends_at r spans)

abbrev pub row_by : List ZoneTable → Stamp → Extent → List ℤ → List (ℤ × ℤ) → ℕ → ℤ → Row
row_by zones s extent plain spans number r = row_of r r (end_by zones s extent plain spans r) number (kind_of s) (kind_of s)

-- the row of an instance at a start
abbrev pub instance_row : List ZoneTable → Stamp → Component → ℕ → ℤ → Row
instance_row zones s c number r = row_of r r (end_of_instance every_moment zones s c r) number (kind_of s) (kind_of s)

-- the rows of the instances that start in a range
abbrev pub instances_in : List ZoneTable → Stamp → Component → ℕ → Digits → List Row
instances_in zones s c number range = map (instance_row zones s c number) (filter (starts_in zones s range) (starts_from every_moment zones c (own_start c)))
