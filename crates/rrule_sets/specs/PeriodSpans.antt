-- RDATE periods as the starts and ends of instances.
use Rattle.std.specs.Prelude.{◌≡◌, ◌⊎◌, Bool, List, map, filter, ℤ, ◌≤ℤ◌, ◌<ℤ◌}
use Rattle.cal_model.specs.Words.Integers.{same_int}
use Rattle.cal_moment.specs.declared.stamp.Period.{Period}
use Rattle.cal_moment.specs.declared.stamp.Stamp.{Stamp}
use Rattle.cal_model.specs.declared.zone.ZoneTable.{ZoneTable}
use Rattle.cal_model.specs.Instances.Starts.{date_start, end_of_period}
use Rattle.rrule_sets.specs.declared.range.Digits.{Digits}
use Rattle.rrule_sets.specs.DigitRanges.{starts_in}

-- the start and the end of a period beside the start s
abbrev pub period_span : List ZoneTable → Stamp → Period → ℤ × ℤ
period_span zones s p = (date_start zones s p.start, end_of_period zones s (date_start zones s p.start) p.end)

abbrev pub span_starts_in : List ZoneTable → Stamp → Digits → ℤ × ℤ → Bool
span_starts_in zones s range span = starts_in zones s range span.0

-- one span is not after another: by start, then end
abbrev pub IsNotAfter : ℤ × ℤ → ℤ × ℤ → Type 0
IsNotAfter a b = (a.0 <ℤ b.0) ⊎ ((a.0 ≡ b.0) × (a.1 ≤ℤ b.1))

-- the ends of the spans that begin at a start
abbrev pub ends_at : ℤ → List (ℤ × ℤ) → List ℤ
ends_at r spans = map (λ (span : ℤ × ℤ). span.1) (filter (λ (span : ℤ × ℤ). same_int r span.0) spans)
