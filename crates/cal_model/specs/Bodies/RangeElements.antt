-- Ranges of time in a body (RFC 4791, 9.9; 9.6.5 to 9.6.7 for those of calendar-data).
-- Given: an element with the attributes `start` and `end`. Gives: the range that it states, if each end that is there is a UTC text and the end lies after the start.
use Rattle.std.specs.Prelude.{ℕ, Bool, ◌&&◌, if◌then◌else◌, List, codes, Option, Some, None, is_none, option_and_then, unwrap_or, ℤ, int_lt}
use Rattle.cal_base.specs.declared.element.Element.{Element}
use Rattle.cal_model.specs.declared.row.Range.{Range}
use Rattle.cal_model.specs.Words.Limits.{first_date, last_date}
use Rattle.cal_model.specs.Values.UtcTexts.{utc_of}
use Rattle.cal_model.specs.Bodies.ElementParts.{attribute_of}

-- one end: where it is absent, that of all dates that this server takes
abbrev pub moment_or : ℤ → Option (List ℕ) → Option ℤ
moment_or absent None = Some absent
moment_or absent (Some text) = utc_of text

-- the end lies after the start
abbrev pub range_between : ℤ → ℤ → Option Range
range_between start end =
    if int_lt start end then Some (record { start = record { 0 = start }; end = record { 0 = end } }) else None

-- one of both may be absent
abbrev pub range_of_ends : Option (List ℕ) → Option (List ℕ) → Option Range
range_of_ends start end =
    if is_none start && is_none end then None
    else option_and_then (λ s. option_and_then (λ e. range_between s e) (moment_or last_date end)) (moment_or first_date start)

-- the range that an element states, if it states one
abbrev pub range_of : Element → Option Range
range_of element = range_of_ends (attribute_of (codes "start") element) (attribute_of (codes "end") element)

abbrev pub is_bad_range : Element → Bool
is_bad_range element = is_none (range_of element)

-- what stands for a range where there is none; no request that is taken has it
abbrev pub no_range : Range
no_range = record { start = record { 0 = first_date }; end = record { 0 = first_date } }

-- the range of an element that states one
abbrev pub stated : Element → Range
stated element = unwrap_or (range_of element) no_range
