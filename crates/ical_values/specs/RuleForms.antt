-- How the numbers in the lists of a rule are read, part by part (RFC 5545, 3.3.10).
use Rattle.std.specs.Prelude.{ℕ, List, Option, ℤ}
use Rattle.cal_model.specs.Values.RuleTexts.{number_of, place_number, second_number}
use Rattle.ical_values.specs.declared.rule_lists.CountForm.{CountForm}
use Rattle.ical_values.specs.declared.rule_lists.CountForm.TheVariants.{Month, Hour, Minute, Second}
use Rattle.ical_values.specs.declared.rule_lists.PlaceForm.{PlaceForm}
use Rattle.ical_values.specs.declared.rule_lists.PlaceForm.TheVariants.{Week, YearDay, MonthDay, SetPos}

-- numbers that are not negative
abbrev pub count_by : CountForm → List ℕ → Option ℕ
count_by Month text = number_of 1 12 text
count_by Hour text = number_of 0 23 text
count_by Minute text = number_of 0 59 text
count_by Second text = second_number text

-- the greatest number that counts from the front or from the end
abbrev pub most_of : PlaceForm → ℕ
most_of Week = 53
most_of YearDay = 366
most_of MonthDay = 31
most_of SetPos = 366

abbrev pub place_by : PlaceForm → List ℕ → Option ℤ
place_by form text = place_number (most_of form) text
