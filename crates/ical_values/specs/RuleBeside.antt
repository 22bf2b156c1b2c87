-- What may stand beside the parts of a rule so far, whose frequency is YEARLY, which refuses least, as long as FREQ has not come (RFC 5545, 3.3.10).
use Rattle.std.specs.Prelude.{ℕ, Bool, true, false, not, ◌&&◌, List, Option, option_map, is_some, pos}
use Rattle.std.specs.List.{list_any}
use Rattle.cal_model.specs.declared.rule.DayPart.{DayPart}
use Rattle.cal_model.specs.declared.rule.Freq.{Freq}
use Rattle.cal_model.specs.declared.rule.Freq.TheVariants.{Secondly, Minutely, Hourly, Daily, Weekly, Monthly, Yearly}
use Rattle.cal_model.specs.declared.rule.Rule.{Rule}
use Rattle.cal_model.specs.Values.RuleTexts.{word_of, frequencies, list_of, weekday_named, day_of, has_some, has_ordinals, is_ordinal}
use Rattle.ical_values.specs.declared.rule_freq.Refusing.{Refusing}
use Rattle.ical_values.specs.declared.rule_lists.PlaceForm.TheVariants.{Week, YearDay, MonthDay}
use Rattle.ical_values.specs.declared.rule_parts.RulePart.{RulePart}
use Rattle.ical_values.specs.declared.rule_parts.RulePart.TheVariants.{Freq as FreqPart, Count, Until, Days, Places}
use Rattle.ical_values.specs.declared.rule_parts.PartValue.{PartValue}
use Rattle.ical_values.specs.declared.rule_parts.PartValue.TheVariants.{Freq as OfFreq, Days as OfDays}
use Rattle.ical_values.specs.RuleFreqs.{allows}
use Rattle.ical_values.specs.RuleParts.{value_of}
use Rattle.ical_values.specs.RuleWords.{words_of}

abbrev pub has_weeks : Freq → Bool
has_weeks Yearly = true
has_weeks Monthly = false
has_weeks Weekly = false
has_weeks Daily = false
has_weeks Hourly = false
has_weeks Minutely = false
has_weeks Secondly = false

abbrev pub has_year_days : Freq → Bool
has_year_days Yearly = true
has_year_days Monthly = false
has_year_days Weekly = false
has_year_days Daily = false
has_year_days Hourly = true
has_year_days Minutely = true
has_year_days Secondly = true

abbrev pub has_month_days : Freq → Bool
has_month_days Yearly = true
has_month_days Monthly = true
has_month_days Weekly = false
has_month_days Daily = true
has_month_days Hourly = true
has_month_days Minutely = true
has_month_days Secondly = true

-- whether a part that has not come yet may
abbrev pub takes : Rule → RulePart → Bool
takes rule Count = not (is_some rule.until)
takes rule Until = not (is_some rule.count)
takes rule (Places Week) = has_weeks rule.freq && not (list_any is_ordinal rule.by_day)
takes rule (Places YearDay) = has_year_days rule.freq
takes rule (Places MonthDay) = has_month_days rule.freq
takes rule _ = true

-- the parts that refuse frequencies
abbrev pub refusing : Rule → Refusing
refusing rule = record {
  weeks = has_some rule.by_week;
  year_days = has_some rule.by_year_day;
  month_days = has_some rule.by_month_day;
  ordinals = list_any is_ordinal rule.by_day;
}

abbrev pub takes_ordinals : Rule → Bool
takes_ordinals rule = has_ordinals rule.freq && not (has_some rule.by_week)

-- a weekday without an ordinal
abbrev pub each_weekday : ℕ → DayPart
each_weekday weekday = record { ordinal = pos 0; weekday = weekday }

-- a day, which may have an ordinal or not
abbrev pub day_by : Bool → List ℕ → Option DayPart
day_by true text = day_of text
day_by false text = option_map each_weekday (weekday_named text)

-- what a text says for a part that may come, where that may stand there
abbrev pub value_beside : Rule → RulePart → List ℕ → Option PartValue
value_beside rule FreqPart text = option_map OfFreq (word_of (words_of (allows (refusing rule)) frequencies) text)
value_beside rule Days text = option_map OfDays (list_of (day_by (takes_ordinals rule)) text)
value_beside rule part text = value_of part text
