-- Which frequencies may stand beside the parts of a rule that refuse some (RFC 5545, 3.3.10).
use Rattle.std.specs.Prelude.{ℕ, max, Bool, true, not, ◌&&◌, if◌then◌else◌, List, codes}
use Rattle.cal_model.specs.declared.rule.Freq.{Freq}
use Rattle.cal_model.specs.declared.rule.Freq.TheVariants.{Secondly, Minutely, Hourly, Daily, Weekly, Monthly, Yearly}
use Rattle.ical_values.specs.declared.rule_freq.Refusing.{Refusing}
use Rattle.ical_values.specs.RuleWords.{common}

abbrev pub allows : Refusing → Freq → Bool
allows beside Yearly = true
allows beside Monthly = not beside.weeks && not beside.year_days
allows beside Weekly = not beside.weeks && not beside.year_days && not beside.month_days && not beside.ordinals
allows beside Daily = not beside.weeks && not beside.year_days && not beside.ordinals
allows beside Hourly = not beside.weeks && not beside.ordinals
allows beside Minutely = not beside.weeks && not beside.ordinals
allows beside Secondly = not beside.weeks && not beside.ordinals

-- what a text has in common with the word of a frequency, if it may stand there
abbrev pub freq_part : Refusing → Freq → List ℕ → List ℕ → ℕ
freq_part beside freq text word = if allows beside freq then common text word else 0

abbrev pub freq_common : Refusing → List ℕ → ℕ
freq_common beside text =
    max (freq_part beside Secondly text (codes "SECONDLY"))
    (max (freq_part beside Minutely text (codes "MINUTELY"))
    (max (freq_part beside Hourly text (codes "HOURLY"))
    (max (freq_part beside Daily text (codes "DAILY"))
    (max (freq_part beside Weekly text (codes "WEEKLY"))
    (max (freq_part beside Monthly text (codes "MONTHLY"))
    (freq_part beside Yearly text (codes "YEARLY")))))))
