-- The word of FREQ: the most that a text has in common with one that may stand there.
use Rattle.std.proofs.Common.{◌≡◌, ℕ, max, List, [], ◌∷◌, codes, sym, ap, ◌∙◌, arith}
use Rattle.cal_model.specs.declared.rule.Freq.{Freq}
use Rattle.cal_model.specs.declared.rule.Freq.TheVariants.{Secondly, Minutely, Hourly, Daily, Weekly, Monthly, Yearly}
use Rattle.cal_model.specs.Values.RuleTexts.{frequencies}
use Rattle.ical_values.specs.declared.rule_freq.Refusing.{Refusing}
use Rattle.ical_values.specs.RuleFreqs.{allows, freq_common, freq_part}
use Rattle.ical_values.specs.RuleWords.{most_common, words_of}
use Rattle.ical_values.proofs.WordPlaces.{kept_most}

pub freq_most : (beside : Refusing) (text : List ℕ) → freq_common beside text ≡ most_common (words_of (allows beside) frequencies) text
freq_most beside text =
    let keep = allows beside in
    let year : List ℕ × Freq = (codes "YEARLY", Yearly) in
    let month : List ℕ × Freq = (codes "MONTHLY", Monthly) in
    let week : List ℕ × Freq = (codes "WEEKLY", Weekly) in
    let day : List ℕ × Freq = (codes "DAILY", Daily) in
    let hour : List ℕ × Freq = (codes "HOURLY", Hourly) in
    let minute : List ℕ × Freq = (codes "MINUTELY", Minutely) in
    let second : List ℕ × Freq = (codes "SECONDLY", Secondly) in
    let part = λ (freq : Freq) (word : List ℕ). freq_part beside freq text word in
    let last : max (part Yearly (codes "YEARLY")) 0 ≡ part Yearly (codes "YEARLY") = omega arith in
    sym (
    kept_most keep second (minute ∷ hour ∷ day ∷ week ∷ month ∷ year ∷ []) text
    ∙ ap (max (part Secondly (codes "SECONDLY"))) (kept_most keep minute (hour ∷ day ∷ week ∷ month ∷ year ∷ []) text
    ∙ ap (max (part Minutely (codes "MINUTELY"))) (kept_most keep hour (day ∷ week ∷ month ∷ year ∷ []) text
    ∙ ap (max (part Hourly (codes "HOURLY"))) (kept_most keep day (week ∷ month ∷ year ∷ []) text
    ∙ ap (max (part Daily (codes "DAILY"))) (kept_most keep week (month ∷ year ∷ []) text
    ∙ ap (max (part Weekly (codes "WEEKLY"))) (kept_most keep month (year ∷ []) text
    ∙ ap (max (part Monthly (codes "MONTHLY"))) (kept_most keep year [] text ∙ last))))))
    )
