use Rattle.std.proofs.Common.{Some, None, if◌then◌else◌, option_and_then, sym, ap, ◌∙◌}
use Rattle.cal_model.specs.Values.RuleTexts.{frequencies}
use Rattle.ical_values.specs.RuleFreqs.{allows}
use Rattle.ical_values.proofs.WordPlaces.{frequencies_apart, kept_word}
use Rattle.ical_values.proofs.rule_freq.allowed_freq.Goals as goal

pub returns-in-Some : goal.returns-in-Some
returns-in-Some c =
    let keep = allows c.args.beside in
    c.if_allowed.ensures ∙ sym (kept_word keep frequencies c.args.text.now frequencies_apart ∙ ap (option_and_then (λ freq. if keep freq then Some freq else None)) (sym c.in-Some.ensures))

pub returns-in-None : goal.returns-in-None
returns-in-None c =
    let keep = allows c.args.beside in
    sym (kept_word keep frequencies c.args.text.now frequencies_apart ∙ ap (option_and_then (λ freq. if keep freq then Some freq else None)) (sym c.in-None.ensures))
