use Rattle.std.proofs.Common.{Some, sym, ap, ◌∙◌, arith, FitsSigned, w16, to_z-of_z}
use Rattle.std.proofs.lemmas.Int.{ints}
use Rattle.ical_values.proofs.DayWidths.{ordinal_bad, weekday_bad}
use Rattle.ical_values.proofs.rule_days.read_parts.Goals as goal

pub returns-in-Ok-read_weekday-clause-ok : goal.returns-in-Ok-read_weekday-clause-ok
returns-in-Ok-read_weekday-clause-ok c =
    let fits : FitsSigned w16 c.in-Ok.ordinal = omega (arith, ints, c.in-Ok.ensures.range) in
    record { front = c.args.front.now; behind = c.args.behind.now; split = c.requires.split; ordinal = c.in-Ok.ensures.ok ∙ ap (λ z. Some z) (sym (to_z-of_z fits)); weekday = c.in-Ok-read_weekday.ensures.ok }

pub returns-in-Err-read_weekday-clause-bad : goal.returns-in-Err-read_weekday-clause-bad
returns-in-Err-read_weekday-clause-bad c =
    weekday_bad c.args.text.now c.args.front.now c.args.behind.now c.requires.split c.requires.low c.requires.ends c.in-Err-read_weekday.fault.place (_, c.in-Ok.ensures.ok) c.in-Err-read_weekday.ensures.bad

pub returns-in-Err-clause-bad : goal.returns-in-Err-clause-bad
returns-in-Err-clause-bad c = ordinal_bad c.args.text.now c.args.front.now c.args.behind.now c.requires.split c.requires.low c.requires.ends c.in-Err.fault.place c.in-Err.ensures.bad
