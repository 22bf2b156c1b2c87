use Rattle.std.proofs.Common.{◌∙◌, sym, ap, arith}
use Rattle.std.proofs.lemmas.Int.{ints}
use Rattle.cal_model.specs.Ranges.Overlap.{some_trigger}
use Rattle.overlap_rules.proofs.Triggers.{relative_is}
use Rattle.overlap_rules.proofs.alarm.alarm_overlaps.Goals as goal

pub returns-in-Some-moment_related : goal.returns-in-Some-moment_related
returns-in-Some-moment_related c =
    let found = relative_is c.args.alarm.now c.args.component.now c.args.at c.args.range c.in-From.related c.in-From.length c.in-Some.moments c.in-Some-moment_related.moment
    c.in-From.is c.in-Some.is (sym c.moment_related.ensures ∙ c.in-Some-moment_related.is) in
    let value = c.seconds_of.ensures.value in
    c.some_trigger.ensures ∙ ap (some_trigger c.args.alarm.now c.args.range) (omega (arith, ints)) ∙ found
