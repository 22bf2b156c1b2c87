use Rattle.std.proofs.Common.{◌∙◌}
use Rattle.filter_eval.specs.Places.{matched_of}
use Rattle.filter_eval.proofs.AlarmForms.{absolute_passes, related_passes, searched_passes}
use Rattle.filter_eval.proofs.ranges.alarm_passes.Goals as goal

pub returns-in-At : goal.returns-in-At
returns-in-At c =
    c.alarm_overlaps.ensures
    ∙ absolute_passes (matched_of c.args.subject.now) c.args.range (record { number = c.args.number; component = c.args.component.now }) c.args.alarm.now _ c.in-At.is

pub some_goes_off-requires : goal.some_goes_off-requires
some_goes_off-requires c = (c.in-Some.ensures c.args.component.now c.requires.component).rising

pub returns-in-Some : goal.returns-in-Some
returns-in-Some c =
    c.some_goes_off.ensures
    ∙ searched_passes (matched_of c.args.subject.now) c.args.range c.args.number c.args.component.now c.args.alarm.now c.in-From.related c.in-From.after c.in-Some.moments.now c.in-From.is
    (c.in-Some.ensures c.args.component.now c.requires.component)

pub returns-in-None : goal.returns-in-None
returns-in-None c =
    c.alarm_passes_by_rows.ensures
    ∙ related_passes (matched_of c.args.subject.now) c.args.range c.args.number c.args.component.now c.args.alarm.now c.in-From.related c.in-From.after c.in-From.is
