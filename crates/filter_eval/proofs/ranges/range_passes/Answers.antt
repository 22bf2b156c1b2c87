use Rattle.std.proofs.Common.{ap, sym, ◌∙◌}
use Rattle.cal_model.specs.Objects.ComponentReading.{is_alarm}
use Rattle.filter_eval.specs.Places.{matched_of}
use Rattle.filter_eval.proofs.AlarmForms.{range_within}
use Rattle.filter_eval.proofs.ranges.range_passes.Goals as goal

pub returns-in-true-Within : goal.returns-in-true-Within
returns-in-true-Within c = λ site is.
    range_within (matched_of c.args.subject.now) c.args.range site c.in-true-Within.child c.in-true-Within.alarms c.inner_alarm_passes.result
    (ap is_alarm is.node ∙ sym c.in-true-Within.ensures) (is.place ∙ c.in-true-Within.is-1) (λ place. c.inner_alarm_passes.ensures site place is.node)
