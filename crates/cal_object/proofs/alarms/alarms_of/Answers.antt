use Rattle.std.proofs.Common.{arith, sym, ap, ◌∙◌, ◌++◌}
use Rattle.std.specs.Prelude.{filter_map, option_to_list}
use Rattle.cal_model.specs.Objects.ComponentReading as spec
use Rattle.cal_object.proofs.NamedLists.{more_there, same_named}
use Rattle.cal_object.proofs.alarms.alarms_of.Goals as goal
use Rattle.cal_object.proofs.alarms.alarms_of.Goals.{then-is_alarm+in_ok-add_alarm, else-is_alarm}

pub children-preserved : goal.children-preserved
children-preserved c =
    let children = c.args.children.now in
    let child = c.child-item.result in
    elim c.if-is_alarm.branch [
      | then-is_alarm+in_ok-add_alarm w ↦
          w.alarms-is
          ∙ (w.in_ok-add_alarm.ensures
          ∙ (ap (λ alarms. alarms ++ option_to_list (spec.alarm_of child)) c.children.invariant
          ∙ sym (more_there spec.alarm_of spec.is_alarm children c.children.child-index child (omega arith) c.child-item.is (sym w.if-is_alarm.ensures))))
      | else-is_alarm w ↦
          w.alarms-is
          ∙ (c.children.invariant
          ∙ ap (filter_map spec.alarm_of) (sym (same_named spec.is_alarm children c.children.child-index child (omega arith) c.child-item.is (sym w.if-is_alarm.ensures))))
    ]
