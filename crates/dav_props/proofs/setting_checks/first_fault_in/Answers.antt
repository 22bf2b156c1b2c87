use Rattle.std.proofs.Common.{◌≡◌, ◌∙◌, ◌+◌, [], sym, ap, refl, drop, true, None}
use Rattle.cal_model.specs.Properties.Settings.{faults_of_all, setting_fault, texts_after}
use Rattle.dav_props.specs.SettingChecks.{fault_in}
use Rattle.dav_props.specs.KeptTexts.{names_after}
use Rattle.dav_props.proofs.SettingLemmas.{kept_after}
use Rattle.cal_model.proofs.State.TextOrder.{in_order-after}
use Rattle.dav_props.proofs.FaultLemmas.{sorted_none, no_refusal, fault_passed, sets_behind}
use Rattle.dav_props.proofs.setting_checks.first_fault_in.Goals as goal

pub loop-set-init : goal.loop-set-init
loop-set-init c start = ([], sorted_none, start, refl)

pub loop-set-preserved : goal.loop-set-preserved
loop-set-preserved c start =
    let before = c.loop-set.invariant start in
    let set = c.set-item.result in
    let at = c.loop-set.set-index in
    let fine : None ≡ setting_fault true before.0 set = no_refusal c.in_ok-fault.fault (sym c.is_some.ensures ∙ c.if-is_some.false) ∙ c.in_ok-fault.ensures before.0 before.2 in (
      texts_after before.0 set,
      in_order-after before.0 set before.1,
      c.in_ok-keep.ensures ∙ (ap (λ kept. names_after kept set) before.2 ∙ kept_after before.0 set before.1),
      sym (fault_passed true before.0 set (drop (at + 1) c.args.sets.now) fine) ∙ (ap (λ sets. fault_in (faults_of_all true before.0 sets)) (sets_behind c.args.sets.now at set c.loop-set-test.true c.set-item.is) ∙ before.3),
    )
