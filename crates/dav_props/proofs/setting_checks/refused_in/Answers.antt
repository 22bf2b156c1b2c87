use Rattle.std.proofs.Common.{◌∙◌, ◌+◌, sym, ap, drop, false}
use Rattle.cal_model.specs.Properties.Settings.{faults_of_all}
use Rattle.dav_props.specs.SettingChecks.{texts_passed}
use Rattle.dav_props.specs.KeptTexts.{marks}
use Rattle.dav_props.proofs.FaultLemmas.{in_order-passed, marks_step, sets_behind, none_left}
use Rattle.dav_props.proofs.setting_checks.refused_in.Goals as goal

pub loop-set-init : goal.loop-set-init
loop-set-init c texts s is = (texts, s, is, ap (λ refused. marks refused (faults_of_all false texts c.args.sets.now)) c.new-refused.ensures)

pub loop-set-preserved : goal.loop-set-preserved
loop-set-preserved c texts s is =
    let before = c.loop-set.invariant texts s is in
    let set = c.set-item.result in
    let at = c.loop-set.set-index in (
      texts_passed false before.0 set,
      in_order-passed false before.0 set before.1,
      c.in_ok-look_at.ensures.kept before.0 before.1 before.2,
      marks_step c.loop-set.refused c.look_at.new.refused before.0 set (drop (at + 1) c.args.sets.now) (c.in_ok-look_at.ensures.refused before.0 before.2)
          ∙ (ap (λ sets. marks c.loop-set.refused (faults_of_all false before.0 sets)) (sets_behind c.args.sets.now at set c.loop-set-test.true c.set-item.is) ∙ before.3),
    )

pub returns : goal.returns
returns c texts s is =
    let before = c.loop-set.invariant texts s is in
    sym (ap (λ sets. marks c.loop-set.refused (faults_of_all false before.0 sets)) (none_left c.args.sets.now c.loop-set.set-index c.loop-set-test.false)) ∙ before.3
