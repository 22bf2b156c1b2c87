use Rattle.std.proofs.Common.{◌∙◌, refl, sym, ap, arith, length}
use Rattle.cal_model.specs.State.PropertyTexts.{as_settings}
use Rattle.cal_model.specs.Properties.Settings.{texts_after, texts_after_all}
use Rattle.collections.proofs.SettingLemmas.{in_order-after}
use Rattle.collections.proofs.settings.set_each.Goals as goal

pub loop-set-init : goal.loop-set-init
loop-set-init c = record { room = c.requires.room; texts = λ texts in_order is. (texts, in_order, is, refl) }

pub set_one-requires : goal.set_one-requires
set_one-requires c = record { room = omega (arith, c.loop-set.invariant.room, ap length c.in-Some.ensures) }

pub loop-set-preserved : goal.loop-set-preserved
loop-set-preserved c = record {
  room = omega (arith, c.loop-set.invariant.room, ap length c.in-Some.ensures, c.set_one.ensures.len, c.set_one.ensures.capacity);
  texts = λ texts in_order is.
      let before = c.loop-set.invariant.texts texts in_order is in
      (texts_after before.0 c.in-Some.set, in_order-after before.0 c.in-Some.set before.1, c.set_one.ensures.texts before.0 before.1 before.2, sym (ap (texts_after_all before.0) c.in-Some.ensures) ∙ before.3);
}

pub returns : goal.returns
returns c texts in_order is =
    let before = c.loop-set.invariant.texts texts in_order is in
    before.2 ∙ ap as_settings (sym (ap (texts_after_all before.0) c.in_default.ensures.0) ∙ before.3)
