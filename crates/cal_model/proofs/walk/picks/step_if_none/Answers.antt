use Rattle.std.proofs.Common.{◌≡◌, sym, ◌∙◌, inl, inr}
use Rattle.cal_model.specs.declared.rule.Freq.TheVariants.{Hourly, Monthly, Yearly}
use Rattle.cal_model.proofs.walk.picks.step_if_none.Goals as goal

pub find_times-requires-clause-whole : goal.find_times-requires-clause-whole
find_times-requires-clause-whole g c = λ hourly.
    elim (c.is_long.ensures c.if-not-is_long.false) [
      | inl e ↦ (let bad : Hourly ≡ Monthly = sym hourly ∙ e in cc)
      | inr e ↦ (let bad : Hourly ≡ Yearly = sym hourly ∙ e in cc)
    ]

pub step_over-over-requires-clause-long : goal.step_over-over-requires-clause-long
step_over-over-requires-clause-long g c = c.is_long.ensures c.if-not-is_long.false

pub step_over-over-requires-clause-least : goal.step_over-over-requires-clause-least
step_over-over-requires-clause-least g c = c.requires.places.least
