use Rattle.std.proofs.Common.{◌≡◌, Bool, true, false, refl}
use Rattle.std.specs.Prelude.{not}
use Rattle.rrule_step.proofs.RoundLemmas.{never_hourly, never_daily}
use Rattle.rrule_step.proofs.rounds.never_meets.Goals as goal

none_of : (b : Bool) → not b ≡ true → b ≡ false
none_of false h = refl
none_of true h = absurd cc

pub returns-in-Hourly : goal.returns-in-Hourly
returns-in-Hourly c = λ never m.
    never_hourly c.args.rule.now c.args.plan.now c.requires.plan c.weekdays_of-weekdays.result c.weekdays_of-weekdays.ensures c.requires.rule.interval_positive m c.in-Hourly.is (c.meets.ensures (none_of c.meets.result never))

pub returns-in-Daily : goal.returns-in-Daily
returns-in-Daily c = λ never m.
    never_daily c.args.rule.now c.args.plan.now c.requires.plan c.weekdays_of-weekdays-in-Daily.result c.weekdays_of-weekdays-in-Daily.ensures c.requires.rule.interval_positive m c.in-Daily.is c.all.result c.all.ensures (c.meets-in-Daily.ensures (none_of c.meets-in-Daily.result never))
