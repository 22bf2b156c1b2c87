use Rattle.std.proofs.Common.{◌≡◌, ◌/◌, ◌%◌, ◌<◌, ◌∙◌, sym, ap, arith, rules, refl}
use Rattle.cal_model.specs.Recurrence.Passing.{time_passes}
use Rattle.rrule_step.proofs.StepLemmas.{midnight_alone}
use Rattle.rrule_step.proofs.times.times_of.Goals as goal

pub returns-then-dated : goal.returns-then-dated
unfolding time_passes
returns-then-dated c = λ k small.
    let hour = c.only-midnight.ensures (k / 3600) (omega arith) in
    let minute = c.only-midnight.ensures (k % 3600 / 60) (omega arith) in
    let second = c.only-midnight.ensures (k % 3600 % 60) (omega arith) in
    rw (c.if-dated.true, hour, minute, second) (midnight_alone k)

pub returns : goal.returns
unfolding time_passes
returns c = λ k small.
    let hour = c.hour_part.ensures (k / 3600) (omega arith) in
    let minute = c.time_part.ensures (k % 3600 / 60) (omega arith) in
    let second = c.time_part-2.ensures (k % 3600 % 60) (omega arith) in
    let a : k % 3600 / 60 ≡ k / 60 % 60 = omega arith in
    let b : k % 3600 % 60 ≡ k % 60 = omega arith in
    rw (c.if-dated.false, hour, minute, second, a, b) refl
