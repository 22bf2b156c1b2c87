use Rattle.std.proofs.Common.{◌≡◌, ◌+◌, ◌<◌, ◌∙◌, true, ap, arith, refl, nat_lt}
use Rattle.std.specs.Prelude.{if◌then◌else◌, false}
use Rattle.std.proofs.lemmas.Bool.{lt-ltb}
use Rattle.cal_moment.specs.Calendar.{weekday_of}
use Rattle.rrule_step.specs.Ordinals.{asks_of}
use Rattle.rrule_step.specs.Sets.{has}
use Rattle.rrule_step.proofs.MonthLemmas.{one_more}
use Rattle.rrule_step.proofs.OrdinalLemmas.{asks_of-parts}
use Rattle.rrule_step.proofs.days.all_weekdays.Goals as goal

pub loop-weekday-preserved : goal.loop-weekday-preserved
loop-weekday-preserved c = λ i lt.
    c.with_weekday-set.ensures i lt
    ∙ one_more (λ weekday. asks_of c.args.ordinals.now weekday (c.args.before + i + 1) c.args.size) (has c.loop-weekday.set i) (asks_of c.args.ordinals.now c.loop-weekday.weekday (c.args.before + i + 1) c.args.size) (weekday_of (c.args.first + i)) c.loop-weekday.weekday (c.loop-weekday.invariant i lt) refl

pub returns : goal.returns
returns c = λ parts are i lt.
    let small : weekday_of (c.args.first + i) < 7 = omega arith in
    let all : nat_lt (weekday_of (c.args.first + i)) c.loop-weekday.weekday ≡ true = lt-ltb (weekday_of (c.args.first + i)) c.loop-weekday.weekday (omega (arith, small, c.loop-weekday-test.false)) in
    c.loop-weekday.invariant i lt
    ∙ (ap (λ b. if b then asks_of c.args.ordinals.now (weekday_of (c.args.first + i)) (c.args.before + i + 1) c.args.size else false) all
    ∙ asks_of-parts parts c.args.ordinals.now are (weekday_of (c.args.first + i)) (c.args.before + i + 1) c.args.size small (omega (arith, lt, c.requires.before)) c.requires.size)
