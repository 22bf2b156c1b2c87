use Rattle.std.proofs.Common.{◌≡◌, ◌<◌, ap, ◌∙◌, arith, true, nat_eq}
use Rattle.std.proofs.lemmas.Bool.{eq-eqb}
use Rattle.cal_model.specs.Values.LocalTimes.{moment_of_local}
use Rattle.cal_model.proofs.Recurrence.Rising.{period_number-le}
use Rattle.cal_model.specs.Walks.Clocks.{reading_by}
use Rattle.cal_model.specs.Walks.KeptMoments.{number_of}
use Rattle.cal_model.proofs.Walks.KeptLemmas.{later_found, none_later}
use Rattle.cal_model.proofs.walk.picks.stays.Goals as goal

pub returns-then-period_of-number-clause-ends : goal.returns-then-period_of-number-clause-ends
returns-then-period_of-number-clause-ends g c = λ u.
    let value = c.period_of.ensures in
    later_found c.args.rule.now (moment_of_local c.args.start) (reading_by c.args.clock.now) (moment_of_local c.args.cursor.now.at) c.args.number c.requires.from (λ e. absurd (omega (arith, e, value)))

pub returns-in_default-clause-ends : goal.returns-in_default-clause-ends
returns-in_default-clause-ends g c = λ u.
    none_later c.args.rule.now (moment_of_local c.args.start) (reading_by c.args.clock.now) (λ m. c.args.number < number_of c.args.rule.now m) (moment_of_local c.peek.new.cursor.at) c.in_default.ensures.none

pub returns-clause-ends : goal.returns-clause-ends
returns-clause-ends g c = λ u.
    let at = c.in-Some.ensures.some.0 in
    let up = period_number-le c.args.rule.now.freq c.args.rule.now.week_start (moment_of_local c.args.cursor.now.at) (moment_of_local c.peek.new.cursor.at) c.in-Some.ensures.forward in
    let value : c.period_of-2.result ≡ number_of c.args.rule.now (moment_of_local c.peek.new.cursor.at) = c.period_of-2.ensures ∙ ap (λ m. number_of c.args.rule.now (moment_of_local m)) at in
    later_found c.args.rule.now (moment_of_local c.args.start) (reading_by c.args.clock.now) (moment_of_local c.peek.new.cursor.at) c.args.number (omega (arith, up, c.requires.from))
    (λ e. let yes : nat_eq c.period_of-2.result c.args.number ≡ true = eq-eqb _ _ (value ∙ e) in cc)
