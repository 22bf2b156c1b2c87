use Rattle.std.proofs.Common.{◌≡◌, ◌<◌, ◌∙◌, sym, ap, arith, rules, true, false, not, ◌==◌}
use Rattle.std.specs.Prelude.{if◌then◌else◌}
use Rattle.cal_moment.specs.Calendar.{month_of}
use Rattle.cal_model.specs.Words.Lists.{is_empty, has_number}
use Rattle.cal_model.specs.Recurrence.Passing.{month_passes, has_day_part}
use Rattle.cal_model.proofs.Recurrence.Rising.{month_of-last}
use Rattle.rrule_step.proofs.MonthLemmas.{day_passes-month, day_passes-default, default-other_month}
use Rattle.rrule_step.proofs.days.months_of.Goals as goal

pub returns-then-not-is_empty-clause-missed : goal.returns-then-not-is_empty-clause-missed
returns-then-not-is_empty-clause-missed c = λ day out.
    let most = month_of-last day in
    let fails : has_number c.args.rule.now.by_month (month_of day) ≡ false = sym (c.numbers_of.ensures (month_of day) (omega (arith, most))) ∙ out in
    let some : is_empty c.args.rule.now.by_month ≡ false = search rules in
    day_passes-month c.args.rule.now c.args.start.now.day day (ap (λ b. if b then true else has_number c.args.rule.now.by_month (month_of day)) some ∙ fails)

pub returns-then-is_empty-clause-missed : goal.returns-then-is_empty-clause-missed
returns-then-is_empty-clause-missed c = λ day out.
    let most = month_of-last day in
    let other : (month_of day == c.args.start.now.month) ≡ false = sym (c.only.ensures (month_of day) (omega (arith, most))) ∙ out in
    let same = c.args.start.now.month_is in
    let none : has_day_part c.args.rule.now ≡ false = search rules in
    day_passes-default c.args.rule.now c.args.start.now.day day (default-other_month c.args.rule.now c.args.start.now.day day (search rules) none (search rules) (search rules) (rw same at other))

pub returns-else-eq-clause-missed : goal.returns-else-eq-clause-missed
returns-else-eq-clause-missed c = λ day out.
    let most = month_of-last day in
    let all = c.all.ensures (month_of day) (omega (arith, most)) in
    absurd cc

pub returns-then-not-is_empty-clause-listed : goal.returns-then-not-is_empty-clause-listed
returns-then-not-is_empty-clause-listed c = λ day there.
    let most = month_of-last day in
    let has : has_number c.args.rule.now.by_month (month_of day) ≡ true = sym (c.numbers_of.ensures (month_of day) (omega (arith, most))) ∙ there in
    let some : is_empty c.args.rule.now.by_month ≡ false = search rules in
    ap (λ b. if b then true else has_number c.args.rule.now.by_month (month_of day)) some ∙ has
