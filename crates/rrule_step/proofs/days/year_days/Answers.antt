use Rattle.std.proofs.Common.{◌≡◌, ◌+◌, ◌∙◌, sym, ap, rules, arith, true, false}
use Rattle.std.specs.Prelude.{if◌then◌else◌}
use Rattle.cal_moment.specs.Calendar.{is_leap, year_length}
use Rattle.rrule_step.proofs.MonthLemmas.{day_in_year, size_bound, year_day_at}
use Rattle.rrule_step.proofs.days.year_days.Goals as goal

pub marked_days-requires-clause-within : goal.marked_days-requires-clause-within
marked_days-requires-clause-within c = let bound = size_bound c.args.month.now in omega (arith, bound, c.days_before_month-before.ensures.bound)

pub returns-then-is_leap : goal.returns-then-is_leap
returns-then-is_leap c = λ i lt.
    let month = c.args.month.now in
    let before = c.days_before_month-before.result in
    let leap : is_leap month.year ≡ true = sym c.is_leap.ensures ∙ c.if-is_leap.true in
    let long : 366 ≡ year_length month.year = sym (ap (λ b. if b then 366 else 365) leap) in
    let inside = day_in_year month i lt in
    let here = c.days_before_month-before.ensures.value in
    c.marked_days.ensures i lt
    ∙ (c.requires.days.of_366 (before + i) (omega (arith, inside, here, long)) ∙ year_day_at month i lt c.args.rule.now before 366 (search rules) here long)

pub returns-else-is_leap : goal.returns-else-is_leap
returns-else-is_leap c = λ i lt.
    let month = c.args.month.now in
    let before = c.days_before_month-before.result in
    let plain : is_leap month.year ≡ false = sym c.is_leap.ensures ∙ c.if-is_leap.false in
    let long : 365 ≡ year_length month.year = sym (ap (λ b. if b then 366 else 365) plain) in
    let inside = day_in_year month i lt in
    let here = c.days_before_month-before.ensures.value in
    c.marked_days-else-is_leap.ensures i lt
    ∙ (c.requires.days.of_365 (before + i) (omega (arith, inside, here, long)) ∙ year_day_at month i lt c.args.rule.now before 365 (search rules) here long)
