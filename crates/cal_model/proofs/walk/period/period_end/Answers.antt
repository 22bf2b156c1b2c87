use Rattle.std.proofs.Common.{◌≡◌, ◌<◌, arith, rules, inl, inr, to_z, of_z, w32}
use Rattle.std.proofs.lemmas.Int.{ints}
use Rattle.cal_moment.specs.Calendar.{day_number}
use Rattle.cal_moment.proofs.CalendarLaws.{year_of-last}
use Rattle.cal_model.specs.declared.rule.Freq.TheVariants.{Yearly}
use Rattle.cal_model.specs.Values.LocalTimes.{moment_of_local}
use Rattle.cal_model.proofs.Walks.DayLemmas.{day_and_second}
use Rattle.cal_model.proofs.Walks.PeriodEnds.{day_behind, month_ends, month_within, year_ends, year_within}
use Rattle.cal_model.proofs.walk.period.period_end.Goals as goal

pub midnight-requires-clause-from : goal.midnight-requires-clause-from
midnight-requires-clause-from c =
    let same : to_z w32 (of_z w32 c.args.m.day) ≡ c.args.m.day = search rules in
    let end = rw same at c.month_end.ensures in
    let from = c.requires.written.from_first in
    let later = day_behind (day_number c.args.m.day) c.month_end.result end in
    omega (arith, ints, from, later)

pub midnight-requires-clause-to : goal.midnight-requires-clause-to
midnight-requires-clause-to c =
    let same : to_z w32 (of_z w32 c.args.m.day) ≡ c.args.m.day = search rules in
    let end = rw same at c.month_end.ensures in
    let early : day_number c.args.m.day < 767740 = omega (arith, c.requires.early) in
    let within = month_within (day_number c.args.m.day) c.month_end.result end early in
    omega (arith, within)

pub returns-in-Monthly-clause-within : goal.returns-in-Monthly-clause-within
returns-in-Monthly-clause-within c =
    let same : to_z w32 (of_z w32 c.args.m.day) ≡ c.args.m.day = search rules in
    let end = rw same at c.month_end.ensures in
    let early : day_number c.args.m.day < 767740 = omega (arith, c.requires.early) in
    let within = month_within (day_number c.args.m.day) c.month_end.result end early in
    rw c.midnight.ensures.value (omega (arith, within))

pub returns-in-Monthly-clause-ends : goal.returns-in-Monthly-clause-ends
returns-in-Monthly-clause-ends c =
    let same : to_z w32 (of_z w32 c.args.m.day) ≡ c.args.m.day = search rules in
    let end = rw same at c.month_end.ensures in
    let on = day_and_second c.args.m c.requires.written in
    month_ends c.args.rule.now (moment_of_local c.args.m) (day_number c.args.m.day) c.month_end.result (moment_of_local c.midnight.result) on.0 c.in-Monthly.is end c.midnight.ensures.value

pub midnight-requires-in_default-clause-from : goal.midnight-requires-in_default-clause-from
midnight-requires-in_default-clause-from c =
    let same : to_z w32 (of_z w32 c.args.m.day) ≡ c.args.m.day = search rules in
    let is = rw same at c.year_end.ensures in
    let from = c.requires.written.from_first in
    let last = year_of-last (day_number c.args.m.day) in
    omega (arith, ints, from, last, is)

pub midnight-requires-in_default-clause-to : goal.midnight-requires-in_default-clause-to
midnight-requires-in_default-clause-to c =
    let same : to_z w32 (of_z w32 c.args.m.day) ≡ c.args.m.day = search rules in
    let is = rw same at c.year_end.ensures in
    let early : day_number c.args.m.day < 767740 = omega (arith, c.requires.early) in
    let within = year_within (day_number c.args.m.day) c.year_end.result early is in
    omega (arith, within)

pub returns-in_default-clause-within : goal.returns-in_default-clause-within
returns-in_default-clause-within c =
    let same : to_z w32 (of_z w32 c.args.m.day) ≡ c.args.m.day = search rules in
    let is = rw same at c.year_end.ensures in
    let early : day_number c.args.m.day < 767740 = omega (arith, c.requires.early) in
    let within = year_within (day_number c.args.m.day) c.year_end.result early is in
    rw c.midnight-in_default.ensures.value (omega (arith, within))

pub returns-in_default-clause-ends : goal.returns-in_default-clause-ends
returns-in_default-clause-ends c =
    let same : to_z w32 (of_z w32 c.args.m.day) ≡ c.args.m.day = search rules in
    let is = rw same at c.year_end.ensures in
    let on = day_and_second c.args.m c.requires.written in
    let yearly : c.args.rule.now.freq ≡ Yearly = elim c.requires.long [ inl e ↦ absurd (c.in_default.not-Monthly e) | inr e ↦ e ] in
    year_ends c.args.rule.now (moment_of_local c.args.m) (day_number c.args.m.day) c.year_end.result (moment_of_local c.midnight-in_default.result) on.0 yearly is c.midnight-in_default.ensures.value
