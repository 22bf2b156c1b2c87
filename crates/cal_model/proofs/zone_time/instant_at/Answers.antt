use Rattle.std.proofs.Common.{rules, to_z-of_z, FitsSigned, w64, inl}
use Rattle.cal_model.proofs.Conversions.StretchLemmas.{IsLeastInstant-stretch, IsSkipped-stretches}
use Rattle.cal_model.proofs.zone_time.instant_at.Goals as goal

pub after_gap-requires-clause-skipped : goal.after_gap-requires-clause-skipped
after_gap-requires-clause-skipped c =
    let fits : FitsSigned w64 c.args.local = search rules in
    let none = rw (to_z-of_z fits) at c.in-None.ensures.none in
    rw (to_z-of_z fits) (IsSkipped-stretches c.args.table.now c.args.local c.requires.table.rising none)

pub returns-in-Some : goal.returns-in-Some
returns-in-Some c =
    let fits : FitsSigned w64 c.args.local = search rules in
    let result_fits : FitsSigned w64 c.instant_by.result = search (rules, c.instant_by.type_inv) in
    let there = rw (to_z-of_z fits) at c.in-Some.ensures.there in
    let first = rw (to_z-of_z fits) at c.in-Some.ensures.first in
    let made = rw (to_z-of_z fits) at c.instant_by.ensures in
    let least = IsLeastInstant-stretch c.args.table.now c.args.local c.in-Some.k c.requires.table.rising c.in-Some.ensures.within there first in
    rw (to_z-of_z result_fits, made) (inl least)

pub returns-in-None : goal.returns-in-None
returns-in-None c =
    let fits : FitsSigned w64 c.args.local = search rules in
    let result_fits : FitsSigned w64 c.after_gap.result = search (rules, c.after_gap.type_inv) in
    let made = rw (to_z-of_z fits) at c.after_gap.ensures in
    rw (to_z-of_z result_fits) made
