use Rattle.std.proofs.Common.{rules, to_z-of_z, FitsSigned, w64}
use Rattle.cal_model.proofs.Conversions.StretchLemmas.{IsInstantOf-first_past, some_leads_past}
use Rattle.cal_model.proofs.zone_time.after_gap.Goals as goal

pub returns-in-Some : goal.returns-in-Some
returns-in-Some c =
    let fits : FitsSigned w64 c.args.local = search rules in
    let result_fits : FitsSigned w64 c.instant_by.result = search (rules, c.instant_by.type_inv) in
    let within = c.in-Some.ensures.within in
    let there = rw (to_z-of_z fits) at c.in-Some.ensures.there in
    let first = rw (to_z-of_z fits) at c.in-Some.ensures.first in
    let made = rw (to_z-of_z fits) at c.instant_by.ensures in
    rw (to_z-of_z result_fits, made) (IsInstantOf-first_past c.args.table.now c.args.local c.in-Some.gap c.requires.table.rising c.requires.skipped within there first)

pub returns-in-None : goal.returns-in-None
returns-in-None c =
    let fits : FitsSigned w64 c.args.local = search rules in
    let none = rw (to_z-of_z fits) at c.in-None.ensures.none in
    absurd (some_leads_past c.args.table.now c.args.local c.requires.table.rising c.requires.skipped none)
