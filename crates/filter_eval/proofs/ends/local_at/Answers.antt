use Rattle.std.proofs.Common.{arith, rules, FitsSigned, w64, to_z-of_z}
use Rattle.std.proofs.lemmas.Int.{ints}
use Rattle.cal_model.proofs.TimeZones.NearTimes.{offset_at-near, HasShortOffsets-table}
use Rattle.filter_eval.proofs.ends.local_at.Goals as goal

pub returns-clause-near : goal.returns-clause-near
returns-clause-near c =
    let fits : FitsSigned w64 c.args.instant = search rules in
    let at = simp to_z-of_z at c.offset_at.ensures.value in
    let near = offset_at-near c.args.zone.now c.args.instant (HasShortOffsets-table c.args.zone.now c.requires.zone) in
    (omega (arith, ints, at, near), omega (arith, ints, at, near))
