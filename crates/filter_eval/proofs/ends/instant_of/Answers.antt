use Rattle.std.proofs.Common.{arith, rules, FitsSigned, w64, to_z-of_z}
use Rattle.std.proofs.lemmas.Int.{ints}
use Rattle.filter_eval.proofs.EffectiveEnds.{instant_near}
use Rattle.filter_eval.proofs.ends.instant_of.Goals as goal

pub returns-then-digits-lt-FAR-clause-near : goal.returns-then-digits-lt-FAR-clause-near
returns-then-digits-lt-FAR-clause-near c =
    let fits : FitsSigned w64 c.args.digits = search rules in
    let near = instant_near c.args.zone.now c.args.digits c.requires.zone in
    let local = simp to_z-of_z at c.local_of.ensures.value in
    let value = rw local at c.to_utc.ensures.value in
    (omega (arith, ints, near, value), omega (arith, ints, near, value))

pub returns-else-digits-clause-near : goal.returns-else-digits-clause-near
returns-else-digits-clause-near c =
    let fits : FitsSigned w64 c.args.digits = search rules in
    let near = instant_near c.args.zone.now c.args.digits c.requires.zone in
    let value = simp to_z-of_z at c.far_instant.ensures in
    (omega (arith, ints, near, value), omega (arith, ints, near, value))
