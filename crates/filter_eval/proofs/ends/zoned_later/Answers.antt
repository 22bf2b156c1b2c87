use Rattle.std.proofs.Common.{◌≤◌, length, arith}
use Rattle.std.proofs.lemmas.Int.{ints}
use Rattle.filter_eval.proofs.EffectiveEnds.{missing_zone}
use Rattle.filter_eval.proofs.ends.zoned_later.Goals as goal

pub returns-in-None-clause-value : goal.returns-in-None-clause-value
returns-in-None-clause-value c =
    let gone : length c.args.zones.now ≤ c.args.number = omega (arith, c.in-None.ensures) in
    let later = missing_zone c.args.zones.now c.args.number c.args.digits c.args.later gone in
    omega (arith, ints, later)
