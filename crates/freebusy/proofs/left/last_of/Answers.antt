use Rattle.std.proofs.Common.{rules, arith, ◌≡◌, ◌-◌, pos, w64, to_z, of_z}
use Rattle.freebusy.proofs.Passed.{last_of_some}
use Rattle.freebusy.proofs.left.last_of.Goals as goal

pub returns : goal.returns
returns c =
    let last : to_z w64 (of_z w64 c.max.result) ≡ c.max.result = search (rules, c.max.type_inv) in
    let least : to_z w64 (of_z w64 c.args.least) ≡ c.args.least = search rules in
    let moment : to_z w64 (of_z w64 c.moment_at.result) ≡ c.moment_at.result = search (rules, c.moment_at.type_inv) in
    rw last (last_of_some c.args.moments.now c.args.count (c.args.count - 1) c.moment_at.result c.args.least c.max.result (pos 0) c.requires.rising c.requires.bound (omega (arith, c.if-count-eq0.false)) c.moment_at.ensures
    (rw (moment, least) at c.max.ensures.value))
