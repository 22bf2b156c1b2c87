use Rattle.std.proofs.Common.{arith, to_z, of_z, w32}
use Rattle.std.specs.Prelude.{pos, ◌+ℤ◌}
use Rattle.piece_claims.proofs.CountLemmas.{one_more_within}
use Rattle.piece_claims.proofs.counts.count.Goals as goal

pub add_object-requires-clause-fits : goal.add_object-requires-clause-fits
add_object-requires-clause-fits c k below =
    let so_far = c.loop-origin.invariant k below in
    let more = one_more_within c.loop-origin.origin (to_z w32 (of_z w32 c.args.first) +ℤ pos k) c.args.index.now.pieces c.requires.apart in
    let few = c.requires.few in
    omega (arith, so_far, more, few)
