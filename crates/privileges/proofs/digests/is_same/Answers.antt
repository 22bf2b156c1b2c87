use Rattle.std.proofs.Common.{arith, ◌∙◌, sym}
use Rattle.privileges.proofs.DigestSteps.{Tells-more, bytes_eq-tells}
use Rattle.privileges.proofs.digests.is_same.Goals as goal

pub loop-place-preserved : goal.loop-place-preserved
loop-place-preserved c = Tells-more c.loop-place.difference c.loop-place.place c.args.digest.now c.args.other.now c.loop-place.invariant

pub returns : goal.returns
returns c =
    bytes_eq-tells c.loop-place.difference c.loop-place.place c.args.digest.now c.args.other.now (c.told-digest ∙ sym c.told-other) (omega arith) c.loop-place.invariant
