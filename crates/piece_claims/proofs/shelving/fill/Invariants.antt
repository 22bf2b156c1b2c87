use Rattle.piece_claims.specs.Shelved.{IsFilled}
use Rattle.piece_claims.proofs.shelving.fill.Given as goal

abbrev pub invariant-loop-origin : goal.invariant-loop-origin
invariant-loop-origin l = IsFilled l.origin l.index.pieces l.shelf
