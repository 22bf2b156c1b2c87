use Rattle.std.proofs.Common.{◌+◌, arith, []}
use Rattle.std.proofs.lemmas.List.{length-take}
use Rattle.cal_base.proofs.World.Taking.{Goes-more, Goes-then, Goes-up_to}
use Rattle.cal_base.proofs.read_whole.read_all.Goals as goal

pub returns-in_err-take_piece-clause-taken : goal.returns-in_err-take_piece-clause-taken
returns-in_err-take_piece-clause-taken g c =
    Goes-then (c.args.limit + 1) _ _ _ _ _ c.reading.invariant.goes c.take_piece.ensures.taken
    (omega (arith, length-take c.wanted-room.result c.reading.piece))

pub returns-then-limit-len-clause-taken : goal.returns-then-limit-len-clause-taken
returns-then-limit-len-clause-taken g c =
    Goes-up_to (c.args.limit + 1) _ _ _ (Goes-more _ _ _ [] _ _ c.reading.invariant.goes c.in_ok-take_piece.ensures.goes)
    (omega (arith, length-take c.wanted-room.result c.reading.piece, c.in_ok-take_piece.ensures.longer, c.in_ok-take_piece.ensures.within))
