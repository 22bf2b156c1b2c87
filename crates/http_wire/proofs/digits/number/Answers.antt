use Rattle.std.proofs.Common.{arith}
use Rattle.http_wire.proofs.DigitLemmas.{fits_room}
use Rattle.http_wire.proofs.digits.number.Goals as goal

pub overflow_mul-number : goal.overflow_mul-number
overflow_mul-number c =
    omega (arith, fits_room c.args.base c.digits.number 0 c.digits.place c.args.most c.requires.base c.requires.room (omega (arith, c.digits-test.true, c.if-digits-most.false)) c.digits.invariant.fits (omega (arith, c.requires.base)))

pub overflow_add-number : goal.overflow_add-number
overflow_add-number c =
    omega (arith, fits_room c.args.base c.digits.number c.in-Some.digit c.digits.place c.args.most c.requires.base c.requires.room (omega (arith, c.digits-test.true, c.if-digits-most.false)) c.digits.invariant.fits c.in-Some.ensures.below)
