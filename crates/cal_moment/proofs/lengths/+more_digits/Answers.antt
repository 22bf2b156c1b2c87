use Rattle.cal_moment.proofs.CountLemmas.{goes_on}
use Rattle.cal_moment.proofs.lengths.+more_digits.Goals as goal

pub returns-in-Some : goal.returns-in-Some
returns-in-Some t c =
    let next = c.from.ensures in
    rw c.in-Some.ensures.some.1
    (goes_on c.args.width c.args.value c.in-Some.next c.more_digits.result.0 c.in-Some.rest.now c.more_digits.result.1.now c.in-Some.ensures.some.0 c.requires.fits (rw next at c.more_digits.ensures))
