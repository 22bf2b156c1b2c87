use Rattle.command_words.proofs.Numbers.{said_none, said_number}
use Rattle.command_words.proofs.options.number_said.Goals as goal

pub returns-then-number-high-clause-said : goal.returns-then-number-high-clause-said
returns-then-number-high-clause-said c =
    said_number c.args.low c.args.high c.args.other c.in-Ok.number c.args.text.now c.in-Ok.ensures.value.0 c.if-low-number.true c.if-number-high.true

pub returns-in-Err-clause-said : goal.returns-in-Err-clause-said
returns-in-Err-clause-said c = said_none c.args.low c.args.high c.args.other c.args.text.now c.in-Err.ensures.value.0
