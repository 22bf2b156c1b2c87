use Rattle.std.proofs.Common.{sym}
use Rattle.std.proofs.lemmas.List.{take_rest}
use Rattle.privileges.proofs.Cuts.{pieces-found, pieces-whole}
use Rattle.privileges.proofs.lines.cut.Goals as goal

pub returns-in-Some-clause-pieces : goal.returns-in-Some-clause-pieces
returns-in-Some-clause-pieces c = rw take_rest (pieces-found c.args.separator c.args.text.now c.in-Some.place (sym c.in-Some.ensures))

pub returns-in-None-clause-pieces : goal.returns-in-None-clause-pieces
returns-in-None-clause-pieces c = pieces-whole c.args.separator c.args.text.now (sym c.in-None.ensures)
