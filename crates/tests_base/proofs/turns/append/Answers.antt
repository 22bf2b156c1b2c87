use Rattle.std.proofs.Common.{◌∷◌, [], refl, sym, ◌∙◌}
use Rattle.std.proofs.lemmas.List.{append-nil}
use Rattle.tests_base.proofs.turns.append.Goals as goal

pub returns-in-Ok : goal.returns-in-Ok
returns-in-Ok c = ((c.args.number, c.args.item) ∷ [], c.in-Ok.ensures.ok, (refl, tt))

pub returns-in-Err : goal.returns-in-Err
returns-in-Err c = ([], c.in-Err.ensures.err ∙ sym (append-nil c.args.value.now.all), tt)
