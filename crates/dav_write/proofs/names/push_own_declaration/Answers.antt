use Rattle.std.proofs.Common.{◌++◌, sym, ap, ◌∙◌, append-nil}
use Rattle.dav_write.proofs.Appending.{on_ok_then}
use Rattle.dav_write.proofs.ElementLemmas.{own_declaration-known, own_declaration-other}
use Rattle.dav_write.proofs.names.push_own_declaration.Goals as goal

pub returns-in-Some-clause-text : goal.returns-in-Some-clause-text
returns-in-Some-clause-text c = sym (ap (λ text. c.args.out.now ++ text) (own_declaration-known c.args.space.now _ (sym c.in-Some.ensures)) ∙ append-nil c.args.out.now)

pub returns-in-None-clause-text : goal.returns-in-None-clause-text
returns-in-None-clause-text c =
    on_ok_then c.push_declaration.result (λ written. written ∙ ap (λ text. c.args.out.now ++ text) (sym (own_declaration-other c.args.space.now (sym c.in-None.ensures)))) c.push_declaration.ensures.text
