use Rattle.std.proofs.Common.{◌++◌, sym, ap, ◌∙◌}
use Rattle.dav_write.proofs.Appending.{on_ok_then}
use Rattle.dav_props.proofs.PieceLemmas.{bits_are}
use Rattle.dav_props.proofs.privileges_held.push_privileges.Goals as goal

pub returns-clause-text : goal.returns-clause-text
returns-clause-text c = on_ok_then c.push_bits.result (λ written. written ∙ ap (λ text. c.args.out.now ++ text) (sym (bits_are c.args.set))) c.push_bits.ensures.text
