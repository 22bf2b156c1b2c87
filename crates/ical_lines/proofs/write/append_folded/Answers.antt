use Rattle.std.proofs.Common.{arith}
use Rattle.std.proofs.lemmas.Grind.{common_steps}
use Rattle.ical_lines.proofs.Folding.{folded-chars_whole}
use Rattle.ical_lines.proofs.write.append_folded.Goals as goal

pub returns-clause-ok : goal.returns-clause-ok
returns-clause-ok c =
    let last = folded-chars_whole c.folds.rest.now c.folds.room c.folds.invariant.utf8 (omega arith) in
    grind (arith, common_steps, last, c.extend_from_slice-3.ensures.ok, c.folds.invariant.appended)
