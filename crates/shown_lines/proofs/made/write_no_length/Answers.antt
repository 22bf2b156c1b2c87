use Rattle.std.proofs.Common.{refl, rules}
use Rattle.std.specs.Prelude.{codes}
use Rattle.shown_lines.proofs.CleanTexts.{clean-plain}
use Rattle.shown_lines.proofs.LineHeads.{head-name}
use Rattle.shown_lines.proofs.made.write_no_length.Goals as goal

pub write_made-requires-clause-header : goal.write_made-requires-clause-header
write_made-requires-clause-header c = (codes "DURATION", c.in_ok-header.ensures, head-name (codes "DURATION") refl)

pub write_made-requires-clause-value : goal.write_made-requires-clause-value
write_made-requires-clause-value c = clean-plain (codes "PT0S") (search rules)
