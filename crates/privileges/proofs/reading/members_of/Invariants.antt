use Rattle.std.proofs.Common.{◌≡◌, length}
use Rattle.cal_base.specs.Lines.ContentLines.{pieces}
use Rattle.cal_base.specs.Texts.Octets.{space}
use Rattle.privileges.specs.Marks.{no_marks, with_marks}
use Rattle.privileges.proofs.reading.members_of.Given as goal

abbrev pub invariant-names : goal.invariant-names
invariant-names l = with_marks l.users (pieces space l.text) no_marks ≡ with_marks l.users (pieces space l.rest) l.members

abbrev pub decreases-names : goal.decreases-names
decreases-names l = length l.rest
