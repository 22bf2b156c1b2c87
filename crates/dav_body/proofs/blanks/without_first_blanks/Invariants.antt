use Rattle.std.proofs.Common.{◌≡◌, length}
use Rattle.cal_base.specs.Xml.XmlMarkup.{without_first_blanks}
use Rattle.dav_body.proofs.blanks.without_first_blanks.Given as goal

abbrev pub invariant-blanks : goal.invariant-blanks
invariant-blanks l = without_first_blanks l.rest ≡ without_first_blanks l.text

abbrev pub decreases-blanks : goal.decreases-blanks
decreases-blanks l = length l.rest
