use Rattle.std.proofs.Common.{◌≡◌, ◌≤◌, length}
use Rattle.cal_base.specs.Xml.XmlMarkup.{without_last_blanks}
use Rattle.dav_body.proofs.blanks.without_last_blanks.Given as goal

abbrev pub invariant-blanks : goal.invariant-blanks
invariant-blanks l = record {
  within : length l.rest ≤ length l.text;
  same : without_last_blanks l.rest ≡ without_last_blanks l.text;
}

abbrev pub decreases-blanks : goal.decreases-blanks
decreases-blanks l = length l.rest
