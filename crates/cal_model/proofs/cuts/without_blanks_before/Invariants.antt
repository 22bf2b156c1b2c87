use Rattle.std.proofs.Common.{◌≡◌, length}
use Rattle.httparse.specs.Grammar.{skip_ows}
use Rattle.cal_model.proofs.cuts.without_blanks_before.Given as goal

abbrev pub invariant-blanks : goal.invariant-blanks
invariant-blanks l = skip_ows l.rest ≡ skip_ows l.text

abbrev pub decreases-blanks : goal.decreases-blanks
decreases-blanks l = length l.rest
