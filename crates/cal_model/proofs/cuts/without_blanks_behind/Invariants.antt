use Rattle.std.proofs.Common.{◌≡◌, length}
use Rattle.std.specs.Prelude.{reverse}
use Rattle.httparse.specs.Grammar.{skip_ows}
use Rattle.cal_model.proofs.cuts.without_blanks_behind.Given as goal

abbrev pub invariant-blanks : goal.invariant-blanks
invariant-blanks l = reverse (skip_ows (reverse l.rest)) ≡ reverse (skip_ows (reverse l.text))

abbrev pub decreases-blanks : goal.decreases-blanks
decreases-blanks l = length l.rest
