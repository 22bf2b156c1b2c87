use Rattle.std.proofs.Common.{ap, ◌∙◌}
use Rattle.std.specs.Prelude.{reverse}
use Rattle.httparse.specs.Grammar.{skip_ows, trim_ows}
use Rattle.cal_model.proofs.cuts.trimmed.Goals as goal

pub returns : goal.returns
unfolding trim_ows
returns c = c.without_blanks_behind.ensures ∙ ap (λ t. reverse (skip_ows (reverse t))) c.without_blanks_before.ensures
