use Rattle.std.proofs.lemmas.Fn.{filter_same}
use Rattle.std.proofs.Common.{rules}
use Rattle.std.specs.Prelude.{not, ℕ, ℤ}
use Rattle.piece_claims.specs.Out.{is_pair}
use Rattle.piece_claims.proofs.claimed.end.Goals as goal

pub returns-clause-pairs : goal.returns-clause-pairs
returns-clause-pairs c = filter_same _ (λ (p : ℕ × ℤ). not (is_pair c.args.origin c.args.window p)) _ (λ x b f h. search rules) _ _ c.retain.ensures.filtered
