use Rattle.piece_claims.proofs.EntryLemmas.{all_right_with, found_with}
use Rattle.piece_claims.proofs.law.publication_is_right.Goals as goal

pub returns : goal.returns
returns c = record { right = all_right_with; found = found_with }
