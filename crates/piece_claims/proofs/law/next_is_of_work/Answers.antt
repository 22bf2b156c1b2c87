use Rattle.piece_claims.proofs.LawLemmas.{next_over_flags}
use Rattle.piece_claims.proofs.law.next_is_of_work.Goals as goal

pub returns : goal.returns
returns c board work shows = next_over_flags board work shows
