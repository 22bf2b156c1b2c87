use Rattle.piece_claims.proofs.EntryLemmas.{entry_shown}
use Rattle.piece_claims.proofs.law.entry_is_shown.Goals as goal

pub returns : goal.returns
returns c old new work entry shows has_entry = entry_shown old new work entry shows has_entry
