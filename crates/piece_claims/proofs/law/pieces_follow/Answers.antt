use Rattle.piece_claims.proofs.EntryLemmas.{all_known, all_live, entry_leaves, live_are, others_live}
use Rattle.piece_claims.proofs.law.pieces_follow.Goals as goal

pub returns : goal.returns
returns c = record { shown = live_are; all = all_live; ended = others_live; added = entry_leaves; known = all_known }
