use Rattle.std.proofs.Common.{inr, subst}
use Rattle.command_words.specs.ServeWords.{TakesServe}
use Rattle.caldav_server.proofs.serve.run_serve.Goals as goal

pub returns-in-Ok-clause-words_taken : goal.returns-in-Ok-clause-words_taken
returns-in-Ok-clause-words_taken g c = inr (inr (subst TakesServe c.as_slice.ensures c.in-Ok.ensures.taken))
