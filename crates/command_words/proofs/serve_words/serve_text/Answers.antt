use Rattle.command_words.proofs.WordLaws.{asked, simple_made}
use Rattle.command_words.proofs.serve_words.serve_text.Goals as goal

pub returns-clause-untaken : goal.returns-clause-untaken
returns-clause-untaken c =
    asked _ c.args.words.now c.in-Err.error c.asked_text.result c.in-Ok.ensures (c.in-Err.ensures.kinds (simple_made _ c.in-Ok.ensures)) c.asked_text.ensures.asked
