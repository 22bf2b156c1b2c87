use Rattle.command_words.specs.CheckWords.{check}
use Rattle.command_words.proofs.CommandLaws.{asked}
use Rattle.command_words.proofs.CheckWordLaws.{simple_made}
use Rattle.command_words.proofs.check_words.check_text.Goals as goal

pub returns-clause-untaken : goal.returns-clause-untaken
returns-clause-untaken c =
    asked check _ c.args.words.now c.in-Err.error c.asked_text.result c.in-Ok.ensures (c.in-Err.ensures.kinds (simple_made _ c.in-Ok.ensures)) c.asked_text.ensures.asked
