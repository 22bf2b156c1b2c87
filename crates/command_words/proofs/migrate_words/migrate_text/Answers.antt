use Rattle.command_words.specs.MigrateWords.{migrate}
use Rattle.command_words.proofs.CommandLaws.{asked}
use Rattle.command_words.proofs.MigrateWordLaws.{not_asked, simple_made}
use Rattle.command_words.proofs.migrate_words.migrate_text.Goals as goal

pub returns-clause-untaken : goal.returns-clause-untaken
returns-clause-untaken c =
    not_asked c.args.words.now c.asked_text.result
    (asked migrate _ c.args.words.now c.in-Err.error c.asked_text.result c.in-Ok.ensures (c.in-Err.ensures.kinds (simple_made _ c.in-Ok.ensures)) c.asked_text.ensures.asked)
