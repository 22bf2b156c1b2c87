use Rattle.command_words.specs.SlotWords.{slot}
use Rattle.command_words.proofs.CommandLaws.{asked}
use Rattle.command_words.proofs.SlotWordLaws.{not_asked, simple_made}
use Rattle.command_words.proofs.slot_words.slot_text.Goals as goal

pub returns-clause-untaken : goal.returns-clause-untaken
returns-clause-untaken c =
    not_asked c.args.words.now c.asked_text.result
    (asked slot _ c.args.words.now c.in-Err.error c.asked_text.result c.in-Ok.ensures (c.in-Err.ensures.kinds (simple_made _ c.in-Ok.ensures)) c.asked_text.ensures.asked)
