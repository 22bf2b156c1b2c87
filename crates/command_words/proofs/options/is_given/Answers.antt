use Rattle.std.proofs.Common.{◌∙◌}
use Rattle.command_words.proofs.JournalLaws.{given}
use Rattle.command_words.proofs.options.is_given.Goals as goal

pub returns : goal.returns
returns c = c.is_some.ensures ∙ given c.get_str.result _ c.get_str.ensures
