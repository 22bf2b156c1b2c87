use Rattle.std.proofs.Common.{◌∙◌, ap₂}
use Rattle.clap.specs.Words.{with_rule}
use Rattle.command_words.specs.CheckWords.{check}
use Rattle.command_words.proofs.check_words.check_command.Goals as goal

pub returns : goal.returns
unfolding check
returns c = c.in_ok-command-2.ensures ∙ ap₂ with_rule (c.with_notes.ensures ∙ c.in_ok-command.ensures) c.file_option.ensures.rule
