use Rattle.std.proofs.Common.{◌∙◌, ap₂}
use Rattle.clap.specs.Words.{with_rule}
use Rattle.command_words.specs.ExpandWords.{expand}
use Rattle.command_words.proofs.expand_words.expand_command.Goals as goal

pub returns : goal.returns
unfolding expand
returns c =
    let one = c.in_ok-command-2.ensures ∙ ap₂ with_rule (c.with_notes.ensures ∙ c.in_ok-command.ensures) c.file_option.ensures.rule in
    let two = c.in_ok-command-3.ensures ∙ ap₂ with_rule one c.from_option.ensures.rule in
    let three = c.in_ok-command-4.ensures ∙ ap₂ with_rule two c.to_option.ensures.rule in
    c.in_ok-command-5.ensures ∙ ap₂ with_rule three c.zone_option.ensures.rule
