use Rattle.std.proofs.Common.{◌∙◌, ap₂}
use Rattle.clap.specs.Words.{with_rule}
use Rattle.command_words.specs.SlotWords.{slot}
use Rattle.command_words.proofs.slot_words.slot_command.Goals as goal

pub returns : goal.returns
unfolding slot
returns c =
    let one = c.in_ok-command-2.ensures ∙ ap₂ with_rule c.in_ok-command.ensures c.from_option.ensures.rule in
    let two = c.in_ok-command-3.ensures ∙ ap₂ with_rule one c.to_option.ensures.rule in
    let three = c.in_ok-command-4.ensures ∙ ap₂ with_rule two c.minutes_option.ensures.rule in
    let four = c.in_ok-command-5.ensures ∙ ap₂ with_rule three c.most_option.ensures.rule in
    c.in_ok-command-6.ensures ∙ ap₂ with_rule four c.paths_option.ensures.rule
