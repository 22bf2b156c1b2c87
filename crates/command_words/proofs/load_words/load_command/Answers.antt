use Rattle.std.proofs.Common.{◌∙◌, ap₂}
use Rattle.clap.specs.Words.{with_rule}
use Rattle.command_words.specs.LoadWords.{load}
use Rattle.command_words.proofs.load_words.load_command.Goals as goal

pub returns : goal.returns
unfolding load
returns c =
    let one = c.in_ok-command-2.ensures ∙ ap₂ with_rule c.in_ok-command.ensures c.puts_option.ensures.rule in
    let two = c.in_ok-command-3.ensures ∙ ap₂ with_rule one c.sessions_option.ensures.rule in
    c.in_ok-command-4.ensures ∙ ap₂ with_rule two c.workers_option.ensures.rule
