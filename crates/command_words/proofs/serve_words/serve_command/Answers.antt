use Rattle.std.proofs.Common.{◌∙◌, ap₂}
use Rattle.clap.specs.Words.{with_rule}
use Rattle.command_words.specs.ServeWords.{serve}
use Rattle.command_words.proofs.serve_words.serve_command.Goals as goal

pub returns : goal.returns
unfolding serve
returns c =
    let one = c.in_ok-command-2.ensures ∙ ap₂ with_rule c.in_ok-command.ensures c.users_option.ensures.rule in
    let two = c.in_ok-command-3.ensures ∙ ap₂ with_rule one c.listen_option.ensures.rule in
    let three = c.in_ok-command-4.ensures ∙ ap₂ with_rule two c.journal_option.ensures.rule in
    let four = c.in_ok-command-5.ensures ∙ ap₂ with_rule three c.sessions_option.ensures.rule in
    let five = c.in_ok-command-6.ensures ∙ ap₂ with_rule four c.workers_option.ensures.rule in
    c.in_ok-command-7.ensures ∙ ap₂ with_rule five c.connections_option.ensures.rule
