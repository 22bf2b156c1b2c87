use Rattle.std.proofs.Common.{◌∙◌, ap₂}
use Rattle.clap.specs.Words.{with_rule}
use Rattle.command_words.specs.MigrateWords.{migrate}
use Rattle.command_words.proofs.migrate_words.migrate_command.Goals as goal

pub returns : goal.returns
unfolding migrate
returns c =
    let one = c.in_ok-command-2.ensures ∙ ap₂ with_rule (c.with_notes.ensures ∙ c.in_ok-command.ensures) c.users_option.ensures.rule in
    let two = c.in_ok-command-3.ensures ∙ ap₂ with_rule one c.journal_option.ensures.rule in
    let three = c.in_ok-command-4.ensures ∙ ap₂ with_rule two c.new_users_option.ensures.rule in
    c.in_ok-command-5.ensures ∙ ap₂ with_rule three c.to_option.ensures.rule
