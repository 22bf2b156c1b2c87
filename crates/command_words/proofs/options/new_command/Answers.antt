use Rattle.std.proofs.Common.{◌∙◌, ap}
use Rattle.clap.specs.Simple.{app_of_fields}
use Rattle.command_words.proofs.options.new_command.Goals as goal

pub returns : goal.returns
returns c =
    ap app_of_fields c.in_ok-command-2.ensures.0
    ∙ (ap app_of_fields c.in_ok-command.ensures.0 ∙ c.described.ensures)
