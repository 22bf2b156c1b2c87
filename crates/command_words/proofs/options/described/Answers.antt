use Rattle.std.proofs.Common.{◌∙◌, ap}
use Rattle.clap.specs.Simple.{App, app_of_fields}
use Rattle.command_words.specs.Options.{with_version}
use Rattle.command_words.proofs.options.described.Goals as goal

pub returns : goal.returns
returns c =
    ap app_of_fields c.version.ensures
    ∙ ap (λ (a : App). with_version a) (ap app_of_fields c.about.ensures ∙ c.new.ensures.app)
