-- What a parse of the command `check` gives.
use Rattle.std.proofs.Common.{◌≡◌, ◌∙◌, true, refl, ap}
use Rattle.clap.specs.Words.{App, is_simple, is_simple_and_free}
use Rattle.clap.proofs.OnLiterals.{clap_on_literals}
use Rattle.command_words.specs.CheckWords.{check}

simple : is_simple_and_free check ≡ true
unfolding check clap_on_literals
simple = refl

plain : is_simple check ≡ true
unfolding check clap_on_literals
plain = refl

pub simple_made : (a : App) → a ≡ check → is_simple_and_free a ≡ true
simple_made a e = ap is_simple_and_free e ∙ simple

pub plain_made : (a : App) → a ≡ check → is_simple a ≡ true
plain_made a e = ap is_simple e ∙ plain
