-- The words of the command `check`: which it takes, and the file that they name.
use Rattle.std.specs.Prelude.{◌≡◌, List, [], codes, unwrap_or}
use Rattle.clap.specs.Words.{App, Text, fault_of, first_of, matches_of, new_app, with_rule}
use Rattle.command_words.specs.Options.{needed, with_version}

-- the command; unfoldable, so that no goal computes it
unfoldable pub check : App
check = with_rule (with_version (new_app (codes "check"))) (needed (codes "file"))

-- the command takes the words: the library does
abbrev pub TakesCheck : List Text → Type 0
TakesCheck words = fault_of check words ≡ []

abbrev pub file_path : List Text → Text
file_path words = unwrap_or (first_of (codes "file") (matches_of check words)) []
