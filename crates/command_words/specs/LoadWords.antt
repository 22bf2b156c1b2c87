-- The words of the command `load`: which it takes, and what its options say.
use Rattle.std.specs.Prelude.{◌≡◌, ℕ, List, [], codes, unwrap_or, Some}
use Rattle.clap.specs.Words.{App, Rule, Text, fault_of, first_of, matches_of, new_app, with_rule}
use Rattle.clap.specs.declared.builder.value_parser.ValueParser.TheVariants.{Unsigned}
use Rattle.command_words.specs.LoadSaid.{ArePlain}
use Rattle.command_words.specs.Options.{needed, number, number_said, with_version}

-- the option that has to be given: how many events each session puts
abbrev pub puts_rule : Rule
puts_rule = record (needed (codes "number")) { parser = Some (Unsigned 1 800) }

-- the command; unfoldable, so that no goal computes it
unfoldable pub load : App
load =
    with_rule (with_rule (with_rule (with_version (new_app (codes "load")))
    puts_rule)
    (number (codes "sessions") 1 16 (codes "4")))
    (number (codes "workers") 0 4 (codes "2"))

-- the text of an option in words that the library takes
abbrev pub option_text : Text → List Text → Text
option_text name words = unwrap_or (first_of name (matches_of load words)) []

-- the command takes the words: the library does, and each number is plain
abbrev pub TakesLoad : List Text → Type 0
TakesLoad words = (fault_of load words ≡ []) × ArePlain (option_text (codes "number") words) (option_text (codes "sessions") words) (option_text (codes "workers") words)

-- how many events each session puts, how many sessions there are, and how many workers
abbrev pub puts : List Text → ℕ
puts words = number_said 1 800 1 (option_text (codes "number") words)

abbrev pub sessions : List Text → ℕ
sessions words = number_said 1 16 4 (option_text (codes "sessions") words)

abbrev pub workers : List Text → ℕ
workers words = number_said 0 4 2 (option_text (codes "workers") words)
