-- The words of the command `slot`: which it takes, and what its options say.
use Rattle.std.specs.Prelude.{◌≡◌, ℕ, List, [], codes, true, unwrap_or, Option, Some, IsSome}
use Rattle.clap.specs.Words.{App, Rule, Text, all_of, fault_of, first_of, matches_of, new_app, new_rule, with_rule}
use Rattle.clap.specs.declared.builder.value_parser.ValueParser.TheVariants.{Unsigned}
use Rattle.cal_model.specs.declared.row.Range.{Range}
use Rattle.command_words.specs.Options.{IsPlain, needed, number_said, with_version}
use Rattle.command_words.specs.RangeSaid.{range_said}

-- an option that has to be given, and is a number between two
abbrev pub needed_number : Text → ℕ → ℕ → Rule
needed_number name low high = record (needed name) { parser = Some (Unsigned low high) }

-- the paths behind the options: 1 to 32
abbrev pub paths_rule : Rule
paths_rule = record (new_rule (codes "path")) { range = Some (record { start_inclusive = 1; end_inclusive = 32 }); value_names = 1; required = true }

-- the command with the options that name files and the user
abbrev pub files : App
files =
    with_rule (with_rule (with_rule (with_version (new_app (codes "slot")))
    (needed (codes "users")))
    (needed (codes "journal")))
    (needed (codes "as"))

-- the command; unfoldable, so that no goal computes it
unfoldable pub slot : App
slot =
    with_rule (with_rule (with_rule (with_rule (with_rule files
    (needed (codes "from")))
    (needed (codes "to")))
    (needed_number (codes "minutes") 1 100_000))
    (needed_number (codes "most") 1 100))
    paths_rule

-- the text of an option in words that the library takes
abbrev pub option_text : Text → List Text → Text
option_text name words = unwrap_or (first_of name (matches_of slot words)) []

abbrev pub users_path : List Text → Text
users_path words = option_text (codes "users") words

abbrev pub journal_file : List Text → Text
journal_file words = option_text (codes "journal") words

-- the name of the user who looks
abbrev pub user : List Text → Text
user words = option_text (codes "as") words

abbrev pub range_of_words : List Text → Option Range
range_of_words words = range_said (option_text (codes "from") words) (option_text (codes "to") words)

-- how many minutes a free time has at least, and how many are asked for
abbrev pub minutes : List Text → ℕ
minutes words = number_said 1 100_000 1 (option_text (codes "minutes") words)

abbrev pub most : List Text → ℕ
most words = number_said 1 100 1 (option_text (codes "most") words)

-- the paths of the calendars, in the order in which they stand
abbrev pub paths : List Text → List Text
paths words = unwrap_or (all_of (codes "path") (matches_of slot words)) []

-- The command takes the words: the library does, both numbers are plain, and the two moments state a range.
abbrev pub TakesSlot : List Text → Type 0
TakesSlot words =
    (fault_of slot words ≡ [])
    × IsPlain (option_text (codes "minutes") words) × IsPlain (option_text (codes "most") words)
    × IsSome (range_of_words words)
