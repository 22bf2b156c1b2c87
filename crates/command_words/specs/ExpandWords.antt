-- The words of the command `expand`: which it takes, and what its options say.
use Rattle.std.specs.Prelude.{◌≡◌, List, [], codes, unwrap_or, Option, Some, IsSome}
use Rattle.clap.specs.Words.{App, Rule, Text, fault_of, first_of, matches_of, new_app, new_rule, with_rule}
use Rattle.cal_model.specs.declared.row.Range.{Range}
use Rattle.command_words.specs.Options.{needed, with_version}
use Rattle.command_words.specs.RangeSaid.{range_said}

-- an option that may be given
abbrev pub given : Text → Rule
given name = record (new_rule name) { long = Some name; value_names = 1 }

-- the command; unfoldable, so that no goal computes it
unfoldable pub expand : App
expand =
    with_rule (with_rule (with_rule (with_rule (with_version (new_app (codes "expand")))
    (needed (codes "file")))
    (needed (codes "from")))
    (needed (codes "to")))
    (given (codes "zone"))

-- the text of an option in words that the library takes
abbrev pub option_text : Text → List Text → Text
option_text name words = unwrap_or (first_of name (matches_of expand words)) []

abbrev pub range_of_words : List Text → Option Range
range_of_words words = range_said (option_text (codes "from") words) (option_text (codes "to") words)

-- the command takes the words: the library does, and the two moments state a range
abbrev pub TakesExpand : List Text → Type 0
TakesExpand words = (fault_of expand words ≡ []) × IsSome (range_of_words words)

abbrev pub file_path : List Text → Text
file_path words = option_text (codes "file") words

-- the path of the file with the zone of floating times, if one is given
abbrev pub zone_path : List Text → Option Text
zone_path words = first_of (codes "zone") (matches_of expand words)
