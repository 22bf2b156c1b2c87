-- What the texts of the options of `slot` say.
use Rattle.std.specs.Prelude.{◌≡◌, ◌≤◌, ◌<◌, List, [], codes, option_map, unwrap_or, Option, Some, IsSome, ◌≤ℤ◌, ◌<ℤ◌}
use Rattle.clap.specs.Words.{Text, found_of, matched_of, raw_values}
use Rattle.clap.specs.declared.parser.matches.ArgMatches.{ArgMatches}
use Rattle.cal_model.specs.declared.row.Range.{Range}
use Rattle.cal_model.specs.Words.Limits.{first_date, last_date}
use Rattle.command_words.specs.Options.{IsPlain, number_said, value_text}
use Rattle.command_words.specs.RangeSaid.{range_said}
use Rattle.command_words.specs.SlotWords.{option_text, paths, range_of_words}
use Rattle.command_words.specs.declared.slot_words.SlotWords.{SlotWords}

-- the words say what the texts do
pub record IsSaid (users journal user minutes most : Text) (range : Option Range) (paths : List Text) (words : SlotWords) : Type 0 where
  pub users_are : words.users.now ≡ users
  pub journal_is : words.journal.now ≡ journal
  pub user_is : words.user.now ≡ user
  pub range_is : range ≡ Some words.range
  pub minutes_are : words.minutes ≡ number_said 1 100_000 1 minutes
  pub most_are : words.most ≡ number_said 1 100 1 most
  pub paths_are : words.paths ≡ paths

-- the paths and the range in what a parse found
abbrev pub paths_found : ArgMatches → List Text
paths_found matches = unwrap_or (option_map raw_values (matched_of (found_of matches) (codes "path"))) []

abbrev pub range_found : ArgMatches → Option Range
range_found matches = range_said (value_text (codes "from") matches) (value_text (codes "to") matches)

-- both numbers in it are plain, and its moments state a range
abbrev pub AreChosen : ArgMatches → Type 0
AreChosen matches = IsPlain (value_text (codes "minutes") matches) × IsPlain (value_text (codes "most") matches) × IsSome (range_found matches)

-- they say what it has
abbrev pub IsFoundIn : ArgMatches → SlotWords → Type 0
IsFoundIn matches said =
    IsSaid (value_text (codes "users") matches) (value_text (codes "journal") matches) (value_text (codes "as") matches)
    (value_text (codes "minutes") matches) (value_text (codes "most") matches) (range_found matches) (paths_found matches) said

-- they say what the options of a command line do
abbrev pub IsSaidBy : List Text → SlotWords → Type 0
IsSaidBy words said =
    IsSaid (option_text (codes "users") words) (option_text (codes "journal") words) (option_text (codes "as") words)
    (option_text (codes "minutes") words) (option_text (codes "most") words) (range_of_words words) (paths words) said

-- the numbers lie between their bounds, and the range within the dates that are served
pub record IsWithin (words : SlotWords) : Type 0 where
  pub some_minutes : 0 < words.minutes
  pub few_minutes : words.minutes ≤ 100_000
  pub few : words.most ≤ 100
  pub served : (first_date ≤ℤ words.range.start.0) × (words.range.start.0 <ℤ words.range.end.0) × (words.range.end.0 ≤ℤ last_date)
