-- What the texts of the options of `migrate` say.
use Rattle.std.specs.Prelude.{◌≡◌, List, codes, true}
use Rattle.clap.specs.Words.{Text}
use Rattle.clap.specs.declared.parser.matches.ArgMatches.{ArgMatches}
use Rattle.command_words.specs.MigrateWords.{are_paths, journal_file, new_journal_file, new_users_path, users_path}
use Rattle.command_words.specs.Options.{value_text}
use Rattle.command_words.specs.declared.migrate_words.MigrateWords.{MigrateWords}

-- the words say what the texts do
pub record IsSaid (users journal new_users to : Text) (words : MigrateWords) : Type 0 where
  pub users_are : words.users.now ≡ users
  pub journal_is : words.journal.now ≡ journal
  pub new_users_are : words.new_users.now ≡ new_users
  pub to_is : words.to.now ≡ to

-- the paths in what a parse found can be those of four files
abbrev pub AreChosen : ArgMatches → Type 0
AreChosen matches = are_paths (value_text (codes "users") matches) (value_text (codes "journal") matches) (value_text (codes "new-users") matches) (value_text (codes "to") matches) ≡ true

-- they say what it has
abbrev pub IsFoundIn : ArgMatches → MigrateWords → Type 0
IsFoundIn matches said = IsSaid (value_text (codes "users") matches) (value_text (codes "journal") matches) (value_text (codes "new-users") matches) (value_text (codes "to") matches) said

-- they say what the options of a command line do
abbrev pub IsSaidBy : List Text → MigrateWords → Type 0
IsSaidBy words said = IsSaid (users_path words) (journal_file words) (new_users_path words) (new_journal_file words) said
