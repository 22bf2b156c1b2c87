-- The words of the command `migrate`: which it takes, and what its options say.
use Rattle.std.specs.Prelude.{◌≡◌, ◌&&◌, Bool, true, not, List, [], bytes_eq, codes, unwrap_or}
use Rattle.clap.specs.Words.{App, Text, fault_of, first_of, matches_of, new_app, with_rule}
use Rattle.command_words.specs.Options.{needed, with_version}

-- the command; unfoldable, so that no goal computes it
unfoldable pub migrate : App
migrate =
    with_rule (with_rule (with_rule (with_rule (with_version (new_app (codes "migrate")))
    (needed (codes "users")))
    (needed (codes "journal")))
    (needed (codes "new-users")))
    (needed (codes "to"))

-- the text of an option in words that the library takes
abbrev pub option_text : Text → List Text → Text
option_text name words = unwrap_or (first_of name (matches_of migrate words)) []

abbrev pub users_path : List Text → Text
users_path words = option_text (codes "users") words

abbrev pub journal_file : List Text → Text
journal_file words = option_text (codes "journal") words

abbrev pub new_users_path : List Text → Text
new_users_path words = option_text (codes "new-users") words

abbrev pub new_journal_file : List Text → Text
new_journal_file words = option_text (codes "to") words

-- no path is empty, and the new journal is not at the path of the old one
abbrev pub are_paths : Text → Text → Text → Text → Bool
are_paths users journal new_users to = not (bytes_eq users []) && (not (bytes_eq journal []) && (not (bytes_eq new_users []) && (not (bytes_eq to []) && not (bytes_eq to journal))))

-- The command takes the words: the library does, and the four are such paths.
abbrev pub TakesMigrate : List Text → Type 0
TakesMigrate words = (fault_of migrate words ≡ []) × (are_paths (users_path words) (journal_file words) (new_users_path words) (new_journal_file words) ≡ true)
