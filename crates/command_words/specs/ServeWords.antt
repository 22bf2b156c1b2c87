-- The words of the command `serve`: which it takes, and what its options say.
use Rattle.std.specs.Prelude.{◌≡◌, ℕ, ◌-◌, ◌^◌, Bool, true, false, is_some, List, [], Option, codes, unwrap_or}
use Rattle.clap.specs.Words.{App, Text, fault_of, first_of, matches_of, new_app, with_rule}
use Rattle.command_words.specs.Options.{IsPlain, free, needed, number, number_said, with_version}

-- the command; unfoldable, so that no goal computes it
unfoldable pub serve : App
serve =
    with_rule (with_rule (with_rule (with_rule (with_rule (with_rule (with_version (new_app (codes "serve")))
    (needed (codes "users")))
    (needed (codes "listen")))
    (free (codes "journal")))
    (number (codes "sessions") 1 16 (codes "4")))
    (number (codes "workers") 0 4 (codes "2")))
    (number (codes "connections") 0 (2 ^ 64 - 1) (codes "0"))

-- the text of an option in words that the library takes, if it has one, or else the empty text
abbrev pub option_given : Text → List Text → Option Text
option_given name words = first_of name (matches_of serve words)

abbrev pub option_text : Text → List Text → Text
option_text name words = unwrap_or (option_given name words) []

-- they name a journal file
abbrev pub names_journal : List Text → Bool
names_journal words = is_some (option_given (codes "journal") words)

-- The command takes the words, with a journal file or without one: the library does, each number is plain, and they name a journal file or do not.
abbrev pub TakesWith : Bool → List Text → Type 0
TakesWith kept words =
    (fault_of serve words ≡ [])
    × IsPlain (option_text (codes "sessions") words) × IsPlain (option_text (codes "workers") words) × IsPlain (option_text (codes "connections") words)
    × (names_journal words ≡ kept)

abbrev pub TakesServe : List Text → Type 0
TakesServe words = TakesWith false words

abbrev pub TakesKeptServe : List Text → Type 0
TakesKeptServe words = TakesWith true words

abbrev pub users_path : List Text → Text
users_path words = option_text (codes "users") words

abbrev pub sessions : List Text → ℕ
sessions words = number_said 1 16 4 (option_text (codes "sessions") words)

abbrev pub workers : List Text → ℕ
workers words = number_said 0 4 2 (option_text (codes "workers") words)

-- after how many connections the server ends; 0 is without end
abbrev pub connections : List Text → ℕ
connections words = number_said 0 (2 ^ 64 - 1) 0 (option_text (codes "connections") words)
