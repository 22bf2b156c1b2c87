-- What the texts of the options of `serve` say.
use Rattle.std.specs.Prelude.{◌≡◌, ◌-◌, ◌^◌, Bool, is_some, List, codes}
use Rattle.clap.specs.Words.{Text, first_value, found_of}
use Rattle.clap.specs.declared.parser.matches.ArgMatches.{ArgMatches}
use Rattle.command_words.specs.Options.{IsPlain, number_said, value_text}
use Rattle.command_words.specs.ServeWords.{option_text}
use Rattle.command_words.specs.declared.serve_words.ServeWords.{ServeWords}

-- the three numbers are plain
abbrev pub ArePlain : Text → Text → Text → Type 0
ArePlain sessions workers connections = IsPlain sessions × IsPlain workers × IsPlain connections

-- in what a parse found they are, and there is a journal file or there is none
abbrev pub AreChosen : Bool → ArgMatches → Type 0
AreChosen kept matches =
    ArePlain (value_text (codes "sessions") matches) (value_text (codes "workers") matches) (value_text (codes "connections") matches)
    × (is_some (first_value (found_of matches) (codes "journal")) ≡ kept)

-- the words say what the texts do
pub record IsSaid (users listen sessions workers connections : Text) (words : ServeWords) : Type 0 where
  pub users_are : words.users.now ≡ users
  pub listen_is : words.listen.now ≡ listen
  pub sessions_are : words.sessions ≡ number_said 1 16 4 sessions
  pub workers_are : words.workers ≡ number_said 0 4 2 workers
  pub connections_are : words.connections ≡ number_said 0 (2 ^ 64 - 1) 0 connections

-- they say what the options in what a parse found do
abbrev pub IsFoundIn : ArgMatches → ServeWords → Type 0
IsFoundIn matches said =
    IsSaid (value_text (codes "users") matches) (value_text (codes "listen") matches)
    (value_text (codes "sessions") matches) (value_text (codes "workers") matches) (value_text (codes "connections") matches) said

-- they say what the options of a command line do
abbrev pub IsSaidBy : List Text → ServeWords → Type 0
IsSaidBy words said =
    IsSaid (option_text (codes "users") words) (option_text (codes "listen") words)
    (option_text (codes "sessions") words) (option_text (codes "workers") words) (option_text (codes "connections") words) said
