-- What the texts of the options of `load` say.
use Rattle.std.specs.Prelude.{◌≡◌, ◌≤◌, ◌<◌}
use Rattle.clap.specs.Words.{Text}
use Rattle.command_words.specs.Options.{IsPlain, number_said}
use Rattle.command_words.specs.declared.load_words.LoadWords.{LoadWords}

-- the three numbers are plain
abbrev pub ArePlain : Text → Text → Text → Type 0
ArePlain puts sessions workers = IsPlain puts × IsPlain sessions × IsPlain workers

-- the words say what the texts do
pub record IsSaid (puts sessions workers : Text) (words : LoadWords) : Type 0 where
  pub puts_are : words.puts ≡ number_said 1 800 1 puts
  pub sessions_are : words.sessions ≡ number_said 1 16 4 sessions
  pub workers_are : words.workers ≡ number_said 0 4 2 workers

-- the numbers lie between their bounds
abbrev pub IsWithin : LoadWords → Type 0
IsWithin words = (words.puts ≤ 800) × (0 < words.sessions) × (words.sessions ≤ 16)
