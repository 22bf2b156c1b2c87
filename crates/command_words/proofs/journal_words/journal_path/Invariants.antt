use Rattle.std.proofs.Common.{◌≡◌, length}
use Rattle.command_words.specs.JournalWords.{journal_path}
use Rattle.command_words.proofs.journal_words.journal_path.Given as goal

-- the words so far name no path
abbrev pub invariant-words : goal.invariant-words
invariant-words l = journal_path l.rest ≡ journal_path l.words

abbrev pub decreases-words : goal.decreases-words
decreases-words l = length l.rest
