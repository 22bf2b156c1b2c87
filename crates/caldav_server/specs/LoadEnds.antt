-- How the command `load` ends, by its status.
-- Given: the words, and what the output tells before and after: what was written, and how many of its calls failed.
use Rattle.std.specs.Prelude.{◌≡◌, ◌⊎◌, ℕ, List, Option, take}
use Rattle.cal_base.specs.World.Outside.{Adds, Rose}
use Rattle.cal_model.specs.Load.LoadSummary.{load_summary}
use Rattle.clap.specs.Words.{Text}
use Rattle.command_words.specs.LoadWords.{TakesLoad, puts, sessions}

-- the five lines for the words
abbrev pub summary_for : List Text → List ℕ
summary_for words = load_summary (puts words) (sessions words)

-- 0: these octets were written; 5: the output failed, behind a front of them; 7: there was no memory, and nothing was written
pub record HasPrinted (summary : List ℕ) (status : ℕ) (before after : Option (List ℕ)) (old new : ℕ) : Type 0 where
  pub printed : status ≡ 0 → Adds before summary after
  pub failed : status ≡ 5 → ((many : ℕ) × Adds before (take many summary) after) × Rose old new
  pub wanting : status ≡ 7 → after ≡ before
  pub known : (status ≡ 0) ⊎ (status ≡ 5) ⊎ (status ≡ 7)

-- 0: the five lines were written; 2: the words are others; 5: the output failed, behind a front of the five lines; 7: there was no memory, and nothing was written
pub record HasLoaded (words : List Text) (status : ℕ) (before after : Option (List ℕ)) (old new : ℕ) : Type 0 where
  pub printed : status ≡ 0 → TakesLoad words × Adds before (summary_for words) after
  pub refused : status ≡ 2 → (¬ TakesLoad words) × (after ≡ before)
  pub failed : status ≡ 5 → TakesLoad words × ((many : ℕ) × Adds before (take many (summary_for words)) after) × Rose old new
  pub wanting : status ≡ 7 → after ≡ before
