-- What was printed for the numbers that the words say is what the words ask for.
use Rattle.std.proofs.Common.{◌≡◌, ◌⊎◌, inl, inr, ℕ, List, Option, subst, arith}
use Rattle.std.specs.Prelude.{take}
use Rattle.cal_base.specs.World.Outside.{Adds}
use Rattle.clap.specs.Words.{Text}
use Rattle.caldav_server.specs.LoadEnds.{HasPrinted, HasLoaded, summary_for}
use Rattle.command_words.specs.LoadWords.{TakesLoad}

-- the status for words that are not taken is none of those behind them
not-refused : (status : ℕ) → status ≡ 2 → (status ≡ 0) ⊎ (status ≡ 5) ⊎ (status ≡ 7) → ⊥
not-refused status two (inl zero) = omega arith
not-refused status two (inr (inl five)) = omega arith
not-refused status two (inr (inr seven)) = omega arith

-- the words that were read are those of the command
pub loaded-so : (read words : List Text) (summary : List ℕ) (status : ℕ) (before after : Option (List ℕ)) (old new : ℕ) → read ≡ words → TakesLoad read → summary ≡ summary_for read
    → HasPrinted summary status before after old new → HasLoaded words status before after old new
loaded-so read words summary status before after old new are takes same has = subst (λ (texts : List Text). HasLoaded texts status before after old new) are (record {
  printed = λ zero. (takes, subst (λ (lines : List ℕ). Adds before lines after) same (has.printed zero));
  refused = λ two. absurd (not-refused status two has.known);
  failed = λ five.
      let failed = has.failed five in
      (takes, (failed.0.0, subst (λ (lines : List ℕ). Adds before (take failed.0.0 lines) after) same failed.0.1), failed.1);
  wanting = has.wanting;
})
