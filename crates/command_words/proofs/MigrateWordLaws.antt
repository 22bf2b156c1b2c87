-- What a parse of the command `migrate` gives.
use Rattle.std.proofs.Common.{◌≡◌, ◌∙◌, List, [], true, refl, ap, sym}
use Rattle.std.specs.Prelude.{Option, Some, None, Result, Ok, Err, IfOk, IfSome, IsErrOf, codes}
use Rattle.clap.specs.Words.{App, Text, fault_of, found_of, is_simple, is_simple_and_free, matches_of, rows_of}
use Rattle.clap.specs.declared.error.Error.{Error}
use Rattle.clap.specs.declared.parser.matches.ArgMatches.{ArgMatches}
use Rattle.clap.proofs.OnLiterals.{clap_on_literals}
use Rattle.command_words.specs.MigrateSaid.{AreChosen, IsFoundIn, IsSaidBy}
use Rattle.command_words.specs.MigrateWords.{TakesMigrate, are_paths, migrate, option_text}
use Rattle.command_words.specs.Options.{value_text}
use Rattle.command_words.specs.declared.migrate_words.MigrateWords.{MigrateWords}
use Rattle.command_words.specs.declared.options.Untaken.{Untaken}
use Rattle.command_words.specs.declared.options.Untaken.TheVariants.{Words}
use Rattle.command_words.proofs.CommandLaws.{text_said}

simple : is_simple_and_free migrate ≡ true
unfolding migrate clap_on_literals
simple = refl

plain : is_simple migrate ≡ true
unfolding migrate clap_on_literals
plain = refl

pub simple_made : (a : App) → a ≡ migrate → is_simple_and_free a ≡ true
simple_made a e = ap is_simple_and_free e ∙ simple

pub plain_made : (a : App) → a ≡ migrate → is_simple a ≡ true
plain_made a e = ap is_simple e ∙ plain

module _ (m : ArgMatches) (ws : List Text) (rows : rows_of (found_of m) ≡ matches_of migrate ws) where
  same : (name : Text) → value_text name m ≡ option_text name ws
  same name = text_said migrate m ws name rows

  same_paths : are_paths (value_text (codes "users") m) (value_text (codes "journal") m) (value_text (codes "new-users") m) (value_text (codes "to") m)
      ≡ are_paths (option_text (codes "users") ws) (option_text (codes "journal") ws) (option_text (codes "new-users") ws) (option_text (codes "to") ws)
  same_paths =
      ap (λ (t : Text). are_paths t (value_text (codes "journal") m) (value_text (codes "new-users") m) (value_text (codes "to") m)) (same (codes "users"))
      ∙ ap (λ (t : Text). are_paths (option_text (codes "users") ws) t (value_text (codes "new-users") m) (value_text (codes "to") m)) (same (codes "journal"))
      ∙ ap (λ (t : Text). are_paths (option_text (codes "users") ws) (option_text (codes "journal") ws) t (value_text (codes "to") m)) (same (codes "new-users"))
      ∙ ap (λ (t : Text). are_paths (option_text (codes "users") ws) (option_text (codes "journal") ws) (option_text (codes "new-users") ws) t) (same (codes "to"))

  -- words that the library takes are taken where what was found is chosen
  pub taken : (r : Result MigrateWords Untaken) → fault_of migrate ws ≡ [] → IfOk r (λ _. AreChosen m) → IfOk r (λ _. TakesMigrate ws)
  taken (Ok w) faultless h = (faultless, sym same_paths ∙ h)
  taken (Err e) faultless h = tt

  -- and else not
  pub refused : (r : Result MigrateWords Untaken) → (IsErrOf r Words → AreChosen m → ⊥) → IsErrOf r Words → TakesMigrate ws → ⊥
  refused r not_chosen is takes = not_chosen is (same_paths ∙ takes.1)

  -- what is said is what the words say
  pub said : (r : Result MigrateWords Untaken) → IfOk r (IsFoundIn m) → IfOk r (IsSaidBy ws)
  said (Ok w) h = record {
    users_are = h.users_are ∙ same (codes "users");
    journal_is = h.journal_is ∙ same (codes "journal");
    new_users_are = h.new_users_are ∙ same (codes "new-users");
    to_is = h.to_is ∙ same (codes "to");
  }
  said (Err e) h = tt

-- words for which a parse gives the help or the version are not taken
pub not_asked : (ws : List Text) (r : Option Error) → IfSome r (λ _. fault_of migrate ws ≡ [] → ⊥) → IfSome r (λ _. TakesMigrate ws → ⊥)
not_asked ws None untaken = tt
not_asked ws (Some text) untaken = λ takes. untaken takes.0
