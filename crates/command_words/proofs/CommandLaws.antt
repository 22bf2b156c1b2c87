-- What a parse of a command gives, whichever command that is.
use Rattle.std.proofs.Common.{◌≡◌, ◌∙◌, List, [], ap, subst, inl, inr, map}
use Rattle.std.specs.Prelude.{Option, Some, None, IfSome, unwrap_or}
use Rattle.std.proofs.lemmas.List.{map-id}
use Rattle.clap.specs.Words.{App, Text, fault_of, first_of, first_value, found_of, kind_of, matches_of, rows_of, HasKind}
use Rattle.clap.specs.declared.error.kind.ErrorKind.TheVariants.{OutOfMemory}
use Rattle.clap.specs.declared.error.Error.{Error}
use Rattle.clap.specs.declared.parser.matches.ArgMatches.{ArgMatches}
use Rattle.clap.proofs.WalkLemmas.{first_value-rows}
use Rattle.command_words.specs.Options.{value_text}

-- what holds of an app that is made as a command, and of words taken as texts, holds of the command and the words
pub at_command : (command a : App) (ws : List Text) (F : App → List Text → Type 0) → a ≡ command → F a (map (λ w. w) ws) → F command ws
at_command command a ws F e h = subst (λ x. F x ws) e (subst (λ l. F a l) (map-id ws) h)

-- a parse that failed for another reason than memory failed by a fault of the words
pub not_taken : (command a : App) (ws : List Text) (e : Error) → a ≡ command → HasKind (fault_of a (map (λ w. w) ws)) e → (kind_of e ≡ OutOfMemory → ⊥) → fault_of command ws ≡ [] → ⊥
not_taken command a ws e p h n z = go (subst (λ ks. HasKind ks e) z (at_command command a ws (λ b l. HasKind (fault_of b l) e) p h))
  where
    go : HasKind [] e → ⊥
    go (inl k) = n k
    go (inr k) = k

-- words for which a parse gives the help or the version are not taken
pub asked : (command a : App) (ws : List Text) (e : Error) (r : Option Error) → a ≡ command → HasKind (fault_of a (map (λ w. w) ws)) e → IfSome r (λ _. kind_of e ≡ OutOfMemory → ⊥) → IfSome r (λ _. fault_of command ws ≡ [] → ⊥)
asked command a ws e None made kinds there = tt
asked command a ws e (Some text) made kinds there = λ faultless. not_taken command a ws e made kinds there faultless

-- an option that was found says what the words say
pub first_said : (command : App) (m : ArgMatches) (ws : List Text) (name : Text) → rows_of (found_of m) ≡ matches_of command ws → first_value (found_of m) name ≡ first_of name (matches_of command ws)
first_said command m ws name rows = first_value-rows (found_of m) name ∙ ap (first_of name) rows

pub text_said : (command : App) (m : ArgMatches) (ws : List Text) (name : Text) → rows_of (found_of m) ≡ matches_of command ws → value_text name m ≡ unwrap_or (first_of name (matches_of command ws)) []
text_said command m ws name rows = ap (λ (o : Option Text). unwrap_or o []) (first_said command m ws name rows)
