-- What a parse of the command `load` gives.
use Rattle.std.proofs.Common.{◌≡◌, ◌∙◌, List, [], true, refl, ap, sym, subst, inl, inr, map}
use Rattle.std.specs.Prelude.{Option, Some, None, Result, Ok, Err, IfOk, IfSome, IsErrOf, unwrap_or, codes}
use Rattle.std.proofs.lemmas.List.{map-id}
use Rattle.clap.specs.Words.{App, Text, fault_of, first_of, found_of, is_simple, is_simple_and_free, kind_of, matches_of, rows_of, HasKind}
use Rattle.clap.specs.declared.error.kind.ErrorKind.TheVariants.{OutOfMemory}
use Rattle.clap.specs.declared.error.Error.{Error}
use Rattle.clap.specs.declared.parser.matches.ArgMatches.{ArgMatches}
use Rattle.clap.proofs.OnLiterals.{clap_on_literals}
use Rattle.clap.proofs.WalkLemmas.{first_value-rows}
use Rattle.command_words.specs.Options.{IsPlain, number_said, value_text}
use Rattle.command_words.specs.LoadSaid.{ArePlain, IsSaid}
use Rattle.command_words.specs.LoadWords.{TakesLoad, load, option_text}
use Rattle.command_words.specs.declared.load_words.LoadWords.{LoadWords}
use Rattle.command_words.specs.declared.options.Untaken.{Untaken}
use Rattle.command_words.specs.declared.options.Untaken.TheVariants.{Words}

pub simple : is_simple_and_free load ≡ true
unfolding load clap_on_literals
simple = refl

pub plain : is_simple load ≡ true
unfolding load clap_on_literals
plain = refl

-- what holds of a command that is made as `load`, and of words taken as texts, holds of `load` and the words
pub at_load : (a : App) (ws : List Text) (F : App → List Text → Type 0) → a ≡ load → F a (map (λ w. w) ws) → F load ws
at_load a ws F e h = subst (λ x. F x ws) e (subst (λ l. F a l) (map-id ws) h)

pub simple_made : (a : App) → a ≡ load → is_simple_and_free a ≡ true
simple_made a e = ap is_simple_and_free e ∙ simple

pub plain_made : (a : App) → a ≡ load → is_simple a ≡ true
plain_made a e = ap is_simple e ∙ plain

-- a parse that failed for another reason than memory failed by a fault of the words
pub not_taken : (a : App) (ws : List Text) (e : Error) → a ≡ load → HasKind (fault_of a (map (λ w. w) ws)) e → (kind_of e ≡ OutOfMemory → ⊥) → fault_of load ws ≡ [] → ⊥
not_taken a ws e p h n z = go (subst (λ ks. HasKind ks e) z (at_load a ws (λ b l. HasKind (fault_of b l) e) p h))
  where
    go : HasKind [] e → ⊥
    go (inl k) = n k
    go (inr k) = k

-- words for which a parse gives the help or the version are not taken
pub asked : (a : App) (ws : List Text) (e : Error) (r : Option Error) → a ≡ load → HasKind (fault_of a (map (λ w. w) ws)) e → IfSome r (λ _. kind_of e ≡ OutOfMemory → ⊥) → IfSome r (λ _. TakesLoad ws → ⊥)
asked a ws e None made kinds there = tt
asked a ws e (Some text) made kinds there = λ takes. not_taken a ws e made kinds there takes.0

-- the text of an option is what the words say
pub text_said : (m : ArgMatches) (ws : List Text) (name : Text) → rows_of (found_of m) ≡ matches_of load ws → value_text name m ≡ option_text name ws
text_said m ws name rows =
    ap (λ (o : Option Text). unwrap_or o []) (first_value-rows (found_of m) name ∙ ap (first_of name) rows)

module _ (m : ArgMatches) (ws : List Text) (rows : rows_of (found_of m) ≡ matches_of load ws) where
  there : (name : Text) → IsPlain (value_text name m) → IsPlain (option_text name ws)
  there name h = subst IsPlain (text_said m ws name rows) h

  back : (name : Text) → IsPlain (option_text name ws) → IsPlain (value_text name m)
  back name h = subst IsPlain (sym (text_said m ws name rows)) h

  -- words that the library takes are taken where their numbers are plain
  pub taken : (r : Result LoadWords Untaken) → fault_of load ws ≡ [] → IfOk r (λ _. ArePlain (value_text (codes "number") m) (value_text (codes "sessions") m) (value_text (codes "workers") m)) → IfOk r (λ _. TakesLoad ws)
  taken (Ok w) faultless plain_there = (faultless, (there _ plain_there.0, there _ plain_there.1, there _ plain_there.2))
  taken (Err e) faultless plain_there = tt

  -- and else not
  pub refused : (r : Result LoadWords Untaken) → (IsErrOf r Words → ArePlain (value_text (codes "number") m) (value_text (codes "sessions") m) (value_text (codes "workers") m) → ⊥) → IsErrOf r Words → TakesLoad ws → ⊥
  refused r not_plain is takes = not_plain is (back _ takes.1.0, back _ takes.1.1, back _ takes.1.2)

  -- what is said is what the words say
  pub said : (r : Result LoadWords Untaken)
      → IfOk r (λ w. IsSaid (value_text (codes "number") m) (value_text (codes "sessions") m) (value_text (codes "workers") m) w)
      → IfOk r (λ w. IsSaid (option_text (codes "number") ws) (option_text (codes "sessions") ws) (option_text (codes "workers") ws) w)
  said (Ok w) h = record {
    puts_are = h.puts_are ∙ ap (λ (t : Text). number_said 1 800 1 t) (text_said m ws (codes "number") rows);
    sessions_are = h.sessions_are ∙ ap (λ (t : Text). number_said 1 16 4 t) (text_said m ws (codes "sessions") rows);
    workers_are = h.workers_are ∙ ap (λ (t : Text). number_said 0 4 2 t) (text_said m ws (codes "workers") rows);
  }
  said (Err e) h = tt
