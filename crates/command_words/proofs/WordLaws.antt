-- What a parse of the command `serve` gives.
use Rattle.std.proofs.Common.{◌≡◌, ◌∙◌, List, [], Bool, true, refl, ap, sym, subst, inl, inr, map}
use Rattle.std.specs.Prelude.{◌-◌, ◌^◌, Option, Some, None, Result, Ok, Err, IfOk, IfSome, IsErrOf, is_some, unwrap_or, codes}
use Rattle.std.proofs.lemmas.List.{map-id}
use Rattle.clap.specs.Words.{App, Text, fault_of, first_of, first_value, found_of, is_simple, is_simple_and_free, kind_of, matches_of, rows_of, HasKind}
use Rattle.clap.specs.declared.error.kind.ErrorKind.TheVariants.{OutOfMemory}
use Rattle.clap.specs.declared.error.Error.{Error}
use Rattle.clap.specs.declared.parser.matches.ArgMatches.{ArgMatches}
use Rattle.clap.proofs.OnLiterals.{clap_on_literals}
use Rattle.clap.proofs.WalkLemmas.{first_value-rows}
use Rattle.command_words.specs.Options.{IsPlain, number_said, value_text}
use Rattle.command_words.specs.SaidWords.{AreChosen, IsFoundIn, IsSaidBy}
use Rattle.command_words.specs.ServeWords.{TakesWith, serve, option_given, option_text}
use Rattle.command_words.specs.declared.serve_words.ServeWords.{ServeWords}
use Rattle.command_words.specs.declared.options.Untaken.{Untaken}
use Rattle.command_words.specs.declared.options.Untaken.TheVariants.{Words}

pub simple : is_simple_and_free serve ≡ true
unfolding serve clap_on_literals
simple = refl

pub plain : is_simple serve ≡ true
unfolding serve clap_on_literals
plain = refl

-- what holds of a command that is made as `serve`, and of words taken as texts, holds of `serve` and the words
pub at_serve : (a : App) (ws : List Text) (F : App → List Text → Type 0) → a ≡ serve → F a (map (λ w. w) ws) → F serve ws
at_serve a ws F e h = subst (λ x. F x ws) e (subst (λ l. F a l) (map-id ws) h)

pub simple_made : (a : App) → a ≡ serve → is_simple_and_free a ≡ true
simple_made a e = ap is_simple_and_free e ∙ simple

pub plain_made : (a : App) → a ≡ serve → is_simple a ≡ true
plain_made a e = ap is_simple e ∙ plain

-- a parse that failed for another reason than memory failed by a fault of the words
pub not_taken : (a : App) (ws : List Text) (e : Error) → a ≡ serve → HasKind (fault_of a (map (λ w. w) ws)) e → (kind_of e ≡ OutOfMemory → ⊥) → fault_of serve ws ≡ [] → ⊥
not_taken a ws e p h n z = go (subst (λ ks. HasKind ks e) z (at_serve a ws (λ b l. HasKind (fault_of b l) e) p h))
  where
    go : HasKind [] e → ⊥
    go (inl k) = n k
    go (inr k) = k

-- words for which a parse gives the help or the version are not taken
pub asked : (a : App) (ws : List Text) (e : Error) (r : Option Error) → a ≡ serve → HasKind (fault_of a (map (λ w. w) ws)) e
    → IfSome r (λ _. kind_of e ≡ OutOfMemory → ⊥) → IfSome r (λ _. (kept : Bool) → TakesWith kept ws → ⊥)
asked a ws e None made kinds there = tt
asked a ws e (Some text) made kinds there = λ kept takes. not_taken a ws e made kinds there takes.0

-- the text of an option is what the words say
value_said : (m : ArgMatches) (ws : List Text) (name : Text) → rows_of (found_of m) ≡ matches_of serve ws → first_value (found_of m) name ≡ option_given name ws
value_said m ws name rows = first_value-rows (found_of m) name ∙ ap (first_of name) rows

pub text_said : (m : ArgMatches) (ws : List Text) (name : Text) → rows_of (found_of m) ≡ matches_of serve ws → value_text name m ≡ option_text name ws
text_said m ws name rows = ap (λ (o : Option Text). unwrap_or o []) (value_said m ws name rows)

module _ (m : ArgMatches) (ws : List Text) (rows : rows_of (found_of m) ≡ matches_of serve ws) where
  there : (name : Text) → IsPlain (value_text name m) → IsPlain (option_text name ws)
  there name h = subst IsPlain (text_said m ws name rows) h

  back : (name : Text) → IsPlain (option_text name ws) → IsPlain (value_text name m)
  back name h = subst IsPlain (sym (text_said m ws name rows)) h

  journal : is_some (first_value (found_of m) (codes "journal")) ≡ is_some (option_given (codes "journal") ws)
  journal = ap is_some (value_said m ws (codes "journal") rows)

  -- words that the library takes are taken where what was found is chosen
  pub taken : (kept : Bool) (r : Result ServeWords Untaken) → fault_of serve ws ≡ [] → IfOk r (λ _. AreChosen kept m) → IfOk r (λ _. TakesWith kept ws)
  taken kept (Ok w) faultless h = (faultless, there _ h.0.0, there _ h.0.1, there _ h.0.2, sym journal ∙ h.1)
  taken kept (Err e) faultless h = tt

  -- and else not
  pub refused : (kept : Bool) (r : Result ServeWords Untaken) → (IsErrOf r Words → AreChosen kept m → ⊥) → IsErrOf r Words → TakesWith kept ws → ⊥
  refused kept r not_chosen is takes = not_chosen is ((back _ takes.1, back _ takes.2, back _ takes.3), journal ∙ takes.4)

  -- what is said is what the words say
  pub said : (r : Result ServeWords Untaken) → IfOk r (IsFoundIn m) → IfOk r (IsSaidBy ws)
  said (Ok w) h = record {
    users_are = h.users_are ∙ text_said m ws (codes "users") rows;
    listen_is = h.listen_is ∙ text_said m ws (codes "listen") rows;
    sessions_are = h.sessions_are ∙ ap (λ (t : Text). number_said 1 16 4 t) (text_said m ws (codes "sessions") rows);
    workers_are = h.workers_are ∙ ap (λ (t : Text). number_said 0 4 2 t) (text_said m ws (codes "workers") rows);
    connections_are = h.connections_are ∙ ap (λ (t : Text). number_said 0 (2 ^ 64 - 1) 0 t) (text_said m ws (codes "connections") rows);
  }
  said (Err e) h = tt
