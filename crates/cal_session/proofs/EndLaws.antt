-- A session that stopped has had a last turn, in which it added nothing: what was said of it stays.
use Rattle.std.proofs.Common.{◌≡◌, ℕ, true, false, List, [], ◌∷◌, ◌++◌, length, refl, sym, ap, subst, ◌∙◌}
use Rattle.std.proofs.lemmas.List.{append-nil}
use Rattle.turn_lock.specs.Journals.{IsFollowedByOthers}
use Rattle.turn_lock.specs.Passes.{PassState}
use Rattle.cal_model.specs.History.Journal.{Entry}
use Rattle.cal_model.specs.Users.UsersFile.{Users}
use Rattle.cal_session.specs.SessionStates.{Environment, SessionState, HasSeenMore}
use Rattle.cal_session.specs.Sessions.{Exchange, HasRun, HasBroken}
use Rattle.cal_session.specs.Turns.{LooksUp}
use Rattle.cal_session.specs.UnderWay.{HasLastTurn, HasOnlyLooked, EndsIn, StopsSo}
use Rattle.cal_session.specs.declared.answering.Stop.{Stop}
use Rattle.cal_session.specs.declared.answering.Stop.TheVariants.{Ended, Broken}
use Rattle.cal_session.specs.declared.served.Served.{Served}
use Rattle.cal_session.specs.declared.served.How.{How}
use Rattle.cal_session.proofs.StepLemmas.{looks_on}
use Rattle.cal_session.proofs.TurnLaws.{session_later}

-- a pass that has had no turn
pub looked_none : (pass : PassState Entry Users) → HasOnlyLooked pass pass
looked_none pass = record { pass = refl; others = ([], sym (append-nil pass.seen), tt); looks = []; grown = sym (append-nil pass.looks) }

-- one that has had a turn, in which it gave back the journal that it took
pub looked_once : (author : Entry → ℕ) (law : (e : Entry) → author e ≡ e.session) (old taken new : PassState Entry Users) (journal given : List Entry)
    → taken ≡ record old { seen = journal; looks = old.looks ++ length journal ∷ []; holds_turn = true } → new ≡ record taken { seen = given; holds_turn = false } → given ≡ journal → old.holds_turn ≡ false
    → IsFollowedByOthers author (old.number ∷ old.gone) old.seen journal → HasOnlyLooked old new
looked_once author law old taken new journal given took gave same free longer =
    let whole : new ≡ record old { seen = given; looks = old.looks ++ length journal ∷ []; holds_turn = false } = gave ∙ ap (λ (p : PassState Entry Users). record p { seen = given; holds_turn = false }) took in
    let seen = ap (λ (p : PassState Entry Users). p.seen) whole in
    let looks = ap (λ (p : PassState Entry Users). p.looks) whole in
    let by_session = subst (λ a. IsFollowedByOthers a (old.number ∷ old.gone) old.seen journal) (λ i e. law e i) longer in
    record {
      pass = whole ∙ (λ i. record old { seen = sym seen i; looks = sym looks i; holds_turn = sym free i });
      others = subst (λ l. IsFollowedByOthers (λ (entry : Entry). entry.session) (old.number ∷ old.gone) old.seen l) (sym (seen ∙ same)) by_session;
      looks = length journal ∷ [];
      grown = looks;
    }

module _ (environment : Environment) (before now : SessionState) (pass : PassState Entry Users) (turns : List Served) (more : HasSeenMore before.pass now.pass) where
  -- the session, where nothing but the pass went on
  abbrev after : SessionState
  after = record { pass = pass; link = now.link }

  run_later : (exchange : Exchange) → HasOnlyLooked now.pass pass → HasRun environment before now turns exchange → HasRun environment before after turns exchange
  run_later exchange looked run =
      let users = environment.users in
      let number : now.pass.number ≡ before.pass.number = ap (λ (p : PassState Entry Users). p.number) more in
      record {
        taken = run.taken;
        turns_are = run.turns_are;
        session = session_later users before.pass.number now.pass.gone before.pass.seen exchange.answers now.pass.seen pass.seen run.session
            (subst (λ n. IsFollowedByOthers (λ (entry : Entry). entry.session) (n ∷ now.pass.gone) now.pass.seen pass.seen) number looked.others);
        looks = subst (λ l. LooksUp users before.pass.looks l pass.looks) (append-nil exchange.answers)
            (looks_on users before.pass.looks now.pass.looks pass.looks exchange.answers [] run.looks (record { looks = looked.looks; grown = looked.grown; within = tt }));
        moments = run.moments;
        written = run.written;
      }

  ends_later : (how : How) → HasOnlyLooked now.pass pass → EndsIn environment before now turns how → EndsIn environment before after turns how
  ends_later how looked s = record { exchange = s.exchange; run = run_later s.exchange looked s.run; ended = s.ended }

  pub stops_later : {X : Type 0} → (stop : Stop X) → HasLastTurn stop now.pass pass → StopsSo environment before now turns stop → StopsSo environment before after turns stop
  stops_later (Ended how) looked s = ends_later how looked s
  stops_later (Broken fault) same s = subst (λ (p : PassState Entry Users). HasBroken environment before (record { pass = p; link = now.link }) turns) (sym same) s
