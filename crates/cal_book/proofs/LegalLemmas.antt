-- The test of legal journals tells them.
use Rattle.std.proofs.Common.{◌≡◌, ℕ, Bool, true, false, List, [], ◌∷◌, refl, ap, ◌∙◌}
use Rattle.std.specs.Prelude.{◌&&◌}
use Rattle.std.proofs.lemmas.Bool.{false≢true, eqb-true, eq-eqb, and_from}
use Rattle.cal_model.specs.History.Journal.{Entry, asked, IsLegal, IsLegalFrom}
use Rattle.cal_model.specs.Serving.EventReplies.{state_of, state_after}
use Rattle.cal_model.specs.Serving.Outcomes.{Outcome, accepted, unchanged, outcome}
use Rattle.cal_model.specs.State.ServerState.{Directory, ServerState, opening_state}
use Rattle.cal_book.specs.LegalJournals.{is_accepted_with, is_legal, is_legal_from, beginning_is_legal, LegalIsTold}

-- Both tests pass where the two together do.

front_passes : (a b : Bool) → (a && b) ≡ true → a ≡ true
front_passes true b e = refl
front_passes false b e = e

rest_passes : (a b : Bool) → (a && b) ≡ true → b ≡ true
rest_passes true b e = e
rest_passes false b e = absurd (false≢true e)

-- An outcome that passes is accepted with that status.
accepted_with : (status : ℕ) (state : ServerState) (result : Outcome) → is_accepted_with status result ≡ true → result ≡ accepted status (state_of state result)
accepted_with status state (accepted given after) e = ap (λ n. accepted n after) (eqb-true given status e)
accepted_with status state (unchanged reply) e = absurd (false≢true e)

-- What is legal passes.

told_from : (directory : Directory) (state : ServerState) (journal : List Entry) → IsLegalFrom directory state journal → is_legal_from directory state journal ≡ true
told_from directory state [] legal = refl
told_from directory state (entry ∷ entries) legal =
    let after = state_after directory state (asked directory entry) in
    and_from (is_accepted_with entry.status (outcome directory state (asked directory entry))) (is_legal_from directory after entries)
    (ap (is_accepted_with entry.status) legal.0 ∙ eq-eqb entry.status entry.status refl) (told_from directory after entries legal.1)

pub legal_is_told : (directory : Directory) (journal : List Entry) → IsLegal directory journal → is_legal directory journal ≡ true
legal_is_told directory journal legal = told_from directory (opening_state directory) journal legal

-- What passes is legal.

legal_from : (directory : Directory) (state : ServerState) (journal : List Entry) → is_legal_from directory state journal ≡ true → IsLegalFrom directory state journal
legal_from directory state [] e = tt
legal_from directory state (entry ∷ entries) e =
    let result = outcome directory state (asked directory entry) in
    let after = state_after directory state (asked directory entry) in (
      accepted_with entry.status state result (front_passes (is_accepted_with entry.status result) (is_legal_from directory after entries) e),
      legal_from directory after entries (rest_passes (is_accepted_with entry.status result) (is_legal_from directory after entries) e),
    )

pub legal_told : LegalIsTold
legal_told = record {
  told = legal_is_told;
  is = λ directory journal e. legal_from directory (opening_state directory) journal e;
  beginning = beginning_is_legal;
}
