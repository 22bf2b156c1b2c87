-- Whether a journal is legal, as a test.
-- Given: the users and a journal. Gives: whether what each entry's request asked is accepted at its place, with its status (`History.Journal`).
use Rattle.std.specs.Prelude.{◌≡◌, ℕ, Bool, true, false, ◌&&◌, ◌==◌, List, [], ◌∷◌, ◌++◌, refl}
use Rattle.cal_model.specs.History.Journal.{Entry, asked, IsLegal}
use Rattle.cal_model.specs.Serving.EventReplies.{state_after}
use Rattle.cal_model.specs.Serving.Outcomes.{Outcome, accepted, unchanged, outcome}
use Rattle.cal_model.specs.State.ServerState.{Directory, ServerState, opening_state}

-- an outcome is accepted, with that status
abbrev pub is_accepted_with : ℕ → Outcome → Bool
is_accepted_with status (accepted given after) = given == status
is_accepted_with status (unchanged reply) = false

abbrev pub is_legal_from : Directory → ServerState → List Entry → Bool
is_legal_from directory state [] = true
is_legal_from directory state (entry ∷ entries) =
    is_accepted_with entry.status (outcome directory state (asked directory entry)) && is_legal_from directory (state_after directory state (asked directory entry)) entries

abbrev pub is_legal : Directory → List Entry → Bool
is_legal directory journal = is_legal_from directory (opening_state directory) journal

-- So the test tells the legal journals, and a beginning of one passes it.
pub record LegalIsTold : Type 0 where
  pub told : (directory : Directory) (journal : List Entry) → IsLegal directory journal → is_legal directory journal ≡ true
  pub is : (directory : Directory) (journal : List Entry) → is_legal directory journal ≡ true → IsLegal directory journal
  pub beginning : (directory : Directory) (journal more : List Entry) → is_legal directory (journal ++ more) ≡ true → is_legal directory journal ≡ true

-- That a beginning passes it is a law of the value under the lock, so it stands here.

front_passes : (a b c : Bool) → (b ≡ true → c ≡ true) → (a && b) ≡ true → (a && c) ≡ true
front_passes true b c h e = h e
front_passes false b c h e = e

beginning_from : (directory : Directory) (state : ServerState) (journal more : List Entry) → is_legal_from directory state (journal ++ more) ≡ true → is_legal_from directory state journal ≡ true
beginning_from directory state [] more h = refl
beginning_from directory state (entry ∷ entries) more h = front_passes
    (is_accepted_with entry.status (outcome directory state (asked directory entry)))
    (is_legal_from directory (state_after directory state (asked directory entry)) (entries ++ more))
    (is_legal_from directory (state_after directory state (asked directory entry)) entries)
    (beginning_from directory (state_after directory state (asked directory entry)) entries more)
    h

pub beginning_is_legal : (directory : Directory) (journal more : List Entry) → is_legal directory (journal ++ more) ≡ true → is_legal directory journal ≡ true
beginning_is_legal directory journal more h = beginning_from directory (opening_state directory) journal more h
