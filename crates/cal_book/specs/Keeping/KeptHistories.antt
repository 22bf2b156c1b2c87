-- What a history keeps, as contracts see it: the store, and the entries of the changes that led to it. That both are in step is what it is for.
-- Given: what is kept. Gives: the users, the state and the origins of its objects.
use Rattle.std.specs.Prelude.{◌≡◌, ℕ, List}
use Rattle.cal_model.specs.History.Journal.{Entry, replay, IsAcceptedAt, IsLegal}
use Rattle.cal_model.specs.History.Origins.{Origins, AreLive}
use Rattle.cal_model.specs.State.ServerState.{Directory, ServerState, directory_of}
use Rattle.cal_model.specs.State.SoundStates.{IsSoundChange}
use Rattle.cal_model.specs.State.UserNames.{AreToldApart}
use Rattle.cal_model.specs.Users.UsersFile.{Users}
use Rattle.cal_journal.specs.Behind.{IsBehind}
use Rattle.cal_journal.specs.KeptEntries.{AreSound}
use Rattle.collections.specs.Kept.{Kept as KeptStore, state_of, users_of, origins_of}

-- the users, the store, the entries in their order, and for how many more there is room
pub record Kept : Type 0 where
  pub users : Users
  pub store : KeptStore
  pub journal : List Entry
  pub room : ℕ

abbrev pub users_in : Kept → Users
users_in kept = kept.users

abbrev pub directory_in : Kept → Directory
directory_in kept = directory_of kept.users

abbrev pub state_in : Kept → ServerState
state_in kept = state_of kept.store

abbrev pub origins_in : Kept → Origins
origins_in kept = origins_of kept.store

-- Each entry was accepted at its place; together they lead to the store, and its origins are those of the objects that they left.
pub record IsInStep (users : Users) (store : KeptStore) (journal : List Entry) : Type 0 where
  pub same : users_of store ≡ directory_of users
  pub told : AreToldApart (directory_of users)
  pub legal : IsLegal (directory_of users) journal
  pub sound : AreSound (directory_of users) journal
  pub state_is : state_of store ≡ replay (directory_of users) journal
  pub live : AreLive journal (origins_of store)

-- What looks share is the state behind so many of the entries.
pub record IsShownAt (users : Users) (shown : KeptStore) (followed : ℕ) (journal : List Entry) : Type 0 where
  pub same : users_of shown ≡ directory_of users
  pub behind : IsBehind (directory_of users) journal followed (state_of shown) (origins_of shown)

-- Both hold of each history that is kept.
pub record IsHistory (users : Users) (store : KeptStore) (journal : List Entry) (shown : KeptStore) (followed : ℕ) : Type 0 where
  pub step : IsInStep users store journal
  pub shown_at : IsShownAt users shown followed journal

-- What is shown is the state of now, with its users, and the origins are those of the objects that the entries left.
pub record IsShownNow (kept : Kept) (shown : KeptStore) : Type 0 where
  pub directory : users_of shown ≡ directory_in kept
  pub state : state_of shown ≡ state_in kept
  pub origins : AreLive kept.journal (origins_of shown)

-- an entry may come next: its request is accepted, and it names what can be named
pub record IsNext (directory : Directory) (state : ServerState) (entry : Entry) : Type 0 where
  pub accepted : IsAcceptedAt directory state entry
  pub sound : IsSoundChange directory entry.change
