-- What is told of a request that changes something, in the words of outcomes (RFC 9110, 9.3 and 15.3; RFC 4791, 5.3; RFC 4918, 9; RFC 3744, 8.1).
-- Given: the users, a state, an event and an answer.
use Rattle.std.specs.Prelude.{◌≡◌, ◌≢◌, ℕ, true, false, Some, IsSome}
use Rattle.cal_model.specs.declared.change.Change.{Change as KeptChange}
use Rattle.cal_model.specs.declared.path.Path.{Path}
use Rattle.cal_model.specs.declared.path.Path.TheVariants as path
use Rattle.cal_model.specs.declared.reply.Reply.{Reply}
use Rattle.cal_model.specs.declared.request.Event.{Event}
use Rattle.cal_model.specs.declared.request.Request.{Request}
use Rattle.cal_model.specs.History.KeptChanges.{kept_change, is_deletion}
use Rattle.cal_model.specs.Requests.BookableRequests.{IsBookable}
use Rattle.cal_model.specs.Serving.EventReplies.{reply_to_change}
use Rattle.cal_model.specs.Serving.Outcomes.{accepted, unchanged, outcome}
use Rattle.cal_model.specs.State.Changes.{Change, delete_object, delete_calendar, effect, change_of}
use Rattle.cal_model.specs.State.ServerState.{Directory, ServerState, directory_of, calendar_at, octets_at}
use Rattle.cal_model.specs.State.SoundStates.{IsSoundChange}
use Rattle.cal_model.specs.Users.UsersFile.{Users}
use Rattle.cal_book.specs.declared.changes.check.ChangeCheck.{ChangeCheck}
use Rattle.cal_book.specs.declared.changes.check.ChangeCheck.TheVariants.{Made, Deletes, Refused, NoMemory}

-- a request that one of these users can ask for
pub record IsAskedOf (directory : Directory) (who : ℕ) (request : Request) : Type 0 where
  pub users : Users
  pub users_are : directory_of users ≡ directory
  pub bookable : IsBookable users who request

-- Answers

-- it is accepted: this change is the one that is asked for, it keeps the state sound, and this is the reply to it
pub record IsMade (directory : Directory) (state : ServerState) (event : Event) (change : KeptChange) (reply : Reply) : Type 0 where
  pub asked_is : change_of directory event.request ≡ Some (kept_change change)
  pub accepted_is : outcome directory state event ≡ accepted reply.status (effect (kept_change change) state)
  pub reply_is : reply ≡ reply_to_change reply.status event.request event.request.content
  pub adds : is_deletion (kept_change change) ≡ false
  pub sound : IsSoundChange directory (kept_change change)

-- what a path names is there, and is what a change deletes
abbrev pub IsDeleted : ServerState → ℕ → Path → Change → Type 0
IsDeleted state home (path.Object user calendar object) change = (change ≡ delete_object home calendar object) × IsSome (octets_at state home calendar object)
IsDeleted state home (path.Calendar user calendar) change = (change ≡ delete_calendar home calendar) × IsSome (calendar_at state home calendar)
IsDeleted state home other change = ⊥

-- it is accepted, and deletes what its path names
pub record IsDeletion (directory : Directory) (state : ServerState) (event : Event) (home : ℕ) : Type 0 where
  pub change : Change
  pub asked_is : change_of directory event.request ≡ Some change
  pub accepted_is : outcome directory state event ≡ accepted 204 (effect change state)
  pub deletes : is_deletion change ≡ true
  pub deleted : IsDeleted state home event.request.path change

-- the answer is the outcome; want of memory says nothing of it
abbrev pub IsChecked : Directory → ServerState → Event → ChangeCheck → Type 0
IsChecked directory state event (Made change reply) = IsMade directory state event change reply
IsChecked directory state event (Deletes home) = IsDeletion directory state event home
IsChecked directory state event (Refused reply) = outcome directory state event ≡ unchanged reply
IsChecked directory state event NoMemory = Unit {0}

-- Want of memory

abbrev pub IsDecided : ChangeCheck → Type 0
IsDecided NoMemory = ⊥
IsDecided other = Unit {0}

-- what holds where memory was missing
abbrev pub IfUndecided : ChangeCheck → Type 0 → Type 0
IfUndecided NoMemory holds = holds
IfUndecided other holds = Unit {0}

-- Room

-- a refusal for want of a privilege, which has status 403, may use up the room; all else keeps it
abbrev pub KeepsRoom : ChangeCheck → Type 0
KeepsRoom (Refused reply) = reply.status ≢ 403
KeepsRoom other = Unit {0}
