-- What the rows of a request's own method make of it, once no shared row refuses it.
-- Given: the users, a state, what stands at the path, and the request.
use Rattle.std.specs.Prelude.{◌≡◌, ℕ, true, false, List, Option, Some, None}
use Rattle.cal_model.specs.declared.change.Change.{Change as KeptChange}
use Rattle.cal_model.specs.declared.reply.Reply.{Reply}
use Rattle.cal_model.specs.declared.request.Request.{Request}
use Rattle.cal_model.specs.History.KeptChanges.{kept_change, is_deletion}
use Rattle.cal_model.specs.Objects.ObjectReading.{first_there}
use Rattle.cal_model.specs.Refusals.ChangeRefusals.{own_rows}
use Rattle.cal_model.specs.Serving.EventReplies.{reply_to_change}
use Rattle.cal_model.specs.Serving.Outcomes.{accepted_status}
use Rattle.cal_model.specs.Sight.Scenes.{Scene as Sighted}
use Rattle.cal_model.specs.State.Changes.{Change, change_of}
use Rattle.cal_model.specs.State.ServerState.{Directory, ServerState}
use Rattle.cal_model.specs.State.SoundStates.{IsSoundChange}
use Rattle.cal_book.specs.declared.changes.check.ChangeCheck.{ChangeCheck}
use Rattle.cal_book.specs.declared.changes.check.ChangeCheck.TheVariants.{Made, Deletes, Refused, NoMemory}
use Rattle.cal_book.specs.Checking.Checks.{IsDeleted}

-- the first of the method's own rows that refuses
abbrev pub own_refusal : ServerState → Sighted → Request → Option Reply
own_refusal state scene request = first_there (own_rows state scene request request.method)

pub record IsOwnMade (directory : Directory) (state : ServerState) (scene : Sighted) (request : Request) (change : KeptChange) (reply : Reply) : Type 0 where
  pub passes : own_refusal state scene request ≡ None
  pub asked_is : change_of directory request ≡ Some (kept_change change)
  pub status_is : reply.status ≡ accepted_status scene request.method
  pub reply_is : reply ≡ reply_to_change reply.status request request.content
  pub adds : is_deletion (kept_change change) ≡ false
  pub sound : IsSoundChange directory (kept_change change)

pub record IsOwnDeletion (directory : Directory) (state : ServerState) (scene : Sighted) (request : Request) (home : ℕ) : Type 0 where
  pub passes : own_refusal state scene request ≡ None
  pub change : Change
  pub asked_is : change_of directory request ≡ Some change
  pub status_is : accepted_status scene request.method ≡ 204
  pub deletes : is_deletion change ≡ true
  pub deleted : IsDeleted state home request.path change

-- what is told of a request that no shared row refuses
abbrev pub IsOwnChecked : Directory → ServerState → Sighted → Request → ChangeCheck → Type 0
IsOwnChecked directory state scene request (Made change reply) = IsOwnMade directory state scene request change reply
IsOwnChecked directory state scene request (Deletes home) = IsOwnDeletion directory state scene request home
IsOwnChecked directory state scene request (Refused reply) = own_refusal state scene request ≡ Some reply
IsOwnChecked directory state scene request NoMemory = Unit {0}

-- what is told by some rows: the reply of the first that refuses, or where none does this change with this reply
abbrev pub IsTold : List (Option Reply) → Change → Reply → ChangeCheck → Type 0
IsTold rows change reply (Made made replied) = (first_there rows ≡ None) × (kept_change made ≡ change) × (replied ≡ reply)
IsTold rows change reply (Deletes home) = ⊥
IsTold rows change reply (Refused replied) = first_there rows ≡ Some replied
IsTold rows change reply NoMemory = Unit {0}

-- it is refused with this reply
abbrev pub IsRefusal : Reply → ChangeCheck → Type 0
IsRefusal reply (Made made replied) = ⊥
IsRefusal reply (Deletes home) = ⊥
IsRefusal reply (Refused replied) = replied ≡ reply
IsRefusal reply NoMemory = Unit {0}
