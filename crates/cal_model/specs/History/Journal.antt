-- The journal: the changes that were accepted, in their order. What each was asked by, the state that they lead to, and when a journal is legal. It is this project's own.
-- Given: the users and the entries. An entry is asked again without the conditions of its request, which were met when it was accepted.
use Rattle.std.specs.Prelude.{◌≡◌, ℕ, true, List, [], ◌∷◌, length, fold, None, ℤ}
use Rattle.cal_model.specs.declared.path.Path.{Path}
use Rattle.cal_model.specs.declared.path.Path.TheVariants.{Calendar, Object}
use Rattle.cal_model.specs.declared.request.Content.{Content}
use Rattle.cal_model.specs.declared.request.Content.TheVariants as content
use Rattle.cal_model.specs.declared.request.Event.{Event}
use Rattle.cal_model.specs.declared.request.Method.{Method}
use Rattle.cal_model.specs.declared.request.Method.TheVariants.{Put, Delete, Mkcalendar, Proppatch, Acl}
use Rattle.cal_model.specs.declared.request.Request.{Request}
use Rattle.cal_model.specs.State.ServerState.{Directory, ServerState, opening_state, user_name}
use Rattle.cal_model.specs.State.Changes.{Change, put, delete_object, delete_calendar, make, patch, acl}
use Rattle.cal_model.specs.Serving.Outcomes.{accepted, outcome}
use Rattle.cal_model.specs.Serving.EventReplies.{state_after}

-- an accepted change: on which session, by whom, when, and with which status
pub record Entry : Type 0 where
  pub session : ℕ
  pub who : ℕ
  pub moment : ℤ
  pub change : Change
  pub status : ℕ

-- What asked for it

-- a request without conditions
abbrev pub plain : Method → Path → ℕ → Content → Request
plain method path size content = record { method = method; path = path; if_match = None; if_none = None; size = size; content = content }

-- the request that a change names; that of a deletion has no body
abbrev pub request_for : Directory → Change → Request
request_for directory (put home calendar object octets) =
    plain Put (Object (user_name directory home) calendar object) (length octets) (content.Put true octets)
request_for directory (delete_object home calendar object) = plain Delete (Object (user_name directory home) calendar object) 0 content.None
request_for directory (delete_calendar home calendar) = plain Delete (Calendar (user_name directory home) calendar) 0 content.None
request_for directory (make home calendar sets size) = plain Mkcalendar (Calendar (user_name directory home) calendar) size (content.Make sets)
request_for directory (patch home calendar sets size) = plain Proppatch (Calendar (user_name directory home) calendar) size (content.Patch sets)
request_for directory (acl home calendar grants size) = plain Acl (Calendar (user_name directory home) calendar) size (content.Acl grants)

abbrev pub asked : Directory → Entry → Event
asked directory entry = record { session = entry.session; who = entry.who; moment = entry.moment; request = request_for directory entry.change }

-- Where it leads

-- the state after all entries, from one state, and from the opening state
abbrev pub replay_from : Directory → ServerState → List Entry → ServerState
replay_from directory state entries = fold (λ before entry. state_after directory before (asked directory entry)) state entries

abbrev pub replay : Directory → List Entry → ServerState
replay directory journal = replay_from directory (opening_state directory) journal

-- what each entry's request asked is accepted at its place, with its status
abbrev pub IsAcceptedAt : Directory → ServerState → Entry → Type 0
IsAcceptedAt directory state entry =
    outcome directory state (asked directory entry) ≡ accepted entry.status (state_after directory state (asked directory entry))

abbrev pub IsLegalFrom : Directory → ServerState → List Entry → Type 0
IsLegalFrom directory state [] = Unit {0}
IsLegalFrom directory state (entry ∷ entries) =
    IsAcceptedAt directory state entry × IsLegalFrom directory (state_after directory state (asked directory entry)) entries

abbrev pub IsLegal : Directory → List Entry → Type 0
IsLegal directory journal = IsLegalFrom directory (opening_state directory) journal

-- the entry that an event makes, where it is accepted
abbrev pub entry_of : Event → Change → ℕ → Entry
entry_of event change status = record { session = event.session; who = event.who; moment = event.moment; change = change; status = status }
