-- What an entry asks of users: its own change; and for the new users the change with their numbers.
use Rattle.std.proofs.Common.{◌≡◌, ℕ, ◌<◌, true, List, length, Some, None, sym, ap, arith}
use Rattle.std.specs.Prelude.{option_and_then}
use Rattle.std.proofs.lemmas.List.{length-map}
use Rattle.cal_model.specs.declared.request.Content.TheVariants as content
use Rattle.cal_model.specs.declared.request.Method.TheVariants as method
use Rattle.cal_model.specs.declared.path.Path.TheVariants as path
use Rattle.cal_model.specs.declared.request.Request.{Request}
use Rattle.cal_model.specs.History.Journal.{Entry, asked, request_for}
use Rattle.cal_model.specs.State.Changes.{Change, put, delete_object, delete_calendar, make, patch, acl, change_of, change_of_object, change_of_calendar}
use Rattle.cal_model.specs.State.ServerState.{directory_of, user_number, user_name}
use Rattle.cal_model.specs.State.UserNames.{AreToldApart}
use Rattle.cal_model.specs.Users.UsersFile.{User, Users}
use Rattle.cal_keeper.specs.Files.Payloads.{home_of}
use Rattle.journal_migration.specs.Renumbering.{AreAllIn, moved_user, moved_change, moved_content, moved_entry, moved_event}
use Rattle.journal_migration.proofs.NameLaws.{same_name}

-- A change in a home of these users is what its request asks for

known : (users : Users) → AreToldApart (directory_of users) → (home : ℕ) → home < length users.people → user_number (directory_of users) (user_name (directory_of users) home) ≡ Some home
known users told home within = told.own home (omega (arith, within, length-map users.people (λ (user : User). user.name)))

pub own_change : (users : Users) → AreToldApart (directory_of users) → (change : Change) → home_of change < length users.people → change_of (directory_of users) (request_for (directory_of users) change) ≡ Some change
unfolding change_of
own_change users told (put home calendar object octets) within = ap (option_and_then (λ h. change_of_object method.Put (content.Put true octets) h calendar object)) (known users told home within)
own_change users told (delete_object home calendar object) within = ap (option_and_then (λ h. change_of_object method.Delete content.None h calendar object)) (known users told home within)
own_change users told (delete_calendar home calendar) within = ap (option_and_then (λ h. change_of_calendar method.Delete content.None h calendar 0)) (known users told home within)
own_change users told (make home calendar sets size) within = ap (option_and_then (λ h. change_of_calendar method.Mkcalendar (content.Make sets) h calendar size)) (known users told home within)
own_change users told (patch home calendar sets size) within = ap (option_and_then (λ h. change_of_calendar method.Proppatch (content.Patch sets) h calendar size)) (known users told home within)
own_change users told (acl home calendar grants size) within = ap (option_and_then (λ h. change_of_calendar method.Acl (content.Acl grants) h calendar size)) (known users told home within)

-- The event of an entry for the new users is that of the entry for them: its path has the same names

module _ (old new : Users) (all : AreAllIn old new) where
  request_moved : Request → Request
  request_moved request = record request { content = moved_content old new request.content }

  same_path : (home : ℕ) (into : List ℕ → Request) → home < length old.people → into (user_name (directory_of old) home) ≡ into (user_name (directory_of new) (moved_user old new home))
  same_path home into within = ap into (sym (same_name old new all home within))

  abbrev with_name : Change → List ℕ → Request
  with_name (put home calendar object octets) name = record { method = method.Put; path = path.Object name calendar object; if_match = None; if_none = None; size = length octets; content = content.Put true octets }
  with_name (delete_object home calendar object) name = record { method = method.Delete; path = path.Object name calendar object; if_match = None; if_none = None; size = 0; content = content.None }
  with_name (delete_calendar home calendar) name = record { method = method.Delete; path = path.Calendar name calendar; if_match = None; if_none = None; size = 0; content = content.None }
  with_name (make home calendar sets size) name = record { method = method.Mkcalendar; path = path.Calendar name calendar; if_match = None; if_none = None; size = size; content = content.Make sets }
  with_name (patch home calendar sets size) name = record { method = method.Proppatch; path = path.Calendar name calendar; if_match = None; if_none = None; size = size; content = content.Patch sets }
  with_name (acl home calendar grants size) name = record { method = method.Acl; path = path.Calendar name calendar; if_match = None; if_none = None; size = size; content = content.Acl grants }

  moved_request : (change : Change) → home_of change < length old.people
      → record (request_for (directory_of old) change) { content = moved_content old new (request_for (directory_of old) change).content } ≡ request_for (directory_of new) (moved_change old new change)
  moved_request (put home calendar object octets) within = same_path home (with_name (moved_change old new (put home calendar object octets))) within
  moved_request (delete_object home calendar object) within = same_path home (with_name (moved_change old new (delete_object home calendar object))) within
  moved_request (delete_calendar home calendar) within = same_path home (with_name (moved_change old new (delete_calendar home calendar))) within
  moved_request (make home calendar sets size) within = same_path home (with_name (moved_change old new (make home calendar sets size))) within
  moved_request (patch home calendar sets size) within = same_path home (with_name (moved_change old new (patch home calendar sets size))) within
  moved_request (acl home calendar grants size) within = same_path home (with_name (moved_change old new (acl home calendar grants size))) within

  pub moved_event-asked : (entry : Entry) → home_of entry.change < length old.people → moved_event old new (asked (directory_of old) entry) ≡ asked (directory_of new) (moved_entry old new entry)
  moved_event-asked entry within =
      ap (λ (request : Request). record { session = entry.session; who = moved_user old new entry.who; moment = entry.moment; request = request }) (moved_request entry.change within)
