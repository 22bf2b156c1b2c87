-- Every accepted change is accepted again from its entry: the laws of the six changes, by the method, the path and the content of any request.
use Rattle.std.proofs.Common.{◌≡◌, ℕ, List, [], ◌++◌, Option, Some, None, refl, sym, ap, ◌∙◌, subst}
use Rattle.std.specs.Prelude.{ℤ, option_and_then}
use Rattle.cal_model.specs.declared.path.Path.{Path}
use Rattle.cal_model.specs.declared.path.Path.TheVariants as path
use Rattle.cal_model.specs.declared.request.Content.{Content}
use Rattle.cal_model.specs.declared.request.Content.TheVariants as content
use Rattle.cal_model.specs.declared.request.Event.{Event}
use Rattle.cal_model.specs.declared.request.Method.{Method}
use Rattle.cal_model.specs.declared.request.Method.TheVariants as method
use Rattle.cal_model.specs.declared.request.Tags.{Tags}
use Rattle.cal_model.specs.Objects.ObjectReading.{first_there}
use Rattle.cal_model.specs.Requests.ContentBounds.{SizeIsTold}
use Rattle.cal_model.specs.State.ServerState.{Directory, ServerState, user_number}
use Rattle.cal_model.specs.State.Changes.{Change, change_of, change_of_object, change_of_calendar}
use Rattle.cal_model.specs.Sight.Scenes.{Scene}
use Rattle.cal_model.specs.Sight.Views.{whole_sight}
use Rattle.cal_model.specs.Refusals.SharedRefusals.{shared_rows}
use Rattle.cal_model.specs.Serving.Outcomes.{accepted, outcome, rows_of_change, changed, scene_by}
use Rattle.cal_model.specs.History.Journal.{asked, replay, entry_of}
use Rattle.cal_model.specs.History.HistoryLaws.{AcceptedIsReplayed, AcceptedKeepsLegal}
use Rattle.cal_model.proofs.History.JournalLaws.{push-accepted}
use Rattle.cal_model.proofs.History.ReplayLaws.{NoRow, no_row, some≢none, first_there-none, accepted-rows, accepted-none, when-false, user_name-number, bare_request, event_with, put-replayed, make-replayed, patch-replayed, acl-replayed}

-- that an event is accepted, and that its entry is
abbrev IsDone : Directory → ServerState → ServerState → ℕ → Event → Type 0
IsDone directory state after status event = outcome directory state event ≡ accepted status after

abbrev IsDoneAgain : Directory → ServerState → ServerState → ℕ → Event → Change → Type 0
IsDoneAgain directory state after status event change = outcome directory state (asked directory (entry_of event change status)) ≡ accepted status after

-- a deletion looks neither at its content nor at its size, if nothing was wrong with them
shared_deletion : (scene : Scene) (at : Path) (what : Content) (if_match unless_match : Option Tags) (size : ℕ)
    → NoRow (shared_rows scene (bare_request method.Delete at what if_match unless_match size) ++ [])
    → NoRow (shared_rows scene (bare_request method.Delete at content.None None None 0) ++ [])
unfolding shared_rows
shared_deletion scene at what if_match unless_match size n = (n.0, (n.1.0, (n.1.1.0, (refl, (when-false _ _, (when-false _ _, tt))))))

deletion-plain : (directory : Directory) (state after : ServerState) (session who : ℕ) (moment : ℤ) (at : Path) (what : Content) (if_match unless_match : Option Tags) (size status : ℕ)
    → change_of directory (bare_request method.Delete at what if_match unless_match size) ≡ change_of directory (bare_request method.Delete at content.None None None 0)
    → IsDone directory state after status (event_with session who moment (bare_request method.Delete at what if_match unless_match size))
    → IsDone directory state after status (event_with session who moment (bare_request method.Delete at content.None None None 0))
unfolding outcome
deletion-plain directory state after session who moment at what if_match unless_match size status same e =
    let given = bare_request method.Delete at what if_match unless_match size in
    let bare = bare_request method.Delete at content.None None None 0 in
    let scene = scene_by whole_sight directory state (event_with session who moment bare) in
    let parts = accepted-rows (first_there (rows_of_change state scene given)) (changed state scene method.Delete (change_of directory given)) status after e in
    accepted-none (first_there (rows_of_change state scene bare)) (changed state scene method.Delete (change_of directory bare)) status after
    (first_there-none (rows_of_change state scene bare) (shared_deletion scene at what if_match unless_match size (no_row (rows_of_change state scene given) parts.0)))
    (ap (changed state scene method.Delete) (sym same) ∙ parts.1)

-- the change that is asked for is the one that there is
one_change : (a b : Change) → Some a ≡ Some b → a ≡ b
one_change a b e = ap (λ o. value_or a o) e where
  value_or : Change → Option Change → Change
  value_or other None = other
  value_or other (Some change) = change

-- Objects

of_object : (directory : Directory) (state after : ServerState) (session who : ℕ) (moment : ℤ) (user calendar object : List ℕ) (how : Method) (what : Content)
    (if_match unless_match : Option Tags) (size status home : ℕ) (change : Change)
    → user_number directory user ≡ Some home → SizeIsTold size what → change_of_object how what home calendar object ≡ Some change
    → IsDone directory state after status (event_with session who moment (bare_request how (path.Object user calendar object) what if_match unless_match size))
    → IsDoneAgain directory state after status (event_with session who moment (bare_request how (path.Object user calendar object) what if_match unless_match size)) change
unfolding change_of
of_object directory state after session who moment user calendar object method.Put (content.Put media_ok octets) if_match unless_match size status home change known told asks done =
    subst (IsDoneAgain directory state after status (event_with session who moment (bare_request method.Put (path.Object user calendar object) (content.Put media_ok octets) if_match unless_match size)))
    (one_change _ change asks)
    (put-replayed directory state after session who moment user calendar object octets media_ok if_match unless_match status home known
    (subst (λ n. IsDone directory state after status (event_with session who moment (bare_request method.Put (path.Object user calendar object) (content.Put media_ok octets) if_match unless_match n))) told done))
of_object directory state after session who moment user calendar object method.Delete what if_match unless_match size status home change known told asks done =
    subst (IsDoneAgain directory state after status (event_with session who moment (bare_request method.Delete (path.Object user calendar object) what if_match unless_match size)))
    (one_change _ change asks)
    (subst (λ name. IsDone directory state after status (event_with session who moment (bare_request method.Delete (path.Object name calendar object) content.None None None 0)))
    (sym (user_name-number directory user home known))
    (deletion-plain directory state after session who moment (path.Object user calendar object) what if_match unless_match size status refl done))
of_object directory state after session who moment user calendar object method.Put content.None if_match unless_match size status home change known told asks done = absurd (some≢none change (sym asks))
of_object directory state after session who moment user calendar object method.Put (content.Find props deep) if_match unless_match size status home change known told asks done = absurd (some≢none change (sym asks))
of_object directory state after session who moment user calendar object method.Put (content.Patch sets) if_match unless_match size status home change known told asks done = absurd (some≢none change (sym asks))
of_object directory state after session who moment user calendar object method.Put (content.Make sets) if_match unless_match size status home change known told asks done = absurd (some≢none change (sym asks))
of_object directory state after session who moment user calendar object method.Put (content.Acl grants) if_match unless_match size status home change known told asks done = absurd (some≢none change (sym asks))
of_object directory state after session who moment user calendar object method.Put (content.Report report) if_match unless_match size status home change known told asks done = absurd (some≢none change (sym asks))
of_object directory state after session who moment user calendar object method.Put (content.Bad refusal) if_match unless_match size status home change known told asks done = absurd (some≢none change (sym asks))
of_object directory state after session who moment user calendar object method.Options what if_match unless_match size status home change known told asks done = absurd (some≢none change (sym asks))
of_object directory state after session who moment user calendar object method.Get what if_match unless_match size status home change known told asks done = absurd (some≢none change (sym asks))
of_object directory state after session who moment user calendar object method.Head what if_match unless_match size status home change known told asks done = absurd (some≢none change (sym asks))
of_object directory state after session who moment user calendar object method.Propfind what if_match unless_match size status home change known told asks done = absurd (some≢none change (sym asks))
of_object directory state after session who moment user calendar object method.Proppatch what if_match unless_match size status home change known told asks done = absurd (some≢none change (sym asks))
of_object directory state after session who moment user calendar object method.Report what if_match unless_match size status home change known told asks done = absurd (some≢none change (sym asks))
of_object directory state after session who moment user calendar object method.Mkcalendar what if_match unless_match size status home change known told asks done = absurd (some≢none change (sym asks))
of_object directory state after session who moment user calendar object method.Acl what if_match unless_match size status home change known told asks done = absurd (some≢none change (sym asks))

of_found_object : (directory : Directory) (state after : ServerState) (session who : ℕ) (moment : ℤ) (user calendar object : List ℕ) (how : Method) (what : Content)
    (if_match unless_match : Option Tags) (size status : ℕ) (found : Option ℕ) (change : Change)
    → user_number directory user ≡ found → SizeIsTold size what → option_and_then (λ home. change_of_object how what home calendar object) found ≡ Some change
    → IsDone directory state after status (event_with session who moment (bare_request how (path.Object user calendar object) what if_match unless_match size))
    → IsDoneAgain directory state after status (event_with session who moment (bare_request how (path.Object user calendar object) what if_match unless_match size)) change
of_found_object directory state after session who moment user calendar object how what if_match unless_match size status None change known told asks done = absurd (some≢none change (sym asks))
of_found_object directory state after session who moment user calendar object how what if_match unless_match size status (Some home) change known told asks done =
    of_object directory state after session who moment user calendar object how what if_match unless_match size status home change known told asks done

-- Calendars

of_calendar : (directory : Directory) (state after : ServerState) (session who : ℕ) (moment : ℤ) (user calendar : List ℕ) (how : Method) (what : Content)
    (if_match unless_match : Option Tags) (size status home : ℕ) (change : Change)
    → user_number directory user ≡ Some home → change_of_calendar how what home calendar size ≡ Some change
    → IsDone directory state after status (event_with session who moment (bare_request how (path.Calendar user calendar) what if_match unless_match size))
    → IsDoneAgain directory state after status (event_with session who moment (bare_request how (path.Calendar user calendar) what if_match unless_match size)) change
unfolding change_of
of_calendar directory state after session who moment user calendar method.Delete what if_match unless_match size status home change known asks done =
    subst (IsDoneAgain directory state after status (event_with session who moment (bare_request method.Delete (path.Calendar user calendar) what if_match unless_match size)))
    (one_change _ change asks)
    (subst (λ name. IsDone directory state after status (event_with session who moment (bare_request method.Delete (path.Calendar name calendar) content.None None None 0)))
    (sym (user_name-number directory user home known))
    (deletion-plain directory state after session who moment (path.Calendar user calendar) what if_match unless_match size status refl done))
of_calendar directory state after session who moment user calendar method.Mkcalendar (content.Make sets) if_match unless_match size status home change known asks done =
    subst (IsDoneAgain directory state after status (event_with session who moment (bare_request method.Mkcalendar (path.Calendar user calendar) (content.Make sets) if_match unless_match size)))
    (one_change _ change asks)
    (make-replayed directory state after session who moment user calendar sets if_match unless_match size status home known done)
of_calendar directory state after session who moment user calendar method.Proppatch (content.Patch sets) if_match unless_match size status home change known asks done =
    subst (IsDoneAgain directory state after status (event_with session who moment (bare_request method.Proppatch (path.Calendar user calendar) (content.Patch sets) if_match unless_match size)))
    (one_change _ change asks)
    (patch-replayed directory state after session who moment user calendar sets if_match unless_match size status home known done)
of_calendar directory state after session who moment user calendar method.Acl (content.Acl grants) if_match unless_match size status home change known asks done =
    subst (IsDoneAgain directory state after status (event_with session who moment (bare_request method.Acl (path.Calendar user calendar) (content.Acl grants) if_match unless_match size)))
    (one_change _ change asks)
    (acl-replayed directory state after session who moment user calendar grants if_match unless_match size status home known done)
of_calendar directory state after session who moment user calendar method.Mkcalendar content.None if_match unless_match size status home change known asks done = absurd (some≢none change (sym asks))
of_calendar directory state after session who moment user calendar method.Mkcalendar (content.Put media_ok octets) if_match unless_match size status home change known asks done = absurd (some≢none change (sym asks))
of_calendar directory state after session who moment user calendar method.Mkcalendar (content.Find props deep) if_match unless_match size status home change known asks done = absurd (some≢none change (sym asks))
of_calendar directory state after session who moment user calendar method.Mkcalendar (content.Patch sets) if_match unless_match size status home change known asks done = absurd (some≢none change (sym asks))
of_calendar directory state after session who moment user calendar method.Mkcalendar (content.Acl grants) if_match unless_match size status home change known asks done = absurd (some≢none change (sym asks))
of_calendar directory state after session who moment user calendar method.Mkcalendar (content.Report report) if_match unless_match size status home change known asks done = absurd (some≢none change (sym asks))
of_calendar directory state after session who moment user calendar method.Mkcalendar (content.Bad refusal) if_match unless_match size status home change known asks done = absurd (some≢none change (sym asks))
of_calendar directory state after session who moment user calendar method.Proppatch content.None if_match unless_match size status home change known asks done = absurd (some≢none change (sym asks))
of_calendar directory state after session who moment user calendar method.Proppatch (content.Put media_ok octets) if_match unless_match size status home change known asks done = absurd (some≢none change (sym asks))
of_calendar directory state after session who moment user calendar method.Proppatch (content.Find props deep) if_match unless_match size status home change known asks done = absurd (some≢none change (sym asks))
of_calendar directory state after session who moment user calendar method.Proppatch (content.Make sets) if_match unless_match size status home change known asks done = absurd (some≢none change (sym asks))
of_calendar directory state after session who moment user calendar method.Proppatch (content.Acl grants) if_match unless_match size status home change known asks done = absurd (some≢none change (sym asks))
of_calendar directory state after session who moment user calendar method.Proppatch (content.Report report) if_match unless_match size status home change known asks done = absurd (some≢none change (sym asks))
of_calendar directory state after session who moment user calendar method.Proppatch (content.Bad refusal) if_match unless_match size status home change known asks done = absurd (some≢none change (sym asks))
of_calendar directory state after session who moment user calendar method.Acl content.None if_match unless_match size status home change known asks done = absurd (some≢none change (sym asks))
of_calendar directory state after session who moment user calendar method.Acl (content.Put media_ok octets) if_match unless_match size status home change known asks done = absurd (some≢none change (sym asks))
of_calendar directory state after session who moment user calendar method.Acl (content.Find props deep) if_match unless_match size status home change known asks done = absurd (some≢none change (sym asks))
of_calendar directory state after session who moment user calendar method.Acl (content.Patch sets) if_match unless_match size status home change known asks done = absurd (some≢none change (sym asks))
of_calendar directory state after session who moment user calendar method.Acl (content.Make sets) if_match unless_match size status home change known asks done = absurd (some≢none change (sym asks))
of_calendar directory state after session who moment user calendar method.Acl (content.Report report) if_match unless_match size status home change known asks done = absurd (some≢none change (sym asks))
of_calendar directory state after session who moment user calendar method.Acl (content.Bad refusal) if_match unless_match size status home change known asks done = absurd (some≢none change (sym asks))
of_calendar directory state after session who moment user calendar method.Options what if_match unless_match size status home change known asks done = absurd (some≢none change (sym asks))
of_calendar directory state after session who moment user calendar method.Get what if_match unless_match size status home change known asks done = absurd (some≢none change (sym asks))
of_calendar directory state after session who moment user calendar method.Head what if_match unless_match size status home change known asks done = absurd (some≢none change (sym asks))
of_calendar directory state after session who moment user calendar method.Put what if_match unless_match size status home change known asks done = absurd (some≢none change (sym asks))
of_calendar directory state after session who moment user calendar method.Propfind what if_match unless_match size status home change known asks done = absurd (some≢none change (sym asks))
of_calendar directory state after session who moment user calendar method.Report what if_match unless_match size status home change known asks done = absurd (some≢none change (sym asks))

of_found_calendar : (directory : Directory) (state after : ServerState) (session who : ℕ) (moment : ℤ) (user calendar : List ℕ) (how : Method) (what : Content)
    (if_match unless_match : Option Tags) (size status : ℕ) (found : Option ℕ) (change : Change)
    → user_number directory user ≡ found → option_and_then (λ home. change_of_calendar how what home calendar size) found ≡ Some change
    → IsDone directory state after status (event_with session who moment (bare_request how (path.Calendar user calendar) what if_match unless_match size))
    → IsDoneAgain directory state after status (event_with session who moment (bare_request how (path.Calendar user calendar) what if_match unless_match size)) change
of_found_calendar directory state after session who moment user calendar how what if_match unless_match size status None change known asks done = absurd (some≢none change (sym asks))
of_found_calendar directory state after session who moment user calendar how what if_match unless_match size status (Some home) change known asks done =
    of_calendar directory state after session who moment user calendar how what if_match unless_match size status home change known asks done

-- Requests

of_path : (directory : Directory) (state after : ServerState) (session who : ℕ) (moment : ℤ) (how : Method) (at : Path) (what : Content)
    (if_match unless_match : Option Tags) (size status : ℕ) (change : Change)
    → SizeIsTold size what → change_of directory (bare_request how at what if_match unless_match size) ≡ Some change
    → IsDone directory state after status (event_with session who moment (bare_request how at what if_match unless_match size))
    → IsDoneAgain directory state after status (event_with session who moment (bare_request how at what if_match unless_match size)) change
unfolding change_of
of_path directory state after session who moment how (path.Object user calendar object) what if_match unless_match size status change told asks done =
    of_found_object directory state after session who moment user calendar object how what if_match unless_match size status (user_number directory user) change refl told asks done
of_path directory state after session who moment how (path.Calendar user calendar) what if_match unless_match size status change told asks done =
    of_found_calendar directory state after session who moment user calendar how what if_match unless_match size status (user_number directory user) change refl asks done
of_path directory state after session who moment how path.Root what if_match unless_match size status change told asks done = absurd (some≢none change (sym asks))
of_path directory state after session who moment how (path.Principal user) what if_match unless_match size status change told asks done = absurd (some≢none change (sym asks))
of_path directory state after session who moment how (path.Home user) what if_match unless_match size status change told asks done = absurd (some≢none change (sym asks))

-- An accepted change is accepted again from its entry.
pub accepted_is_replayed : AcceptedIsReplayed
accepted_is_replayed directory state after event status change told asks done =
    of_path directory state after event.session event.who event.moment event.request.method event.request.path event.request.content event.request.if_match event.request.if_none event.request.size status change told asks done

-- So the journal with it is legal.
pub accepted_keeps_legal : AcceptedKeepsLegal
accepted_keeps_legal directory journal after event status change legal told asks done =
    push-accepted directory journal (entry_of event change status) after legal
    (accepted_is_replayed directory (replay directory journal) after event status change told asks done)
