-- What a check of a change tells of the event.
use Rattle.std.proofs.Common.{◌≡◌, ℕ, Bool, true, false, List, Option, Some, None, refl, sym, ap, ◌∙◌, subst}
use Rattle.std.specs.Prelude.{IsSome, option_and_then, Result, Ok, Err, OnOk}
use Rattle.std.proofs.lemmas.Bool.{false≢true}
use Rattle.cal_model.specs.declared.path.Path.{Path}
use Rattle.cal_model.specs.declared.path.Path.TheVariants as path
use Rattle.cal_model.specs.declared.property.PropSet.{PropSet}
use Rattle.cal_model.specs.declared.request.Content.{Content}
use Rattle.cal_model.specs.declared.request.Content.TheVariants as content
use Rattle.cal_model.specs.declared.request.Event.{Event}
use Rattle.cal_model.specs.declared.request.Method.TheVariants as method
use Rattle.cal_model.specs.declared.request.Request.{Request}
use Rattle.cal_model.specs.History.Journal.{entry_of}
use Rattle.cal_model.specs.History.KeptChanges.{is_deletion}
use Rattle.cal_model.specs.Replies.BareReplies.{bare_reply}
use Rattle.cal_model.specs.Requests.MethodContents.{Suits}
use Rattle.cal_model.specs.Requests.ContentBounds.{SizeIsTold}
use Rattle.cal_model.specs.Serving.EventReplies.{reply_to, reply_of, reply_to_change}
use Rattle.cal_model.specs.Serving.Outcomes.{accepted, outcome}
use Rattle.cal_model.specs.State.Changes.{Change, delete_object, delete_calendar, effect, change_of, change_of_object, change_of_calendar}
use Rattle.cal_model.specs.State.ServerState.{Directory, ServerState, user_number, calendar_at, octets_at}
use Rattle.cal_model.specs.State.SoundStates.{IsSoundChange}
use Rattle.cal_model.proofs.History.ReplayLaws.{some≢none}
use Rattle.cal_book.specs.Checking.Checks.{IsDeletion, IsDeleted}
use Rattle.cal_book.specs.Keeping.KeptHistories.{IsNext}
use Rattle.cal_book.proofs.Keeping.AcceptedEntries.{is_next}

of_some : (a b : Change) → Some a ≡ Some b → is_deletion a ≡ is_deletion b
of_some a b e = ap deletes e where
  deletes : Option Change → Bool
  deletes None = false
  deletes (Some c) = is_deletion c

-- a DELETE asks for a deletion, and for nothing else
object-deletes : (found : Option ℕ) (calendar object : List ℕ) (what : Content) (c : Change) → option_and_then (λ home. change_of_object method.Delete what home calendar object) found ≡ Some c → is_deletion c ≡ true
object-deletes None calendar object what c e = absurd (some≢none c (sym e))
object-deletes (Some home) calendar object what c e = sym (of_some _ _ e)

calendar-deletes : (found : Option ℕ) (calendar : List ℕ) (what : Content) (size : ℕ) (c : Change) → option_and_then (λ home. change_of_calendar method.Delete what home calendar size) found ≡ Some c → is_deletion c ≡ true
calendar-deletes None calendar what size c e = absurd (some≢none c (sym e))
calendar-deletes (Some home) calendar what size c e = sym (of_some _ _ e)

pub delete-asks : (directory : Directory) (request : Request) (c : Change) → request.method ≡ method.Delete → change_of directory request ≡ Some c → is_deletion c ≡ true
unfolding change_of
delete-asks directory request c deletes e = by request.path refl where
  by : (at : Path) → request.path ≡ at → is_deletion c ≡ true
  by path.Root is = absurd (some≢none c (sym e ∙ ap (λ p. change_of directory (record request { path = p })) is))
  by (path.Principal user) is = absurd (some≢none c (sym e ∙ ap (λ p. change_of directory (record request { path = p })) is))
  by (path.Home user) is = absurd (some≢none c (sym e ∙ ap (λ p. change_of directory (record request { path = p })) is))
  by (path.Calendar user calendar) is =
      calendar-deletes (user_number directory user) calendar request.content request.size c
      ((λ i. change_of directory (record request { path = sym is i; method = sym deletes i })) ∙ e)
  by (path.Object user calendar object) is =
      object-deletes (user_number directory user) calendar object request.content c
      ((λ i. change_of directory (record request { path = sym is i; method = sym deletes i })) ∙ e)

-- a PUT and a PROPPATCH ask for none
object-put : (found : Option ℕ) (calendar object : List ℕ) (media_ok : Bool) (octets : List ℕ) (c : Change) → option_and_then (λ home. change_of_object method.Put (content.Put media_ok octets) home calendar object) found ≡ Some c → is_deletion c ≡ false
object-put None calendar object media_ok octets c e = absurd (some≢none c (sym e))
object-put (Some home) calendar object media_ok octets c e = sym (of_some _ _ e)

no-calendar-put : (found : Option ℕ) (calendar : List ℕ) (what : Content) (size : ℕ) (c : Change) → option_and_then (λ home. change_of_calendar method.Put what home calendar size) found ≡ Some c → is_deletion c ≡ false
no-calendar-put None calendar what size c e = absurd (some≢none c (sym e))
no-calendar-put (Some home) calendar what size c e = absurd (some≢none c (sym e))

no-object-patch : (found : Option ℕ) (calendar object : List ℕ) (what : Content) (c : Change) → option_and_then (λ home. change_of_object method.Proppatch what home calendar object) found ≡ Some c → is_deletion c ≡ false
no-object-patch None calendar object what c e = absurd (some≢none c (sym e))
no-object-patch (Some home) calendar object what c e = absurd (some≢none c (sym e))

calendar-patch : (found : Option ℕ) (calendar : List ℕ) (sets : List PropSet) (size : ℕ) (c : Change) → option_and_then (λ home. change_of_calendar method.Proppatch (content.Patch sets) home calendar size) found ≡ Some c → is_deletion c ≡ false
calendar-patch None calendar sets size c e = absurd (some≢none c (sym e))
calendar-patch (Some home) calendar sets size c e = sym (of_some _ _ e)

put-adds : (directory : Directory) (request : Request) (media_ok : Bool) (octets : List ℕ) (c : Change) → request.method ≡ method.Put → request.content ≡ content.Put media_ok octets → change_of directory request ≡ Some c → is_deletion c ≡ false
unfolding change_of
put-adds directory request media_ok octets c how what e = by request.path refl where
  by : (at : Path) → request.path ≡ at → is_deletion c ≡ false
  by path.Root is = absurd (some≢none c (sym e ∙ ap (λ p. change_of directory (record request { path = p })) is))
  by (path.Principal user) is = absurd (some≢none c (sym e ∙ ap (λ p. change_of directory (record request { path = p })) is))
  by (path.Home user) is = absurd (some≢none c (sym e ∙ ap (λ p. change_of directory (record request { path = p })) is))
  by (path.Calendar user calendar) is =
      no-calendar-put (user_number directory user) calendar request.content request.size c ((λ i. change_of directory (record request { path = sym is i; method = sym how i })) ∙ e)
  by (path.Object user calendar object) is =
      object-put (user_number directory user) calendar object media_ok octets c ((λ i. change_of directory (record request { path = sym is i; method = sym how i; content = sym what i })) ∙ e)

patch-adds : (directory : Directory) (request : Request) (sets : List PropSet) (c : Change) → request.method ≡ method.Proppatch → request.content ≡ content.Patch sets → change_of directory request ≡ Some c → is_deletion c ≡ false
unfolding change_of
patch-adds directory request sets c how what e = by request.path refl where
  by : (at : Path) → request.path ≡ at → is_deletion c ≡ false
  by path.Root is = absurd (some≢none c (sym e ∙ ap (λ p. change_of directory (record request { path = p })) is))
  by (path.Principal user) is = absurd (some≢none c (sym e ∙ ap (λ p. change_of directory (record request { path = p })) is))
  by (path.Home user) is = absurd (some≢none c (sym e ∙ ap (λ p. change_of directory (record request { path = p })) is))
  by (path.Calendar user calendar) is =
      calendar-patch (user_number directory user) calendar sets request.size c ((λ i. change_of directory (record request { path = sym is i; method = sym how i; content = sym what i })) ∙ e)
  by (path.Object user calendar object) is =
      no-object-patch (user_number directory user) calendar object request.content c ((λ i. change_of directory (record request { path = sym is i; method = sym how i })) ∙ e)

-- The reply to a deletion is its status alone.
pub reply-deletion : (directory : Directory) (state : ServerState) (event : Event) (home : ℕ) → Suits event.request.method event.request.content → IsDeletion directory state event home
    → bare_reply 204 ≡ reply_to directory state event
reply-deletion directory state event home suits deletion =
    by event.request.content refl ∙ sym (ap (reply_of event.request) deletion.accepted_is) where
      suited : (what : Content) → event.request.content ≡ what → Suits event.request.method what
      suited what is = subst (Suits event.request.method) is suits

      by : (what : Content) → event.request.content ≡ what → bare_reply 204 ≡ reply_to_change 204 event.request event.request.content
      by content.None is = ap (reply_to_change 204 event.request) (sym is)
      by (content.Put media_ok octets) is =
          absurd (false≢true (sym (put-adds directory event.request media_ok octets deletion.change (suited _ is) is deletion.asked_is) ∙ deletion.deletes))
      by (content.Find props deep) is = ap (reply_to_change 204 event.request) (sym is)
      by (content.Patch sets) is =
          absurd (false≢true (sym (patch-adds directory event.request sets deletion.change (suited _ is) is deletion.asked_is) ∙ deletion.deletes))
      by (content.Make sets) is = ap (reply_to_change 204 event.request) (sym is)
      by (content.Acl grants) is = ap (reply_to_change 204 event.request) (sym is)
      by (content.Report report) is = ap (reply_to_change 204 event.request) (sym is)
      by (content.Bad refusal) is = ap (reply_to_change 204 event.request) (sym is)

-- What a path names is what the change deletes, and it is there.

deleted-at : (directory : Directory) (state : ServerState) (event : Event) (home : ℕ) (deletion : IsDeletion directory state event home) (at : Path) → event.request.path ≡ at → IsDeleted state home at deletion.change
deleted-at directory state event home deletion at is = subst (λ p. IsDeleted state home p deletion.change) is deletion.deleted

-- its entry may come next
next-deleted : (directory : Directory) (state : ServerState) (event : Event) (home : ℕ) (change : Change) → SizeIsTold event.request.size event.request.content → (deletion : IsDeletion directory state event home) → deletion.change ≡ change
    → IsSoundChange directory change → IsNext directory state (entry_of event change 204)
next-deleted directory state event home change told deletion is sound =
    is_next directory state (effect change state) event 204 change told (deletion.asked_is ∙ ap Some is) (deletion.accepted_is ∙ ap (λ c. accepted 204 (effect c state)) is) sound

pub record IsObjectDeleted (directory : Directory) (state : ServerState) (event : Event) (home : ℕ) (calendar object : List ℕ) : Type 0 where
  pub there : IsSome (octets_at state home calendar object)
  pub next : IsNext directory state (entry_of event (delete_object home calendar object) 204)
  pub asked_is : change_of directory event.request ≡ Some (delete_object home calendar object)
  pub accepted_is : outcome directory state event ≡ accepted 204 (effect (delete_object home calendar object) state)

pub object-deleted : (directory : Directory) (state : ServerState) (event : Event) (home : ℕ) (user calendar object : List ℕ) → SizeIsTold event.request.size event.request.content → IsDeletion directory state event home
    → event.request.path ≡ path.Object user calendar object → IsObjectDeleted directory state event home calendar object
object-deleted directory state event home user calendar object told deletion is =
    let here = deleted-at directory state event home deletion (path.Object user calendar object) is in
    record {
      there = here.1;
      next = next-deleted directory state event home (delete_object home calendar object) told deletion here.0 tt;
      asked_is = deletion.asked_is ∙ ap Some here.0;
      accepted_is = deletion.accepted_is ∙ ap (λ c. accepted 204 (effect c state)) here.0;
    }

pub record IsCalendarDeleted (directory : Directory) (state : ServerState) (event : Event) (home : ℕ) (calendar : List ℕ) : Type 0 where
  pub there : IsSome (calendar_at state home calendar)
  pub next : IsNext directory state (entry_of event (delete_calendar home calendar) 204)
  pub asked_is : change_of directory event.request ≡ Some (delete_calendar home calendar)
  pub accepted_is : outcome directory state event ≡ accepted 204 (effect (delete_calendar home calendar) state)

pub calendar-deleted : (directory : Directory) (state : ServerState) (event : Event) (home : ℕ) (user calendar : List ℕ) → SizeIsTold event.request.size event.request.content → IsDeletion directory state event home
    → event.request.path ≡ path.Calendar user calendar → IsCalendarDeleted directory state event home calendar
calendar-deleted directory state event home user calendar told deletion is =
    let here = deleted-at directory state event home deletion (path.Calendar user calendar) is in
    record {
      there = here.1;
      next = next-deleted directory state event home (delete_calendar home calendar) told deletion here.0 tt;
      asked_is = deletion.asked_is ∙ ap Some here.0;
      accepted_is = deletion.accepted_is ∙ ap (λ c. accepted 204 (effect c state)) here.0;
    }

-- what a result that is Ok tells

pub on_ok : {T E P Q : Type 0} (r : Result T E) → (P → Q) → OnOk r P → OnOk r Q
on_ok (Ok x) f p = f p
on_ok (Err e) f p = p
