-- An accepted change is accepted again when it is replayed: the request that its entry names, without conditions, is accepted in the same state
-- with the same status, and leads to the same state. So a journal of accepted changes is legal.
use Rattle.std.proofs.Common.{◌≡◌, ℕ, Bool, true, false, ◌&&◌, List, [], ◌∷◌, ◌++◌, map, length, Option, Some, None, refl, sym, ap, ◌∙◌, subst}
use Rattle.std.specs.Prelude.{ℤ, bytes_eq, unwrap_or, flat_map, get_or, is_some}
use Rattle.std.proofs.lemmas.Bool.{false≢true}
use Rattle.std.proofs.lemmas.List.Quantifiers.{position-Some}
use Rattle.std.proofs.lemmas.Option.{slice_get-get_or}
use Rattle.std.proofs.lemmas.Slice.Eq.{bytes_eq-Decides}
use Rattle.cal_model.specs.declared.path.Path.{Path}
use Rattle.cal_model.specs.declared.path.Path.TheVariants as path
use Rattle.cal_model.specs.declared.privilege.Grant.{Grant}
use Rattle.cal_model.specs.declared.property.PropSet.{PropSet}
use Rattle.cal_model.specs.declared.reply.Reply.{Reply}
use Rattle.cal_model.specs.declared.request.Content.{Content}
use Rattle.cal_model.specs.declared.request.Content.TheVariants as content
use Rattle.cal_model.specs.declared.request.Event.{Event}
use Rattle.cal_model.specs.declared.request.Method.{Method}
use Rattle.cal_model.specs.declared.request.Method.TheVariants as method
use Rattle.cal_model.specs.declared.request.Request.{Request}
use Rattle.cal_model.specs.declared.request.Tags.{Tags}
use Rattle.cal_model.specs.Objects.ObjectReading.{first_there}
use Rattle.cal_model.specs.State.ServerState.{Directory, ServerState, user_number, user_name}
use Rattle.cal_model.specs.Sight.Views.{Contents, whole_sight}
use Rattle.cal_model.specs.Refusals.Preconditions.{put_table}
use Rattle.cal_model.specs.State.Changes.{put, make, patch, acl, change_of}
use Rattle.cal_model.specs.Sight.Scenes.{Scene}
use Rattle.cal_model.specs.Refusals.SharedRefusals.{shared_rows}
use Rattle.cal_model.specs.Refusals.RefusalReplies.{when, refuse}
use Rattle.cal_model.specs.Refusals.ChangeRefusals.{own_rows, put_faults, contents_in}
use Rattle.cal_model.specs.Serving.Outcomes.{Outcome, accepted, unchanged, outcome, outcome_where, unless_refused, rows_of_change, changed, scene_by, is_reading}
use Rattle.cal_model.specs.History.Journal.{entry_of, asked}

-- The name of a user's number

pub user_name-number : (directory : Directory) (name : List ℕ) (user : ℕ) → user_number directory name ≡ Some user → user_name directory user ≡ name
user_name-number directory name user found =
    let at = position-Some (bytes_eq name) directory.names user [] found in
    ap (λ o. unwrap_or o []) (slice_get-get_or directory.names user [] at.0)
    ∙ sym ((bytes_eq-Decides name (get_or directory.names user [])).0 at.1)

-- Rows

-- no row of a list has a reply
abbrev pub NoRow : {X : Type 0} → List (Option X) → Type 0
NoRow [] = Unit {0}
NoRow (row ∷ rows) = (row ≡ None) × NoRow rows

pub some≢none : {X : Type 0} (x : X) → Some x ≡ None → ⊥
some≢none x e = false≢true (sym (ap is_some e))

pub no_row : {X : Type 0} (rows : List (Option X)) → first_there rows ≡ None → NoRow rows
no_row [] e = tt
no_row (None ∷ rows) e = (refl, no_row rows e)
no_row (Some x ∷ rows) e = absurd (some≢none x e)

pub first_there-none : {X : Type 0} (rows : List (Option X)) → NoRow rows → first_there rows ≡ None
first_there-none [] n = refl
first_there-none (None ∷ rows) n = first_there-none rows n.1
first_there-none (Some x ∷ rows) n = absurd (some≢none x n.0)

-- Outcomes

abbrev is_accepted : Outcome → Bool
is_accepted (accepted status state) = true
is_accepted (unchanged reply) = false

pub accepted-rows : (rows : Option Reply) (made : Outcome) (status : ℕ) (after : ServerState) → unless_refused rows made ≡ accepted status after → (rows ≡ None) × (made ≡ accepted status after)
accepted-rows None made status after e = (refl, e)
accepted-rows (Some reply) made status after e = absurd (false≢true (ap is_accepted e))

pub accepted-none : (rows : Option Reply) (made : Outcome) (status : ℕ) (after : ServerState) → rows ≡ None → made ≡ accepted status after → unless_refused rows made ≡ accepted status after
accepted-none rows made status after none e = ap (λ r. unless_refused r made) none ∙ e

pub when-false : (b : Bool) (reply : Reply) → when (b && false) reply ≡ None
when-false true reply = refl
when-false false reply = refl

-- A PUT

-- a request of an object's octets
abbrev pub put_request : List ℕ → List ℕ → List ℕ → Bool → List ℕ → Option Tags → Option Tags → ℕ → Request
put_request user calendar object media_ok octets if_match unless_match size = record {
  method = method.Put;
  path = path.Object user calendar object;
  if_match = if_match;
  if_none = unless_match;
  size = size;
  content = content.Put media_ok octets;
}

abbrev pub event_with : ℕ → ℕ → ℤ → Request → Event
event_with session who moment request = record { session = session; who = who; moment = moment; request = request }

-- what isn't refused was sent as a calendar, or there is no calendar
media_fits : (scene : Scene) (media_ok : Bool) (octets : List ℕ) (contents : List Contents) (more : List (Option Reply))
    → NoRow (map refuse (flat_map (put_faults scene media_ok octets) contents) ++ more) → NoRow (map refuse (flat_map (put_faults scene true octets) contents) ++ more)
unfolding put_table
media_fits scene true octets contents more n = n
media_fits scene false octets [] more n = n
media_fits scene false octets (c ∷ cs) more n = absurd (some≢none _ n.0)

shared_put : (scene : Scene) (user calendar object octets : List ℕ) (media_ok : Bool) (if_match unless_match : Option Tags) (size size' : ℕ) (more more' : List (Option Reply))
    → (NoRow more → NoRow more')
    → NoRow (shared_rows scene (put_request user calendar object media_ok octets if_match unless_match size) ++ more)
    → NoRow (shared_rows scene (put_request user calendar object true octets None None size') ++ more')
unfolding shared_rows
shared_put scene user calendar object octets media_ok if_match unless_match size size' more more' further n =
    (n.0, (n.1.0, (n.1.1.0, (n.1.1.1.0, (when-false _ _, (when-false _ _, further n.1.1.1.1.1.1))))))

-- the conditions of an accepted PUT, and how it was sent, change nothing
pub put-plain : (directory : Directory) (state after : ServerState) (session who : ℕ) (moment : ℤ) (user calendar object octets : List ℕ)
    (media_ok : Bool) (if_match unless_match : Option Tags) (size status : ℕ)
    → outcome directory state (event_with session who moment (put_request user calendar object media_ok octets if_match unless_match size)) ≡ accepted status after
    → outcome directory state (event_with session who moment (put_request user calendar object true octets None None size)) ≡ accepted status after
unfolding outcome change_of
put-plain directory state after session who moment user calendar object octets media_ok if_match unless_match size status e =
    let given = put_request user calendar object media_ok octets if_match unless_match size in
    let bare = put_request user calendar object true octets None None size in
    let scene = scene_by whole_sight directory state (event_with session who moment bare) in
    let made = changed state scene method.Put (change_of directory bare) in
    let parts = accepted-rows (first_there (rows_of_change state scene given)) made status after e in
    accepted-none (first_there (rows_of_change state scene bare)) made status after
    (first_there-none (rows_of_change state scene bare)
    (shared_put scene user calendar object octets media_ok if_match unless_match size size _ _
    (media_fits scene media_ok octets (contents_in scene) _) (no_row (rows_of_change state scene given) parts.0)))
    parts.1

-- An accepted PUT, whose size is that of its octets, is accepted again when it is replayed.
pub put-replayed : (directory : Directory) (state after : ServerState) (session who : ℕ) (moment : ℤ) (user calendar object octets : List ℕ)
    (media_ok : Bool) (if_match unless_match : Option Tags) (status home : ℕ)
    → user_number directory user ≡ Some home
    → outcome directory state (event_with session who moment (put_request user calendar object media_ok octets if_match unless_match (length octets))) ≡ accepted status after
    → outcome directory state (asked directory (entry_of (event_with session who moment (put_request user calendar object media_ok octets if_match unless_match (length octets))) (put home calendar object octets) status)) ≡ accepted status after
put-replayed directory state after session who moment user calendar object octets media_ok if_match unless_match status home known e =
    subst (λ name. outcome directory state (event_with session who moment (put_request name calendar object true octets None None (length octets))) ≡ accepted status after)
    (sym (user_name-number directory user home known))
    (put-plain directory state after session who moment user calendar object octets media_ok if_match unless_match (length octets) status e)

-- The other changes

-- a request without a body that counts
abbrev pub bare_request : Method → Path → Content → Option Tags → Option Tags → ℕ → Request
bare_request method path content if_match unless_match size = record { method = method; path = path; if_match = if_match; if_none = unless_match; size = size; content = content }

shared_plain : (scene : Scene) (how : Method) (at : Path) (what : Content) (if_match unless_match : Option Tags) (size size' : ℕ) (more more' : List (Option Reply))
    → (NoRow more → NoRow more')
    → NoRow (shared_rows scene (bare_request how at what if_match unless_match size) ++ more)
    → NoRow (shared_rows scene (bare_request how at what None None size') ++ more')
unfolding shared_rows
shared_plain scene how at what if_match unless_match size size' more more' further n =
    (n.0, (n.1.0, (n.1.1.0, (n.1.1.1.0, (when-false _ _, (when-false _ _, further n.1.1.1.1.1.1))))))

-- a change whose own rows and whose effect know nothing of the conditions, and in a deletion of the size
changing-plain : (directory : Directory) (state after : ServerState) (session who : ℕ) (moment : ℤ) (how : Method) (at : Path) (what : Content)
    (if_match unless_match : Option Tags) (size size' status : ℕ)
    → is_reading how ≡ false
    → (NoRow (own_rows state (scene_by whole_sight directory state (event_with session who moment (bare_request how at what None None size'))) (bare_request how at what if_match unless_match size) how)
    → NoRow (own_rows state (scene_by whole_sight directory state (event_with session who moment (bare_request how at what None None size'))) (bare_request how at what None None size') how))
    → change_of directory (bare_request how at what if_match unless_match size) ≡ change_of directory (bare_request how at what None None size')
    → outcome directory state (event_with session who moment (bare_request how at what if_match unless_match size)) ≡ accepted status after
    → outcome directory state (event_with session who moment (bare_request how at what None None size')) ≡ accepted status after
unfolding outcome
changing-plain directory state after session who moment how at what if_match unless_match size size' status changes further same e =
    let given = bare_request how at what if_match unless_match size in
    let bare = bare_request how at what None None size' in
    let scene = scene_by whole_sight directory state (event_with session who moment bare) in
    let made = changed state scene how (change_of directory given) in
    let as_change : outcome_where false directory state (event_with session who moment given) ≡ accepted status after =
    subst (λ reads. outcome_where reads directory state (event_with session who moment given) ≡ accepted status after) changes e in
    let parts = accepted-rows (first_there (rows_of_change state scene given)) made status after as_change in
    subst (λ reads. outcome_where reads directory state (event_with session who moment bare) ≡ accepted status after) (sym changes)
    (accepted-none (first_there (rows_of_change state scene bare)) (changed state scene how (change_of directory bare)) status after
    (first_there-none (rows_of_change state scene bare)
    (shared_plain scene how at what if_match unless_match size size' _ _ further (no_row (rows_of_change state scene given) parts.0)))
    (ap (changed state scene how) (sym same) ∙ parts.1))

-- a calendar is made
pub make-replayed : (directory : Directory) (state after : ServerState) (session who : ℕ) (moment : ℤ) (user : List ℕ) (calendar : List ℕ) (sets : List PropSet) (if_match unless_match : Option Tags) (size status home : ℕ)
    → user_number directory user ≡ Some home
    → outcome directory state (event_with session who moment (bare_request method.Mkcalendar (path.Calendar user calendar) (content.Make sets) if_match unless_match size)) ≡ accepted status after
    → outcome directory state (asked directory (entry_of (event_with session who moment (bare_request method.Mkcalendar (path.Calendar user calendar) (content.Make sets) if_match unless_match size)) (make home calendar sets size) status)) ≡ accepted status after
unfolding change_of
make-replayed directory state after session who moment user calendar sets if_match unless_match size status home known e =
    subst (λ name. outcome directory state (event_with session who moment (bare_request method.Mkcalendar (path.Calendar name calendar) (content.Make sets) None None size)) ≡ accepted status after)
    (sym (user_name-number directory user home known))
    (changing-plain directory state after session who moment method.Mkcalendar (path.Calendar user calendar) (content.Make sets) if_match unless_match size size status refl (λ n. n) refl e)

-- properties are set
pub patch-replayed : (directory : Directory) (state after : ServerState) (session who : ℕ) (moment : ℤ) (user : List ℕ) (calendar : List ℕ) (sets : List PropSet) (if_match unless_match : Option Tags) (size status home : ℕ)
    → user_number directory user ≡ Some home
    → outcome directory state (event_with session who moment (bare_request method.Proppatch (path.Calendar user calendar) (content.Patch sets) if_match unless_match size)) ≡ accepted status after
    → outcome directory state (asked directory (entry_of (event_with session who moment (bare_request method.Proppatch (path.Calendar user calendar) (content.Patch sets) if_match unless_match size)) (patch home calendar sets size) status)) ≡ accepted status after
unfolding change_of
patch-replayed directory state after session who moment user calendar sets if_match unless_match size status home known e =
    subst (λ name. outcome directory state (event_with session who moment (bare_request method.Proppatch (path.Calendar name calendar) (content.Patch sets) None None size)) ≡ accepted status after)
    (sym (user_name-number directory user home known))
    (changing-plain directory state after session who moment method.Proppatch (path.Calendar user calendar) (content.Patch sets) if_match unless_match size size status refl (λ n. n) refl e)

-- grants are given
pub acl-replayed : (directory : Directory) (state after : ServerState) (session who : ℕ) (moment : ℤ) (user : List ℕ) (calendar : List ℕ) (grants : List Grant) (if_match unless_match : Option Tags) (size status home : ℕ)
    → user_number directory user ≡ Some home
    → outcome directory state (event_with session who moment (bare_request method.Acl (path.Calendar user calendar) (content.Acl grants) if_match unless_match size)) ≡ accepted status after
    → outcome directory state (asked directory (entry_of (event_with session who moment (bare_request method.Acl (path.Calendar user calendar) (content.Acl grants) if_match unless_match size)) (acl home calendar grants size) status)) ≡ accepted status after
unfolding change_of
acl-replayed directory state after session who moment user calendar grants if_match unless_match size status home known e =
    subst (λ name. outcome directory state (event_with session who moment (bare_request method.Acl (path.Calendar name calendar) (content.Acl grants) None None size)) ≡ accepted status after)
    (sym (user_name-number directory user home known))
    (changing-plain directory state after session who moment method.Acl (path.Calendar user calendar) (content.Acl grants) if_match unless_match size size status refl (λ n. n) refl e)
