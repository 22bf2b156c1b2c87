-- An accepted change has a payload in the form: what names it can be named, its grants and its settings are few, and so are its octets.
use Rattle.std.proofs.Common.{◌≡◌, ℕ, ◌<◌, ◌≤◌, ◌^◌, Bool, true, false, IsTrue, cond, nat_le, nat_lt, codes, is_none, is_some, not, ◌&&◌, ◌||◌, ◌==◌, ◌++◌, All, List, [], ◌∷◌, map, flat_map, get_or, option_to_list, Option, Some, None, option_map, option_and_then, slice_get, length, bytes_eq, ℤ, pos, negsuc, ◌≤ℤ◌, refl, sym, ◌∙◌, ap, subst, arith}
use Rattle.std.specs.List.{enumerate_from, list_all}
use Rattle.std.specs.Str.{is_utf8}
use Rattle.std.specs.Map.{lookup}
use Rattle.std.specs.BTreeMap.{is_at}
use Rattle.std.proofs.lemmas.Bool.Decides.{nat_tests}
use Rattle.std.proofs.lemmas.Int.{ints}
use Rattle.std.proofs.lemmas.List.{length-map}
use Rattle.std.proofs.lemmas.List.Quantifiers.{position-Some}
use Rattle.std.proofs.lemmas.Map.Made.{lookup-map_values}
use Rattle.std.proofs.lemmas.Option.{slice_get-map}
use Rattle.cal_base.specs.Lists.NameMap.{Named, name_order}
use Rattle.cal_model.specs.declared.path.Path.{Path}
use Rattle.cal_model.specs.declared.path.Path.TheVariants.{Root, Principal, Home, Calendar, Object}
use Rattle.cal_model.specs.declared.privilege.Grant.{Grant}
use Rattle.cal_model.specs.declared.privilege.Who.{Who}
use Rattle.cal_model.specs.declared.privilege.Who.TheVariants.{Everyone, Owner, Principal as PrincipalWho, Group as GroupWho}
use Rattle.cal_model.specs.declared.reply.Refusal.{Refusal}
use Rattle.cal_model.specs.declared.reply.Reply.{Reply}
use Rattle.cal_model.specs.declared.request.Content.{Content}
use Rattle.cal_model.specs.declared.request.Content.TheVariants as content
use Rattle.cal_model.specs.declared.request.Event.{Event}
use Rattle.cal_model.specs.declared.request.Method.{Method}
use Rattle.cal_model.specs.declared.request.Method.TheVariants.{Put, Delete, Mkcalendar, Proppatch, Acl}
use Rattle.cal_model.specs.declared.request.Request.{Request}
use Rattle.cal_model.specs.declared.request.Tags.{Tags}
use Rattle.cal_model.specs.Bodies.AclLaws.{IsAmong, IsGrantAmong}
use Rattle.cal_model.specs.History.Journal.{entry_of}
use Rattle.cal_model.specs.Objects.ObjectReading.{read_object, first_there}
use Rattle.cal_model.specs.Refusals.ChangeRefusals.{contents_in, is_full, no_room, put_faults, put_rows, make_rows, patch_rows}
use Rattle.cal_model.specs.Refusals.Preconditions.{put_table, put_table_of}
use Rattle.cal_model.specs.Refusals.RefusalReplies.{refused_where, refuse, when}
use Rattle.cal_model.specs.Refusals.RequestLimits.{resource_limit}
use Rattle.cal_model.specs.Refusals.SharedRefusals.{shared_rows}
use Rattle.cal_model.specs.Paths.TargetPaths.{slash}
use Rattle.cal_model.specs.Requests.BookableRequests.{IsBookable}
use Rattle.cal_model.specs.Serving.Outcomes.{accepted, accepted_status, outcome, outcome_where, is_reading, rows_of_change, changed, scene_by}
use Rattle.cal_model.specs.Sight.Scenes.{Scene, scene_at, visible_home, at_both}
use Rattle.cal_model.specs.Sight.Views.{Contents, Sight, contents_of, whole_sight, view_by, home_by, visible_calendars}
use Rattle.cal_model.specs.State.Changes.{Change, put, delete_object, delete_calendar, make, patch, acl, change_of, change_of_object, change_of_calendar}
use Rattle.cal_model.specs.State.ServerState.{Directory, Calendar as CalendarState, Home as HomeState, ServerState, directory_of, user_number}
use Rattle.cal_model.specs.Users.UsersFile.{User, Users}
use Rattle.cal_model.specs.Words.Limits.{last_moment}
use Rattle.cal_model.specs.Words.Lists.{is_empty}
use Rattle.cal_model.proofs.History.JournalLaws.{outcome-effect}
use Rattle.cal_model.proofs.History.ReplayLaws.{NoRow, no_row, some≢none, accepted-rows, first_there-none}
use Rattle.cal_keeper.specs.Files.EntryLaws.{AcceptedHasForm}
use Rattle.cal_keeper.specs.Files.Payloads.{home_of, calendar_of, seconds_of, IsName, IsKnown, GrantHasForm, ChangeHasForm}
use Rattle.cal_keeper.proofs.PayloadBounds.{IsShortChange, payload_is_short}
use Rattle.cal_keeper.proofs.ShortNames.{made_short, patched_short}
use Rattle.cal_keeper.specs.Principals.{counts_of}
use Rattle.cal_keeper.specs.declared.principals.PrincipalCounts.{PrincipalCounts}

-- Tests

both : (a b : Bool) → IsTrue (a && b) → IsTrue a × IsTrue b
both true true ok = (refl, refl)
both true false ok = absurd cc
both false b ok = absurd cc

second_false : (a b : Bool) → (a || (b && true)) ≡ false → b ≡ false
second_false true b none = absurd cc
second_false false true none = absurd cc
second_false false false none = refl

not_when : (applies : Bool) (reply : Reply) → when applies reply ≡ None → applies ≡ false
not_when true reply none = absurd (some≢none reply none)
not_when false reply none = refl

not_refused : (applies : Bool) (refusal : Refusal) → refused_where applies refusal ≡ None → applies ≡ false
not_refused true refusal none = absurd (some≢none refusal none)
not_refused false refusal none = refl

-- Names and numbers

second_of_six : (a b c d e f : Bool) → IsTrue (a && b && c && d && e && f) → b ≡ true
second_of_six true true c d e f ok = refl
second_of_six true false c d e f ok = absurd cc
second_of_six false b c d e f ok = absurd cc

name_200 : (name : List ℕ) → IsName name → length name ≤ 200
name_200 name is =
    let few : nat_le (length name) 200 ≡ true =
    second_of_six (nat_le 1 (length name)) (nat_le (length name) 200) (is_utf8 name) (list_all (λ (octet : ℕ). nat_le 32 octet && not (octet == slash)) name) (not (bytes_eq name (codes "."))) (not (bytes_eq name (codes ".."))) is in
    grind (arith, nat_tests, few)

user_within : (users : Users) (name : List ℕ) (home : ℕ) → user_number (directory_of users) name ≡ Some home → home < length users.people
user_within users name home found =
    omega (arith, (position-Some (bytes_eq name) (directory_of users).names home [] found).0, length-map users.people (λ (user : User). user.name))

from_1970 : (moment : ℤ) → pos 0 ≤ℤ moment → moment ≡ pos (seconds_of moment)
from_1970 (pos seconds) from = refl
from_1970 (negsuc n) from = absurd (omega (arith, ints, from))

to_9999 : (moment : ℤ) → moment ≤ℤ pos last_moment → seconds_of moment ≤ last_moment
to_9999 (pos seconds) to = omega (arith, ints, to)
to_9999 (negsuc n) to = omega arith

status_small : (scene : Scene) (method : Method) → accepted_status scene method < 2 ^ 16
status_small scene Put = by (is_some scene.object)
  where
    by : (there : Bool) → cond there 204 201 < 2 ^ 16
    by true = omega arith
    by false = omega arith
status_small scene Mkcalendar = omega arith
status_small scene Proppatch = omega arith
status_small scene Acl = omega arith
status_small scene other = omega arith

-- Calendars that are seen whole

contents_found : (directory : Directory) (owner who : ℕ) (there : Option CalendarState) (seen : Option Sight) → seen ≡ option_map (whole_sight directory owner who) there → is_none seen ≡ false
    → (c : Contents) × (option_to_list (option_and_then (λ (sight : Sight). sight.contents) seen) ≡ c ∷ [])
contents_found directory owner who None seen is some = absurd (cc (sym some ∙ ap is_none is))
contents_found directory owner who (Some calendar) seen is some =
    (contents_of calendar, ap (λ (o : Option Sight). option_to_list (option_and_then (λ (sight : Sight). sight.contents) o)) is)

module _ (directory : Directory) (state : ServerState) (who : ℕ) where
  contents_shown : (shown : Bool) (numbered : ℕ × HomeState) (name : Option (List ℕ)) (seen : Option Sight)
      → seen ≡ at_both (cond shown (Some (home_by whole_sight directory who numbered)) None) name → is_none seen ≡ false
      → (c : Contents) × (option_to_list (option_and_then (λ (sight : Sight). sight.contents) seen) ≡ c ∷ [])
  contents_shown false numbered name seen is some = absurd (cc (sym some ∙ ap is_none is))
  contents_shown true numbered None seen is some = absurd (cc (sym some ∙ ap is_none is))
  contents_shown true numbered (Some name) seen is some =
      contents_found directory numbered.0 who (lookup (is_at (name_order name)) (visible_calendars directory numbered.0 who numbered.1)) seen
      (is ∙ lookup-map_values (whole_sight directory numbered.0 who) (is_at (name_order name)) (visible_calendars directory numbered.0 who numbered.1)) some

  contents_home : (user : ℕ) (numbered : Option (ℕ × HomeState)) (name : Option (List ℕ)) (seen : Option Sight)
      → seen ≡ at_both (option_and_then (λ (calendars : Named Sight). cond ((user == who) || not (is_empty calendars)) (Some calendars) None) (option_map (home_by whole_sight directory who) numbered)) name → is_none seen ≡ false
      → (c : Contents) × (option_to_list (option_and_then (λ (sight : Sight). sight.contents) seen) ≡ c ∷ [])
  contents_home user None name seen is some = absurd (cc (sym some ∙ ap is_none is))
  contents_home user (Some numbered) name seen is some = contents_shown ((user == who) || not (is_empty (home_by whole_sight directory who numbered))) numbered name seen is some

  contents_seen : (user : Option ℕ) (name : Option (List ℕ)) (seen : Option Sight)
      → seen ≡ at_both (option_and_then (visible_home (view_by whole_sight directory state who) who) user) name → is_none seen ≡ false
      → (c : Contents) × (option_to_list (option_and_then (λ (sight : Sight). sight.contents) seen) ≡ c ∷ [])
  contents_seen None name seen is some = absurd (cc (sym some ∙ ap is_none is))
  contents_seen (Some user) name seen is some =
      let get = slice_get-map (home_by whole_sight directory who) (enumerate_from 0 state.homes) user in
      contents_home user (slice_get (enumerate_from 0 state.homes) user) name seen
      (is ∙ ap (λ (o : Option (Named Sight)). at_both (option_and_then (λ (calendars : Named Sight). cond ((user == who) || not (is_empty calendars)) (Some calendars) None) o) name) get) some

-- Octets

refuse_none : (refusal : Option Refusal) → refuse refusal ≡ None → refusal ≡ None
refuse_none None none = refl
refuse_none (Some refusal) none = absurd cc

octets_short : (media_ok : Bool) (octets : List ℕ) (kinds : ℕ) → first_there (put_table media_ok octets kinds) ≡ None → length octets ≤ 262_144
unfolding put_table
octets_short media_ok octets kinds none =
    let rows = no_row (put_table_of media_ok (length octets) kinds (read_object octets)) none in
    let few : nat_lt resource_limit (length octets) ≡ false = not_refused (nat_lt resource_limit (length octets)) _ rows.1.0 in
    grind (arith, nat_tests, few)

put_short : (state : ServerState) (scene : Scene) (size : ℕ) (media_ok : Bool) (octets : List ℕ) (contents : Contents) → contents_in scene ≡ contents ∷ [] → NoRow (put_rows state scene size (content.Put media_ok octets)) → length octets ≤ 262_144
put_short state scene size media_ok octets contents there rows =
    octets_short media_ok octets contents.kinds
    (refuse_none (first_there (put_table media_ok octets contents.kinds)) (subst (λ (cs : List Contents). NoRow (map refuse (flat_map (put_faults scene media_ok octets) cs) ++ (no_room (is_full state scene size) ∷ []))) there rows).0)

-- Grants

known : (users : Users) (who : Who) → IsAmong users who → IsKnown (counts_of users) who
known users Everyone among = tt
known users Owner among = tt
known users (PrincipalWho user) among = among
known users (GroupWho group) among = among

grants_formed : (users : Users) (grants : List Grant) → All (IsGrantAmong users) grants → All (GrantHasForm (counts_of users)) grants
grants_formed users grants among = λ k d within. let grant = among k d within in (known users (get_or grants k d).who grant.0, omega (arith, grant.1))

-- Changes

-- what the form wants of a change
record IsFormed (counts : PrincipalCounts) (change : Change) : Type 0 where
  pub home : home_of change < counts.users
  pub calendar : IsName (calendar_of change)
  pub own : ChangeHasForm counts change
  pub short : IsShortChange change

and_then_some : {X : Type 0} (o : Option ℕ) (f : ℕ → Option X) (x : X) → option_and_then f o ≡ Some x → (n : ℕ) × (o ≡ Some n) × (f n ≡ Some x)
and_then_some None f x is = absurd cc
and_then_some (Some n) f x is = (n, refl, is)

module _ (users : Users) (state after : ServerState) (session who : ℕ) (moment : ℤ) (if_match if_none : Option Tags) (size status : ℕ) (small : size < 2 ^ 32) where
  abbrev request_of : Method → Path → Content → Request
  request_of method path what = record { method = method; path = path; if_match = if_match; if_none = if_none; size = size; content = what }

  abbrev event_of : Method → Path → Content → Event
  event_of method path what = record { session = session; who = who; moment = moment; request = request_of method path what }

  abbrev scene_of : Method → Path → Content → Scene
  scene_of method path what = scene_by whole_sight (directory_of users) state (event_of method path what)

  no_rows : (method : Method) (path : Path) (what : Content) → is_reading method ≡ false → outcome (directory_of users) state (event_of method path what) ≡ accepted status after
      → NoRow (rows_of_change state (scene_of method path what) (request_of method path what))
  unfolding outcome
  no_rows method path what changes done =
      let event = event_of method path what in
      let as_change : outcome_where false (directory_of users) state (event_of method path what) ≡ accepted status after =
      subst (λ (reads : Bool). outcome_where reads (directory_of users) state (event_of method path what) ≡ accepted status after) changes done in
      no_row (rows_of_change state (scene_of method path what) (request_of method path what))
      (accepted-rows (first_there (rows_of_change state (scene_of method path what) (request_of method path what)))
      (changed state (scene_of method path what) method (change_of (directory_of users) (request_of method path what))) status after as_change).0

  in_object : (method : Method) (what : Content) (user calendar object : List ℕ) (home : ℕ) (change : Change) → home < length users.people → IsName calendar → IsName object
      → change_of_object method what home calendar object ≡ Some change → outcome (directory_of users) state (event_of method (Object user calendar object) what) ≡ accepted status after → IsFormed (counts_of users) change
  unfolding shared_rows scene_at
  in_object Put (content.Put media_ok octets) user calendar object home change within name own asks done =
      let rows = no_rows Put (Object user calendar object) (content.Put media_ok octets) refl done in
      let scene = scene_of Put (Object user calendar object) (content.Put media_ok octets) in
      let some = second_false (is_none scene.home) (is_none scene.calendar) (not_when _ _ rows.0) in
      let contents = contents_seen (directory_of users) state who (user_number (directory_of users) user) (Some calendar) scene.calendar refl some in
      let octets_few = put_short state scene size media_ok octets contents.0 contents.1 rows.1.1.1.1.1.1 in
      let change_is : put home calendar object octets ≡ change = cc in
      subst (IsFormed (counts_of users)) change_is (record { home = within; calendar = name; own = own; short = (name_200 object own, octets_few) })
  in_object Put what user calendar object home change within name own asks done = absurd cc
  in_object Delete what user calendar object home change within name own asks done =
      let change_is : delete_object home calendar object ≡ change = cc in
      subst (IsFormed (counts_of users)) change_is (record { home = within; calendar = name; own = own; short = name_200 object own })
  in_object method what user calendar object home change within name own asks done = absurd cc

  in_calendar : (method : Method) (what : Content) (user calendar : List ℕ) (home : ℕ) (change : Change) → home < length users.people → IsName calendar
      → change_of_calendar method what home calendar size ≡ Some change → IsBookable users who (request_of method (Calendar user calendar) what)
      → outcome (directory_of users) state (event_of method (Calendar user calendar) what) ≡ accepted status after → IsFormed (counts_of users) change
  unfolding shared_rows scene_at
  in_calendar Delete what user calendar home change within name asks bookable done =
      let change_is : delete_calendar home calendar ≡ change = cc in
      subst (IsFormed (counts_of users)) change_is (record { home = within; calendar = name; own = tt; short = tt })
  in_calendar Mkcalendar (content.Make sets) user calendar home change within name asks bookable done =
      let rows = no_rows Mkcalendar (Calendar user calendar) (content.Make sets) refl done in
      let scene = scene_of Mkcalendar (Calendar user calendar) (content.Make sets) in
      let few = bookable.few in
      let short = made_short state scene size sets (first_there-none (make_rows state scene size (content.Make sets)) rows.1.1.1.1.1.1) in
      let change_is : make home calendar sets size ≡ change = cc in
      subst (IsFormed (counts_of users)) change_is (record { home = within; calendar = name; own = (few, small); short = (few.0, few.1, short) })
  in_calendar Proppatch (content.Patch sets) user calendar home change within name asks bookable done =
      let rows = no_rows Proppatch (Calendar user calendar) (content.Patch sets) refl done in
      let scene = scene_of Proppatch (Calendar user calendar) (content.Patch sets) in
      let some = second_false (is_none scene.home) (is_none scene.calendar) (not_when _ _ rows.0) in
      let contents = contents_seen (directory_of users) state who (user_number (directory_of users) user) (Some calendar) scene.calendar refl some in
      let few = bookable.few in
      let short = patched_short state scene size sets contents.0 contents.1 (first_there-none (patch_rows state scene size (content.Patch sets)) rows.1.1.1.1.1.1) in
      let change_is : patch home calendar sets size ≡ change = cc in
      subst (IsFormed (counts_of users)) change_is (record { home = within; calendar = name; own = (few, small); short = (few.0, few.1, short) })
  in_calendar Acl (content.Acl grants) user calendar home change within name asks bookable done =
      let suits = bookable.suits in
      let change_is : acl home calendar grants size ≡ change = cc in
      subst (IsFormed (counts_of users)) change_is (record { home = within; calendar = name; own = (suits.1, grants_formed users grants bookable.grants, small); short = suits.1 })
  in_calendar method what user calendar home change within name asks bookable done = absurd cc

  formed : (method : Method) (path : Path) (what : Content) (change : Change) → change_of (directory_of users) (request_of method path what) ≡ Some change → IsBookable users who (request_of method path what)
      → outcome (directory_of users) state (event_of method path what) ≡ accepted status after → IsFormed (counts_of users) change
  unfolding change_of
  formed method (Object user calendar object) what change asks bookable done =
      let home = and_then_some (user_number (directory_of users) user) (λ (home : ℕ). change_of_object method what home calendar object) change asks in
      let names = both _ _ bookable.path in
      in_object method what user calendar object home.0 change (user_within users user home.0 home.1) (both _ _ names.0).1 names.1 home.2 done
  formed method (Calendar user calendar) what change asks bookable done =
      let home = and_then_some (user_number (directory_of users) user) (λ (home : ℕ). change_of_calendar method what home calendar size) change asks in
      in_calendar method what user calendar home.0 change (user_within users user home.0 home.1) (both _ _ bookable.path).1 home.2 bookable done
  formed method Root what change asks bookable done = absurd cc
  formed method (Principal user) what change asks bookable done = absurd cc
  formed method (Home user) what change asks bookable done = absurd cc

-- a change is asked for by a method that changes something
changes_asked : (reads : Bool) (directory : Directory) (state after : ServerState) (event : Event) (status : ℕ) → outcome_where reads directory state event ≡ accepted status after → reads ≡ false
changes_asked true directory state after event status done = absurd cc
changes_asked false directory state after event status done = refl

changing : (directory : Directory) (state after : ServerState) (event : Event) (status : ℕ) → outcome directory state event ≡ accepted status after → is_reading event.request.method ≡ false
unfolding outcome
changing directory state after event status done = changes_asked (is_reading event.request.method) directory state after event status done

pub accepted_has_form : AcceptedHasForm
accepted_has_form users state after event change status bookable small from to asks done =
    let r = event.request in
    let parts = formed users state after event.session event.who event.moment event.request.if_match event.request.if_none event.request.size status small event.request.method event.request.path event.request.content change asks bookable done in
    let made = outcome-effect (directory_of users) state after event status change (changing (directory_of users) state after event status done) asks done in
    record {
      who = bookable.user;
      home = parts.home;
      moment = from_1970 event.moment from;
      to_9999 = to_9999 event.moment to;
      status = subst (λ (n : ℕ). n < 2 ^ 16) (sym made.1) (status_small (scene_by whole_sight (directory_of users) state event) event.request.method);
      calendar = parts.calendar;
      change = parts.own;
      short = payload_is_short (entry_of event change status) (name_200 (calendar_of change) parts.calendar) parts.short;
    }
