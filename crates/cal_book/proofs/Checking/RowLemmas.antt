-- The rows of each method, once the calendar and the home are known, and what is told by them.
use Rattle.std.proofs.Common.{◌≡◌, ℕ, Bool, false, ◌||◌, List, [], ◌∷◌, ◌++◌, map, Option, Some, None, refl, sym, ap, ◌∙◌, subst}
use Rattle.std.specs.Prelude.{flat_map, option_map, option_and_then, option_to_list, unwrap_or, nat_lt, nat_le, ◌+◌, length, true, Ok, codes, is_some}
use Rattle.std.specs.Option.{option_map_or}
use Rattle.std.proofs.lemmas.List.{append-nil}
use Rattle.std.specs.Result.{result_ok}
use Rattle.cal_model.specs.declared.object.Object.{Object as ObjectRead}
use Rattle.cal_model.specs.declared.path.Path.{Path}
use Rattle.cal_model.specs.declared.path.Path.TheVariants.{Object}
use Rattle.cal_model.specs.declared.privilege.Grant.{Grant}
use Rattle.cal_model.specs.declared.property.PropName.{PropName}
use Rattle.cal_model.specs.declared.property.PropSet.{PropSet}
use Rattle.cal_model.specs.declared.reply.Refusal.{Refusal}
use Rattle.cal_model.specs.declared.reply.Reply.{Reply}
use Rattle.cal_model.specs.declared.request.Content.TheVariants as content
use Rattle.cal_model.specs.declared.request.Method.TheVariants as method
use Rattle.cal_model.specs.declared.request.Request.{Request}
use Rattle.cal_model.specs.Access.Privileges.{has_all, read}
use Rattle.cal_model.specs.Bodies.Refusals.{dav_refusal}
use Rattle.cal_model.specs.History.KeptChanges.{is_deletion}
use Rattle.cal_model.specs.Objects.ObjectReading.{read_object, first_there}
use Rattle.cal_model.specs.Properties.Settings.{faults_of_all, first_fault}
use Rattle.cal_model.specs.Properties.PropertyReplies.{setting_answers, settings_reply}
use Rattle.cal_model.specs.Refusals.ChangeRefusals.{is_full, has_all_calendars, no_room, contents_in, put_faults, put_rows, make_rows, patch_rows, acl_rows, patch_faults, some_fault, own_rows}
use Rattle.cal_model.specs.Refusals.Preconditions.{put_refusal, conflict, holder, uid_conflict, uid_of}
use Rattle.cal_model.specs.Refusals.RefusalReplies.{when, refuse, refusal_reply}
use Rattle.cal_model.specs.Refusals.RequestLimits.{calendars_limit}
use Rattle.cal_model.specs.Serving.EventReplies.{reply_to_change}
use Rattle.cal_model.specs.Serving.Outcomes.{accepted_status}
use Rattle.cal_model.specs.Sight.Scenes.{Scene, held_in, user_in, calendar_in, object_in}
use Rattle.cal_model.specs.Sight.Views.{Contents, Sight, contents_of}
use Rattle.cal_model.specs.State.Changes.{Change, change_of}
use Rattle.cal_model.specs.State.ServerState.{Directory, Calendar, Home, ServerState, home_at}
use Rattle.cal_model.specs.State.SoundStates.{IsSoundChange}
use Rattle.cal_model.specs.Words.Limits.{home_limit, change_cost}
use Rattle.cal_book.specs.declared.changes.check.ChangeCheck.{ChangeCheck}
use Rattle.cal_book.specs.declared.changes.check.ChangeCheck.TheVariants.{Made, Deletes, Refused, NoMemory}
use Rattle.cal_book.specs.declared.changes.places.Place.{Place}
use Rattle.cal_book.specs.declared.changes.places.Target.{Target}
use Rattle.cal_book.specs.Checking.OwnChecks.{IsOwnChecked, IsTold, IsRefusal}
use Rattle.cal_book.specs.Checking.Places.{IsPlace, IsTarget, may_read, path_beside}
use Rattle.cal_book.specs.Checking.Rows.{is_full_at, has_all_calendars_at, holder_name, conflict_row}

-- Room

pub full_of : (state : ServerState) (scene : Scene) (home size : ℕ) → scene.user ≡ Some home → is_full state scene size ≡ is_full_at state home size
full_of state scene home size known = ap (λ o. option_map_or (λ (h : Home). nat_lt home_limit (h.accepted + change_cost size)) (option_and_then (home_at state) o) true) known

pub calendars_of : (state : ServerState) (scene : Scene) (home : ℕ) → scene.user ≡ Some home → has_all_calendars state scene ≡ has_all_calendars_at state home
calendars_of state scene home known = ap (λ o. option_map_or (λ (h : Home). nat_le calendars_limit (length h.calendars)) (option_and_then (home_at state) o) true) known

-- The contents of the calendar that is there

pub contents_there : (directory : Directory) (state : ServerState) (scene : Scene) (place : Place) (is : IsPlace directory state scene place) → contents_in scene ≡ contents_of is.within ∷ []
contents_there directory state scene place is = ap (λ o. option_to_list (option_and_then (λ (sight : Sight). sight.contents) o)) is.seen

held_there : (directory : Directory) (state : ServerState) (scene : Scene) (place : Place) (is : IsPlace directory state scene place) → held_in scene ≡ place.held
held_there directory state scene place is = ap (λ o. option_map_or (λ (sight : Sight). sight.held) o 0) is.seen ∙ is.held_is

-- A PUT

abbrev put_row : Bool → Path → Calendar → List ℕ → Option Refusal
put_row may path within octets = conflict may (unwrap_or (user_in path) []) (unwrap_or (calendar_in path) []) within.objects (unwrap_or (object_in path) []) octets

pub put_rows_there : (directory : Directory) (state : ServerState) (scene : Scene) (target : Target) (is : IsTarget directory state scene target) (size : ℕ) (media_ok : Bool) (octets : List ℕ)
    → put_rows state scene size (content.Put media_ok octets)
    ≡ refuse (put_refusal media_ok octets is.place.within.kinds) ∷ conflict_row target is.place.within octets ∷ no_room (is_full_at state target.place.home size) ∷ []
put_rows_there directory state scene target is size media_ok octets =
    let contents = contents_there directory state scene target.place is.place in
    let held = held_there directory state scene target.place is.place in
    ap (λ cs. map refuse (flat_map (put_faults scene media_ok octets) cs) ++ (no_room (is_full state scene size) ∷ [])) contents
    ∙ (λ i. refuse (put_refusal media_ok octets is.place.within.kinds)
    ∷ refuse (put_row (has_all (held i) read) (is.path_is i) is.place.within octets)
    ∷ no_room (full_of state scene target.place.home size is.place.user_is i) ∷ [])

-- the row of a conflict by the name of the other object
conflict_by : (may : Bool) (owner calendar : List ℕ) (found : Option (List ℕ × List ℕ))
    → option_map (λ (entry : List ℕ × List ℕ). uid_conflict may (Object owner calendar entry.0)) found ≡ option_map (λ name. uid_conflict may (Object owner calendar name)) (option_map (λ (entry : List ℕ × List ℕ). entry.0) found)
conflict_by may owner calendar None = refl
conflict_by may owner calendar (Some entry) = refl

pub conflict_row_by : (target : Target) (within : Calendar) (octets : List ℕ)
    → conflict_row target within octets ≡ refuse (option_map (λ name. uid_conflict (may_read target) (path_beside target name)) (holder_name within.objects target.object.now octets))
conflict_row_by target within octets = ap refuse (conflict_by (may_read target) target.user.now target.place.calendar.now (holder within.objects target.object.now octets))

-- the UID of octets that were read
pub uid_read : (octets : List ℕ) (object : ObjectRead) → read_object octets ≡ Ok object → uid_of octets ≡ Some object.uid
uid_read octets object reading = ap (λ r. option_map (λ (o : ObjectRead). o.uid) (result_ok r)) reading

-- A PROPPATCH

pub faults_there : (directory : Directory) (state : ServerState) (scene : Scene) (place : Place) (is : IsPlace directory state scene place) (sets : List PropSet)
    → patch_faults scene sets ≡ faults_of_all false is.within.texts sets
faults_there directory state scene place is sets =
    ap (λ cs. flat_map (λ (contents : Contents). faults_of_all false contents.texts sets) cs) (contents_there directory state scene place is) ∙ append-nil (faults_of_all false is.within.texts sets)

-- The rows of a request by its method and its content

pub put_rows_are : (state : ServerState) (scene : Scene) (request : Request) (media_ok : Bool) (octets : List ℕ) → request.method ≡ method.Put → request.content ≡ content.Put media_ok octets
    → own_rows state scene request request.method ≡ put_rows state scene request.size (content.Put media_ok octets)
put_rows_are state scene request media_ok octets how what = ap (own_rows state scene request) how ∙ ap (put_rows state scene request.size) what

pub make_rows_are : (state : ServerState) (scene : Scene) (request : Request) (sets : List PropSet) (home : ℕ) → request.method ≡ method.Mkcalendar → request.content ≡ content.Make sets → scene.user ≡ Some home
    → own_rows state scene request request.method
    ≡ when (is_some scene.calendar) (refusal_reply (dav_refusal (codes "resource-must-be-null"))) ∷ refuse (first_fault sets) ∷ no_room (has_all_calendars_at state home || is_full_at state home request.size) ∷ []
make_rows_are state scene request sets home how what known =
    ap (own_rows state scene request) how ∙ ap (make_rows state scene request.size) what
    ∙ (λ i. when (is_some scene.calendar) (refusal_reply (dav_refusal (codes "resource-must-be-null"))) ∷ refuse (first_fault sets) ∷ no_room (calendars_of state scene home known i || full_of state scene home request.size known i) ∷ [])

-- the row of settings that are refused
abbrev pub faults_row : Path → List (PropName × Option Refusal) → Option Reply
faults_row path faults = when (some_fault faults) (settings_reply path (setting_answers faults 424))

pub patch_rows_are : (directory : Directory) (state : ServerState) (scene : Scene) (request : Request) (sets : List PropSet) (place : Place) (is : IsPlace directory state scene place)
    → request.method ≡ method.Proppatch → request.content ≡ content.Patch sets
    → own_rows state scene request request.method ≡ faults_row scene.path (faults_of_all false is.within.texts sets) ∷ no_room (is_full_at state place.home request.size) ∷ []
patch_rows_are directory state scene request sets place is how what =
    ap (own_rows state scene request) how ∙ ap (patch_rows state scene request.size) what
    ∙ (λ i. faults_row scene.path (faults_there directory state scene place is sets i) ∷ no_room (full_of state scene place.home request.size is.user_is i) ∷ [])

pub acl_rows_are : (state : ServerState) (scene : Scene) (request : Request) (grants : List Grant) (home : ℕ) → request.method ≡ method.Acl → request.content ≡ content.Acl grants → scene.user ≡ Some home
    → own_rows state scene request request.method ≡ no_room (is_full_at state home request.size) ∷ []
acl_rows_are state scene request grants home how what known =
    ap (own_rows state scene request) how ∙ ap (acl_rows state scene request.size) what ∙ (λ i. no_room (full_of state scene home request.size known i) ∷ [])

-- What is told

pub refusal_told : (rows : List (Option Reply)) (change : Change) (made_reply reply : Reply) (result : ChangeCheck) → first_there rows ≡ Some reply → IsRefusal reply result → IsTold rows change made_reply result
refusal_told rows change made_reply reply (Made made replied) e refused = absurd refused
refusal_told rows change made_reply reply (Deletes home) e refused = absurd refused
refusal_told rows change made_reply reply (Refused replied) e refused = e ∙ ap Some (sym refused)
refusal_told rows change made_reply reply NoMemory e refused = tt

-- behind rows that refuse nothing
pub told_behind : (row : Option Reply) (rows : List (Option Reply)) (change : Change) (reply : Reply) (result : ChangeCheck) → row ≡ None → IsTold rows change reply result → IsTold (row ∷ rows) change reply result
told_behind row rows change reply result none told = subst (λ r. IsTold (r ∷ rows) change reply result) (sym none) told

module _ (directory : Directory) (state : ServerState) (scene : Scene) (request : Request) where
  pub own_told : (rows : List (Option Reply)) (change : Change) (reply : Reply) (result : ChangeCheck) → own_rows state scene request request.method ≡ rows → change_of directory request ≡ Some change
      → reply.status ≡ accepted_status scene request.method → reply ≡ reply_to_change reply.status request request.content → is_deletion change ≡ false → IsSoundChange directory change
      → IsTold rows change reply result → IsOwnChecked directory state scene request result
  own_told rows change reply (Made made replied) rows_are asked status reply_is adds sound told = record {
    passes = ap first_there rows_are ∙ told.0;
    asked_is = asked ∙ ap Some (sym told.1);
    status_is = subst (λ (r : Reply). r.status ≡ accepted_status scene request.method) (sym told.2) status;
    reply_is = subst (λ (r : Reply). r ≡ reply_to_change r.status request request.content) (sym told.2) reply_is;
    adds = ap is_deletion told.1 ∙ adds;
    sound = subst (IsSoundChange directory) (sym told.1) sound;
  }
  own_told rows change reply (Deletes home) rows_are asked status reply_is adds sound told = absurd told
  own_told rows change reply (Refused replied) rows_are asked status reply_is adds sound told = ap first_there rows_are ∙ told
  own_told rows change reply NoMemory rows_are asked status reply_is adds sound told = tt
