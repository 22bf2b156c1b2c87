-- What refuses a change beside the rows that all methods share: the rows of each method that changes something (RFC 4791, 5.3; RFC 4918, 9.2; RFC 3744, 8.1).
-- Given: the state, which says how much room its homes have, what stands at the request's path with all its contents, and the request.
use Rattle.std.specs.Prelude.{ℕ, ◌+◌, Bool, true, false, ◌||◌, nat_lt, nat_le, List, [], ◌∷◌, ◌++◌, length, map, flat_map, is_some, option_to_list, Option, Some, option_and_then, unwrap_or, codes}
use Rattle.std.specs.Option.{option_map_or}
use Rattle.cal_model.specs.declared.property.PropName.{PropName}
use Rattle.cal_model.specs.declared.property.PropSet.{PropSet}
use Rattle.cal_model.specs.declared.reply.Refusal.{Refusal}
use Rattle.cal_model.specs.declared.reply.Reply.{Reply}
use Rattle.cal_model.specs.declared.request.Content.{Content}
use Rattle.cal_model.specs.declared.request.Content.TheVariants as content
use Rattle.cal_model.specs.declared.request.Method.{Method}
use Rattle.cal_model.specs.declared.request.Method.TheVariants.{Put, Proppatch, Mkcalendar, Acl}
use Rattle.cal_model.specs.declared.request.Request.{Request}
use Rattle.cal_model.specs.Words.Limits.{home_limit, change_cost}
use Rattle.cal_model.specs.Objects.ObjectReading.{first_there}
use Rattle.cal_model.specs.Access.Privileges.{has_all, read}
use Rattle.cal_model.specs.State.ServerState.{Home, ServerState, home_at}
use Rattle.cal_model.specs.Sight.Views.{Contents, Sight}
use Rattle.cal_model.specs.Replies.BareReplies.{bare_reply}
use Rattle.cal_model.specs.Refusals.RefusalReplies.{refusal_reply, when, refuse}
use Rattle.cal_model.specs.Refusals.RequestLimits.{calendars_limit}
use Rattle.cal_model.specs.Bodies.Refusals.{dav_refusal}
use Rattle.cal_model.specs.Properties.Settings.{faults_of_all, first_fault}
use Rattle.cal_model.specs.Properties.PropertyReplies.{setting_answers, settings_reply}
use Rattle.cal_model.specs.Refusals.Preconditions.{put_refusal, conflict}
use Rattle.cal_model.specs.Sight.Scenes.{Scene, held_in, user_in, calendar_in, object_in}
use Rattle.cal_model.specs.Replies.ReplyForms.{no_request}

-- 507 (RFC 4918, 11.5): the home has not that much left of what it may accept
abbrev pub is_full : ServerState → Scene → ℕ → Bool
is_full state scene size =
    option_map_or (λ (home : Home). nat_lt home_limit (home.accepted + change_cost size)) (option_and_then (home_at state) scene.user) true

abbrev pub has_all_calendars : ServerState → Scene → Bool
has_all_calendars state scene =
    option_map_or (λ (home : Home). nat_le calendars_limit (length home.calendars)) (option_and_then (home_at state) scene.user) true

abbrev pub no_room : Bool → Option Reply
no_room applies = when applies (bare_reply 507)

-- what the calendar has
abbrev pub contents_in : Scene → List Contents
contents_in scene = option_to_list (option_and_then (λ (sight : Sight). sight.contents) scene.calendar)

-- RFC 4791, 5.3.2
abbrev pub put_faults : Scene → Bool → List ℕ → Contents → List (Option Refusal)
put_faults scene media_ok octets contents =
    put_refusal media_ok octets contents.kinds
    ∷ conflict (has_all (held_in scene) read) (unwrap_or (user_in scene.path) []) (unwrap_or (calendar_in scene.path) []) contents.objects (unwrap_or (object_in scene.path) []) octets
    ∷ []

abbrev pub put_rows : ServerState → Scene → ℕ → Content → List (Option Reply)
put_rows state scene size (content.Put media_ok octets) =
    map refuse (flat_map (put_faults scene media_ok octets) (contents_in scene)) ++ (no_room (is_full state scene size) ∷ [])
put_rows state scene size other = Some no_request ∷ []

-- RFC 4791, 5.3.1
abbrev pub make_rows : ServerState → Scene → ℕ → Content → List (Option Reply)
make_rows state scene size (content.Make sets) =
    when (is_some scene.calendar) (refusal_reply (dav_refusal (codes "resource-must-be-null")))
    ∷ refuse (first_fault sets)
    ∷ no_room (has_all_calendars state scene || is_full state scene size)
    ∷ []
make_rows state scene size other = Some no_request ∷ []

-- RFC 4918, 9.2
abbrev pub patch_faults : Scene → List PropSet → List (PropName × Option Refusal)
patch_faults scene sets = flat_map (λ (contents : Contents). faults_of_all false contents.texts sets) (contents_in scene)

abbrev pub some_fault : List (PropName × Option Refusal) → Bool
some_fault faults = is_some (first_there (map (λ (entry : PropName × Option Refusal). entry.1) faults))

abbrev pub patch_rows : ServerState → Scene → ℕ → Content → List (Option Reply)
patch_rows state scene size (content.Patch sets) =
    when (some_fault (patch_faults scene sets)) (settings_reply scene.path (setting_answers (patch_faults scene sets) 424))
    ∷ no_room (is_full state scene size)
    ∷ []
patch_rows state scene size other = Some no_request ∷ []

-- RFC 3744, 8.1
abbrev pub acl_rows : ServerState → Scene → ℕ → Content → List (Option Reply)
acl_rows state scene size (content.Acl grants) = no_room (is_full state scene size) ∷ []
acl_rows state scene size other = Some no_request ∷ []

-- the rows of each method that changes something; a deletion has none
abbrev pub own_rows : ServerState → Scene → Request → Method → List (Option Reply)
own_rows state scene request Put = put_rows state scene request.size request.content
own_rows state scene request Mkcalendar = make_rows state scene request.size request.content
own_rows state scene request Proppatch = patch_rows state scene request.size request.content
own_rows state scene request Acl = acl_rows state scene request.size request.content
own_rows state scene request other = []
