-- The rows that refuse a change look at no more of a state than one home.
use Rattle.std.proofs.Common.{◌≡◌, ℕ, ◌+◌, true, ◌||◌, [], ◌∷◌, ◌++◌, map, length, Option, refl, ap}
use Rattle.std.specs.Prelude.{nat_lt, nat_le, flat_map, is_some, option_and_then, codes}
use Rattle.std.specs.Option.{option_map_or}
use Rattle.cal_model.specs.declared.request.Content.{Content}
use Rattle.cal_model.specs.declared.request.Content.TheVariants as content
use Rattle.cal_model.specs.declared.request.Method.{Method}
use Rattle.cal_model.specs.declared.request.Method.TheVariants as method
use Rattle.cal_model.specs.declared.request.Request.{Request}
use Rattle.cal_model.specs.Bodies.Refusals.{dav_refusal}
use Rattle.cal_model.specs.Properties.PropertyReplies.{setting_answers, settings_reply}
use Rattle.cal_model.specs.Properties.Settings.{first_fault}
use Rattle.cal_model.specs.Refusals.ChangeRefusals.{is_full, has_all_calendars, no_room, contents_in, put_faults, put_rows, make_rows, some_fault, patch_faults, patch_rows, acl_rows, own_rows}
use Rattle.cal_model.specs.Refusals.RefusalReplies.{refusal_reply, when, refuse}
use Rattle.cal_model.specs.Refusals.RequestLimits.{calendars_limit}
use Rattle.cal_model.specs.Refusals.SharedRefusals.{shared_rows}
use Rattle.cal_model.specs.Serving.Outcomes.{rows_of_change}
use Rattle.cal_model.specs.Sight.Scenes.{Scene}
use Rattle.cal_model.specs.State.ServerState.{Home, ServerState, home_at}
use Rattle.cal_model.specs.Words.Limits.{home_limit, change_cost}

-- two states have the same home of a scene's user
abbrev pub HaveSameHome : ServerState → ServerState → Scene → Type 0
HaveSameHome a b scene = option_and_then (home_at a) scene.user ≡ option_and_then (home_at b) scene.user

is_full-same : (a b : ServerState) (scene : Scene) (size : ℕ) → HaveSameHome a b scene → is_full a scene size ≡ is_full b scene size
is_full-same a b scene size same = ap (λ (home : Option Home). option_map_or (λ (h : Home). nat_lt home_limit (h.accepted + change_cost size)) home true) same

has_all_calendars-same : (a b : ServerState) (scene : Scene) → HaveSameHome a b scene → has_all_calendars a scene ≡ has_all_calendars b scene
has_all_calendars-same a b scene same = ap (λ (home : Option Home). option_map_or (λ (h : Home). nat_le calendars_limit (length h.calendars)) home true) same

put_rows-same : (a b : ServerState) (scene : Scene) (size : ℕ) (what : Content) → HaveSameHome a b scene → put_rows a scene size what ≡ put_rows b scene size what
put_rows-same a b scene size content.None same = refl
put_rows-same a b scene size (content.Put media_ok octets) same = ap (λ full. map refuse (flat_map (put_faults scene media_ok octets) (contents_in scene)) ++ (no_room full ∷ [])) (is_full-same a b scene size same)
put_rows-same a b scene size (content.Find props deep) same = refl
put_rows-same a b scene size (content.Patch sets) same = refl
put_rows-same a b scene size (content.Make sets) same = refl
put_rows-same a b scene size (content.Acl grants) same = refl
put_rows-same a b scene size (content.Report report) same = refl
put_rows-same a b scene size (content.Bad refusal) same = refl

make_rows-same : (a b : ServerState) (scene : Scene) (size : ℕ) (what : Content) → HaveSameHome a b scene → make_rows a scene size what ≡ make_rows b scene size what
make_rows-same a b scene size content.None same = refl
make_rows-same a b scene size (content.Put media_ok octets) same = refl
make_rows-same a b scene size (content.Find props deep) same = refl
make_rows-same a b scene size (content.Patch sets) same = refl
make_rows-same a b scene size (content.Make sets) same =
    λ i. when (is_some scene.calendar) (refusal_reply (dav_refusal (codes "resource-must-be-null"))) ∷ refuse (first_fault sets) ∷ no_room (has_all_calendars-same a b scene same i || is_full-same a b scene size same i) ∷ []
make_rows-same a b scene size (content.Acl grants) same = refl
make_rows-same a b scene size (content.Report report) same = refl
make_rows-same a b scene size (content.Bad refusal) same = refl

patch_rows-same : (a b : ServerState) (scene : Scene) (size : ℕ) (what : Content) → HaveSameHome a b scene → patch_rows a scene size what ≡ patch_rows b scene size what
patch_rows-same a b scene size content.None same = refl
patch_rows-same a b scene size (content.Put media_ok octets) same = refl
patch_rows-same a b scene size (content.Find props deep) same = refl
patch_rows-same a b scene size (content.Patch sets) same =
    ap (λ full. when (some_fault (patch_faults scene sets)) (settings_reply scene.path (setting_answers (patch_faults scene sets) 424)) ∷ no_room full ∷ []) (is_full-same a b scene size same)
patch_rows-same a b scene size (content.Make sets) same = refl
patch_rows-same a b scene size (content.Acl grants) same = refl
patch_rows-same a b scene size (content.Report report) same = refl
patch_rows-same a b scene size (content.Bad refusal) same = refl

acl_rows-same : (a b : ServerState) (scene : Scene) (size : ℕ) (what : Content) → HaveSameHome a b scene → acl_rows a scene size what ≡ acl_rows b scene size what
acl_rows-same a b scene size content.None same = refl
acl_rows-same a b scene size (content.Put media_ok octets) same = refl
acl_rows-same a b scene size (content.Find props deep) same = refl
acl_rows-same a b scene size (content.Patch sets) same = refl
acl_rows-same a b scene size (content.Make sets) same = refl
acl_rows-same a b scene size (content.Acl grants) same = ap (λ full. no_room full ∷ []) (is_full-same a b scene size same)
acl_rows-same a b scene size (content.Report report) same = refl
acl_rows-same a b scene size (content.Bad refusal) same = refl

own_rows-same : (a b : ServerState) (scene : Scene) (request : Request) (how : Method) → HaveSameHome a b scene → own_rows a scene request how ≡ own_rows b scene request how
own_rows-same a b scene request method.Options same = refl
own_rows-same a b scene request method.Get same = refl
own_rows-same a b scene request method.Head same = refl
own_rows-same a b scene request method.Put same = put_rows-same a b scene request.size request.content same
own_rows-same a b scene request method.Delete same = refl
own_rows-same a b scene request method.Propfind same = refl
own_rows-same a b scene request method.Proppatch same = patch_rows-same a b scene request.size request.content same
own_rows-same a b scene request method.Report same = refl
own_rows-same a b scene request method.Mkcalendar same = make_rows-same a b scene request.size request.content same
own_rows-same a b scene request method.Acl same = acl_rows-same a b scene request.size request.content same

pub rows_of_change-same : (a b : ServerState) (scene : Scene) (request : Request) → HaveSameHome a b scene → rows_of_change a scene request ≡ rows_of_change b scene request
rows_of_change-same a b scene request same = ap (λ rows. shared_rows scene request ++ rows) (own_rows-same a b scene request request.method same)
