-- Refusals go by no more of a scene than what a scene in memory has of it.
use Rattle.std.proofs.Common.{◌≡◌, ℕ, Bool, true, false, not, ◌&&◌, ◌||◌, cond, ◌==◌, List, [], ◌∷◌, Option, Some, None, refl, sym, ap, ◌∙◌, ◌⊎◌, inl, inr}
use Rattle.std.specs.Prelude.{is_some, is_none, option_map, option_to_list, map, position, bytes_eq, IsSome, IfSome}
use Rattle.std.proofs.lemmas.Iterator.Adapters.{position_from-zero}
use Rattle.std.proofs.lemmas.Slice.Eq.{bytes_eq-Decides}
use Rattle.std.specs.Borrow.{Bor}
use Rattle.std.specs.Option.{option_map_or}
use Rattle.std.proofs.lemmas.Bool.{false≢true}
use Rattle.cal_base.specs.Lists.NameMap.{Named}
use Rattle.cal_model.specs.declared.path.Path.{Path}
use Rattle.cal_model.specs.declared.path.Path.TheVariants.{Root, Principal, Home, Calendar, Object}
use Rattle.cal_model.specs.declared.reply.Reply.{Reply}
use Rattle.cal_model.specs.declared.reply.Refusal.{Refusal}
use Rattle.cal_model.specs.declared.request.Content.{Content}
use Rattle.cal_model.specs.declared.request.Content.TheVariants.{Bad}
use Rattle.cal_model.specs.declared.request.Method.{Method}
use Rattle.cal_model.specs.declared.request.Method.TheVariants.{Options, Get, Head, Put, Delete, Propfind, Proppatch, Report, Mkcalendar, Acl}
use Rattle.cal_model.specs.declared.request.Request.{Request}
use Rattle.cal_model.specs.declared.store.CalendarData.{CalendarData}
use Rattle.cal_model.specs.Access.Privileges.{has_all, read, write_content, bind, unbind}
use Rattle.cal_model.specs.Objects.ObjectReading.{first_there}
use Rattle.cal_model.specs.Replies.BareReplies.{bare_reply}
use Rattle.cal_model.specs.Refusals.RefusalReplies.{when, refusal_reply, need_privileges}
use Rattle.cal_model.specs.Refusals.SharedRefusals.{Need, nothing, held, owned, makes_or_asks, is_missing, need, unmet, needs_object, is_object_missing, fault_of, is_options, is_get, not_modified, if_match_fails, if_none_match_fails, shared_rows}
use Rattle.cal_model.specs.Sight.Scenes.{Scene as Sighted, held_in, object_in, user_in}
use Rattle.cal_model.specs.State.ServerState.{group_number}
use Rattle.cal_model.specs.Users.UsersFile.{Group}
use Rattle.cal_model.specs.Sight.Views.{Sight}
use Rattle.request_checks.specs.declared.refusals.SharedRefusal.{SharedRefusal}
use Rattle.request_checks.specs.declared.refusals.SharedRefusal.TheVariants.{NotFound, NeedPrivileges, Refused, PreconditionFailed, NotModified}
use Rattle.request_checks.specs.declared.scenes.Scene.{Scene}
use Rattle.request_checks.specs.Sightings.{names_group, names_home, held_of, held_on_sight}
use Rattle.request_checks.specs.Scenes.{IsFoundAt, IsScene, sight_held, least_of}
use Rattle.request_checks.specs.SharedReplies.{unmet_set, condition_rows, takes_room, IsFaultOf, IsFaultless}

-- 404

no_home : {X : Type 0} (home : Bool) (seen : Option X) (some : X) → home ≡ is_some seen → is_none (cond home (Some some) None) ≡ is_none seen
no_home true (Some x) some e = refl
no_home false None some e = refl
no_home true None some e = absurd (false≢true (sym e))
no_home false (Some x) some e = absurd (false≢true e)

no_calendar : (calendar : Option (ℕ × Bor CalendarData)) (seen : Option Sight) → held_of calendar ≡ held_on_sight seen
    → is_none (option_map (λ (p : ℕ × Bor CalendarData). sight_held p.0) calendar) ≡ is_none seen
no_calendar None None e = refl
no_calendar (Some p) (Some s) e = refl
no_calendar None (Some s) e = absurd cc
no_calendar (Some p) None e = absurd cc

-- by what a path goes
abbrev calendar_gone : Method → Bool → Bool → Bool
calendar_gone method home calendar = home || (calendar && not (makes_or_asks method))

-- the group whose principal's path it is
pub group-least : (shown : Scene) (name : List ℕ) → shown.path.now ≡ Principal name → is_none (group_number (least_of shown).directory name) ≡ not shown.group
group-least shown name is = by shown.group where
  one : is_none (position (λ (group : Group). bytes_eq name group.name) (record { name = name; members = [] } ∷ [])) ≡ false
  one =
      ap (λ (o : Option ℕ). is_none o) (position_from-zero (λ (group : Group). bytes_eq name group.name) (record { name = name; members = [] } ∷ []))
      ∙ ap (λ (b : Bool). is_none {T = ℕ} (cond b (Some 0) None)) ((bytes_eq-Decides name name).1 refl)

  by : (group : Bool)
      → is_none (position (λ (other : Group). bytes_eq name other.name) (cond group (map (λ (n : List ℕ). record { name = n; members = [] }) (option_to_list (user_in shown.path.now))) [])) ≡ not group
  by true = ap (λ path. is_none (position (λ (other : Group). bytes_eq name other.name) (map (λ (n : List ℕ). record { name = n; members = [] }) (option_to_list (user_in path))))) is ∙ one
  by false = refl

missing-least : (method : Method) (path : Path) (shown : Scene) (scene : Sighted) → shown.path.now ≡ path → shown.group ≡ names_group scene.directory path → shown.user ≡ scene.user → shown.home ≡ (names_home path && is_some scene.home)
    → held_of shown.calendar ≡ held_on_sight scene.calendar → is_missing method (least_of shown) path ≡ is_missing method scene path
missing-least method Root shown scene is group user home calendar = refl
missing-least method (Principal name) shown scene is group user home calendar =
    λ i. is_none (user i) && (group-least shown name is ∙ ap not group ∙ none_some (group_number scene.directory name)) i where
      none_some : (o : Option ℕ) → not (is_some o) ≡ is_none o
      none_some None = refl
      none_some (Some n) = refl
missing-least method (Home name) shown scene is group user home calendar = no_home shown.home scene.home [] home
missing-least method (Calendar name within) shown scene is group user home calendar =
    λ i. calendar_gone method (no_home shown.home scene.home [] home i) (no_calendar shown.calendar scene.calendar calendar i)
missing-least method (Object name within object) shown scene is group user home calendar =
    λ i. calendar_gone method (no_home shown.home scene.home [] home i) (no_calendar shown.calendar scene.calendar calendar i)

abbrev nothing_seen : Named Sight
nothing_seen = []

home_there : (home other : Bool) → false ≡ (is_none (cond home (Some nothing_seen) None) || other) → home ≡ true
home_there true other e = refl
home_there false other e = absurd (false≢true e)

home_alone : (home : Bool) → false ≡ is_none (cond home (Some nothing_seen) None) → home ≡ true
home_alone true e = refl
home_alone false e = absurd (false≢true e)

-- what is not missing is there
pub found : (method : Method) (shown : Scene) (path : Path) → false ≡ is_missing method (least_of shown) path → IsFoundAt shown path
found method shown Root e = tt
found method shown (Principal name) e = by shown.user shown.group e where
  by : (user : Option ℕ) (group : Bool)
      → false ≡ (is_none user && is_none (position (λ (other : Group). bytes_eq name other.name) (cond group (map (λ (n : List ℕ). record { name = n; members = [] }) (option_to_list (user_in shown.path.now))) [])))
      → IsSome user ⊎ (group ≡ true)
  by (Some number) group e = inl refl
  by None true e = inr refl
  by None false e = absurd (false≢true e)
found method shown (Home name) e = home_alone shown.home e
found method shown (Calendar name within) e = home_there shown.home _ e
found method shown (Object name within object) e = home_there shown.home _ e

-- Needs

held-least : (shown : Scene) (scene : Sighted) → held_of shown.calendar ≡ held_on_sight scene.calendar → held_in (least_of shown) ≡ held_in scene
held-least shown scene e = by shown.calendar scene.calendar e where
  by : (calendar : Option (ℕ × Bor CalendarData)) (seen : Option Sight) → held_of calendar ≡ held_on_sight seen
      → option_map_or (λ (sight : Sight). sight.held) (option_map (λ (p : ℕ × Bor CalendarData). sight_held p.0) calendar) 0 ≡ option_map_or (λ (sight : Sight). sight.held) seen 0
  by None None e = refl
  by (Some p) (Some s) e = cc
  by None (Some s) e = absurd cc
  by (Some p) None e = absurd cc

abbrev put_need : ℕ → Option (List ℕ) → Need
put_need set object = cond (not (has_all set bind) && not (has_all set write_content)) (held bind) (held (cond (is_none object) bind write_content))

need-least : (method : Method) (content : Content) (shown : Scene) (scene : Sighted) → IsScene shown scene → need (least_of shown) method content ≡ need scene method content
need-least Options content shown scene is = refl
need-least Get content shown scene is = refl
need-least Head content shown scene is = refl
need-least Put content shown scene is = λ i. put_need (held-least shown scene is.calendar i) (is.object i)
need-least Delete content shown scene is = ap (λ path. cond (is_some (object_in path)) (held unbind) (owned unbind)) is.path
need-least Propfind content shown scene is = ap (λ path. cond (is_some (object_in path)) (held read) nothing) is.path
need-least Proppatch content shown scene is = refl
need-least Report content shown scene is = refl
need-least Mkcalendar content shown scene is = refl
need-least Acl content shown scene is = refl

abbrev owns : Option ℕ → ℕ → Bool
owns user who = elim user [ None ↦ false | Some number ↦ number == who ]

unmet-least : (wanted : Need) (shown : Scene) (scene : Sighted) → IsScene shown scene → unmet (least_of shown) wanted ≡ unmet scene wanted
unmet-least nothing shown scene is = refl
unmet-least (held set) shown scene is = λ i. when (not (has_all (held-least shown scene is.calendar i) set)) (refusal_reply (need_privileges (is.path i) set))
unmet-least (owned set) shown scene is = λ i. when (not (owns (is.user i) (is.who i))) (refusal_reply (need_privileges (is.path i) set))

-- The rows of a scene in memory are those of each scene that it stands for.
pub rows-least : (shown : Scene) (scene : Sighted) (request : Request) → IsScene shown scene → shared_rows (least_of shown) request ≡ shared_rows scene request
unfolding shared_rows
rows-least shown scene request is =
    let missing : is_missing request.method (least_of shown) shown.path.now ≡ is_missing request.method scene scene.path =
    ap (is_missing request.method (least_of shown)) is.path ∙ missing-least request.method scene.path shown scene is.path is.group is.user is.home is.calendar in
    let lacked : unmet (least_of shown) (need (least_of shown) request.method request.content) ≡ unmet scene (need scene request.method request.content) =
    ap (unmet (least_of shown)) (need-least request.method request.content shown scene is) ∙ unmet-least (need scene request.method request.content) shown scene is in
    λ i. when (missing i) (bare_reply 404)
    ∷ lacked i
    ∷ when (needs_object request.method && is_some (object_in (is.path i)) && is_none (is.object i)) (bare_reply 404)
    ∷ fault_of request.content
    ∷ when ((is_some (object_in (is.path i)) && not (is_options request.method)) && if_match_fails request.if_match (is.object i)) (bare_reply 412)
    ∷ when ((is_some (object_in (is.path i)) && not (is_options request.method)) && if_none_match_fails request.if_none (is.object i))
    (cond (is_get request.method) (not_modified (is.object i)) (bare_reply 412))
    ∷ []

-- The first row

abbrev firsts : Bool → Option Reply → Bool → Option Reply → List (Option Reply) → Option Reply
firsts missing lacked absent fault rows =
    first_there (when missing (bare_reply 404) ∷ lacked ∷ when absent (bare_reply 404) ∷ fault ∷ rows)

pub first-rows : (scene : Sighted) (request : Request)
    → first_there (shared_rows scene request)
    ≡ firsts (is_missing request.method scene scene.path) (unmet scene (need scene request.method request.content)) (is_object_missing request.method scene) (fault_of request.content)
    (condition_rows scene request)
unfolding shared_rows
first-rows scene request = refl

-- the reply for want of what is lacked
abbrev lack_reply : Path → ℕ → Reply
lack_reply path set = refusal_reply (need_privileges path set)

pub unmet-set : (scene : Sighted) (wanted : Need) → option_map (lack_reply scene.path) (unmet_set scene wanted) ≡ unmet scene wanted
unmet-set scene nothing = refl
unmet-set scene (held set) = by (has_all (held_in scene) set) where
  by : (test : Bool) → option_map (lack_reply scene.path) (cond test None (Some set)) ≡ when (not test) (lack_reply scene.path set)
  by true = refl
  by false = refl
unmet-set scene (owned set) = by (owns scene.user scene.who) where
  by : (test : Bool) → option_map (lack_reply scene.path) (cond test None (Some set)) ≡ when (not test) (lack_reply scene.path set)
  by true = refl
  by false = refl

-- a content without a fault
no_fault : (content : Content) → ((refusal : Refusal) → content ≡ Bad refusal → ⊥) → None ≡ fault_of content
no_fault (Bad refusal) none = absurd (none refusal refl)
no_fault other none = refl

module _ (scene : Sighted) (request : Request) where
  abbrev wanted : Need
  wanted = need scene request.method request.content

  abbrev answered : Bool → Option Reply → Bool → Option Reply → Option Reply
  answered missing lacked absent fault = firsts missing lacked absent fault (condition_rows scene request)

  nothing_lacked : None ≡ unmet_set scene wanted → None ≡ unmet scene wanted
  nothing_lacked e = ap (option_map (lack_reply scene.path)) e ∙ unmet-set scene wanted

  pub first-missing : true ≡ is_missing request.method scene scene.path → Some (bare_reply 404) ≡ first_there (shared_rows scene request)
  first-missing missing =
      ap (λ b. answered b (unmet scene wanted) (is_object_missing request.method scene) (fault_of request.content)) missing ∙ sym (first-rows scene request)

  pub first-lacked : (set : ℕ) → false ≡ is_missing request.method scene scene.path → Some set ≡ unmet_set scene wanted → Some (lack_reply scene.path set) ≡ first_there (shared_rows scene request)
  first-lacked set missing lacked =
      let reply = ap (option_map (lack_reply scene.path)) lacked ∙ unmet-set scene wanted in
      (λ i. answered (missing i) (reply i) (is_object_missing request.method scene) (fault_of request.content)) ∙ sym (first-rows scene request)

  pub first-absent : false ≡ is_missing request.method scene scene.path → None ≡ unmet_set scene wanted → true ≡ is_object_missing request.method scene
      → Some (bare_reply 404) ≡ first_there (shared_rows scene request)
  first-absent missing lacked absent =
      let none = nothing_lacked lacked in
      (λ i. answered (missing i) (none i) (absent i) (fault_of request.content)) ∙ sym (first-rows scene request)

  pub first-bad : (refusal : Refusal) → false ≡ is_missing request.method scene scene.path → None ≡ unmet_set scene wanted → false ≡ is_object_missing request.method scene
      → request.content ≡ Bad refusal → Some (refusal_reply refusal) ≡ first_there (shared_rows scene request)
  first-bad refusal missing lacked absent bad =
      let none = nothing_lacked lacked in
      (λ i. answered (missing i) (none i) (absent i) (fault_of (sym bad i))) ∙ sym (first-rows scene request)

  pub first-condition : false ≡ is_missing request.method scene scene.path → None ≡ unmet_set scene wanted → false ≡ is_object_missing request.method scene
      → ((refusal : Refusal) → request.content ≡ Bad refusal → ⊥) → first_there (condition_rows scene request) ≡ first_there (shared_rows scene request)
  first-condition missing lacked absent good =
      let none = nothing_lacked lacked in
      let fault = no_fault request.content good in
      (λ i. answered (missing i) (none i) (absent i) (fault i)) ∙ sym (first-rows scene request)

-- no refusal takes room that takes none
pub no_room : (P : Type 0) (refusal : Option SharedRefusal) → IfSome refusal (λ r. takes_room r ≡ false) → IfSome refusal (λ r. takes_room r ≡ true → P)
no_room P None none = tt
no_room P (Some r) none = λ takes. absurd (false≢true (sym none ∙ takes))

-- Replies that go by the object alone

-- nor is a fault of a content told where only conditions fail
pub faultless_fault : (content : Content) (o : Option SharedRefusal) → IfSome o IsFaultless → IfSome o (IsFaultOf content)
faultless_fault content None faultless = tt
faultless_fault content (Some NotFound) faultless = tt
faultless_fault content (Some (NeedPrivileges set)) faultless = tt
faultless_fault content (Some (Refused refusal)) faultless = absurd faultless
faultless_fault content (Some PreconditionFailed) faultless = tt
faultless_fault content (Some (NotModified etag)) faultless = tt
