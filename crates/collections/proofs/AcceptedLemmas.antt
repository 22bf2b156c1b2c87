-- What a store relies on in a change that is accepted: its home has room, the calendar is there or is new, an object's UID is free, and the text of a zone is short.
use Rattle.std.proofs.Common.{◌≡◌, ℕ, ◌+◌, ◌<◌, ◌≤◌, ◌^◌, Bool, true, false, not, ◌&&◌, ◌||◌, List, [], ◌∷◌, ◌++◌, map, length, Option, Some, None, refl, sym, ap, ◌∙◌, subst, arith}
use Rattle.std.specs.Prelude.{IfSome, option_map, option_and_then, option_to_list, flat_map, is_some, is_none, nat_lt, ◌==◌, if◌then◌else◌, unwrap_or}
use Rattle.std.specs.Option.{option_map_or}
use Rattle.std.specs.BTreeMap.{is_at}
use Rattle.std.proofs.lemmas.Bool.{false≢true, ltb-false, eqb-true, not-false}
use Rattle.std.proofs.lemmas.Bool.Decides.{nat_tests}
use Rattle.std.proofs.lemmas.Map.Entries.{option_filter}
use Rattle.cal_base.specs.Lines.ComponentTrees.{or_else}
use Rattle.cal_model.specs.declared.property.PropName.{PropName}
use Rattle.cal_model.specs.declared.property.PropSet.{PropSet}
use Rattle.cal_model.specs.declared.privilege.Grant.{Grant}
use Rattle.cal_model.specs.declared.reply.Refusal.{Refusal}
use Rattle.cal_model.specs.declared.reply.Reply.{Reply}
use Rattle.cal_model.specs.declared.request.Content.TheVariants as content
use Rattle.cal_model.specs.declared.request.Event.{Event}
use Rattle.cal_model.specs.declared.request.Method.TheVariants as method
use Rattle.cal_model.specs.Access.Privileges.{privileges_held, granted, all}
use Rattle.cal_model.specs.Words.Limits.{home_limit, change_cost}
use Rattle.cal_model.specs.Objects.ObjectReading.{first_there}
use Rattle.cal_model.specs.State.PropertyTexts.{Texts, prop_order}
use Rattle.cal_model.specs.State.ServerState.{Directory, Calendar, Home, ServerState, calendar_timezone, groups_of, user_number, user_name, home_at, calendar_at}
use Rattle.cal_model.specs.State.SoundStates.{IsSound}
use Rattle.cal_model.specs.State.Changes.{Change, put, make, patch, acl, change_of, change_of_object, change_of_calendar}
use Rattle.cal_model.specs.Properties.PropertyTable.{Setting, zone, properties, row_of}
use Rattle.cal_model.specs.Properties.Settings.{setting_table, setting_fault, faults_of_value, value_faults, faults_of_all, is_no_text}
use Rattle.cal_model.specs.Refusals.Preconditions.{holder}
use Rattle.cal_model.specs.Refusals.RefusalReplies.{refused_where, when, refuse}
use Rattle.cal_model.specs.Refusals.RequestLimits.{zone_limit}
use Rattle.cal_model.specs.Refusals.SharedRefusals.{shared_rows, is_owner}
use Rattle.cal_model.specs.Refusals.ChangeRefusals.{is_full, no_room, contents_in, put_faults, patch_faults, some_fault}
use Rattle.cal_model.specs.Sight.Views.{Contents, Sight, contents_of, whole_sight, view_by}
use Rattle.cal_model.specs.Sight.Scenes.{Scene, scene_at, object_in, visible_home, at_both}
use Rattle.cal_model.specs.Serving.Outcomes.{accepted, outcome, outcome_where, is_reading, scene_by, rows_of_change, changed}
use Rattle.cal_model.specs.Serving.EventReplies.{state_after}
use Rattle.cal_model.specs.History.Journal.{Entry, asked, request_for}
use Rattle.cal_model.specs.History.KeptChanges.{IsAcceptable}
use Rattle.cal_model.proofs.History.ReplayLaws.{NoRow, no_row, some≢none, accepted-rows}
use Rattle.cal_model.proofs.Sight.SceneLaws.{holds_some, calendar_in-scene}
use Rattle.cal_model.proofs.State.SoundLaws.{home_there}
use Rattle.cal_model.proofs.State.NameWalkLaws.{home-sound}
use Rattle.collections.specs.Settings.{is_zone, last_zone, IsShort}
use Rattle.collections.specs.Stores.{HasRoomAt, MayBePut}
use Rattle.collections.proofs.SettingLemmas.{prop_exact}

-- Rows that refuse nothing

not_when : (applies : Bool) (reply : Reply) → when applies reply ≡ None → applies ≡ false
not_when true reply e = absurd (some≢none reply e)
not_when false reply e = refl

not_refused : (applies : Bool) (refusal : Refusal) → refused_where applies refusal ≡ None → applies ≡ false
not_refused true refusal e = absurd (some≢none refusal e)
not_refused false refusal e = refl

refuse-none : (r : Option Refusal) → refuse r ≡ None → r ≡ None
refuse-none None e = refl
refuse-none (Some refusal) e = absurd (some≢none _ e)

second : (a b : Bool) → (a || (b && true)) ≡ false → b ≡ false
second true b e = absurd (false≢true (sym e))
second false true e = e
second false false e = refl

some_false : {X : Type 0} (o : Option X) → is_some o ≡ false → o ≡ None
some_false None e = refl
some_false (Some x) e = absurd (false≢true (sym e))

-- no row refuses an accepted change
rows_of : (directory : Directory) (state after : ServerState) (event : Event) (status : ℕ) → is_reading event.request.method ≡ false → outcome directory state event ≡ accepted status after
    → NoRow (rows_of_change state (scene_by whole_sight directory state event) event.request)
unfolding outcome
rows_of directory state after event status changes done =
    let scene = scene_by whole_sight directory state event in
    let as_change : outcome_where false directory state event ≡ accepted status after = subst (λ reads. outcome_where reads directory state event ≡ accepted status after) changes done in
    no_row (rows_of_change state scene event.request) (accepted-rows (first_there (rows_of_change state scene event.request)) (changed state scene event.request.method (change_of directory event.request)) status after as_change).0

-- Room

room_by : (found : Option Home) (size : ℕ) → option_map_or (λ (home : Home). nat_lt home_limit (home.accepted + change_cost size)) found true ≡ false
    → (home : Home) → found ≡ Some home → home.accepted + change_cost size ≤ home_limit
room_by None size e home is = absurd cc
room_by (Some h) size e home is =
    let same : h ≡ home = cc in
    subst (λ (x : Home). x.accepted + change_cost size ≤ home_limit) same (ltb-false home_limit (h.accepted + change_cost size) e)

room_at : (state : ServerState) (scene : Scene) (home size : ℕ) → scene.user ≡ Some home → no_room (is_full state scene size) ≡ None → HasRoomAt state home size
room_at state scene home size user none h is =
    room_by (home_at state home) size (sym (ap (λ o. option_map_or (λ (k : Home). nat_lt home_limit (k.accepted + change_cost size)) (option_and_then (home_at state) o) true) user) ∙ not_when _ _ none) h is

-- Zones

is_zone_row : (name : PropName) → is_at (prop_order calendar_timezone) name ≡ true → (row_of name).setting ≡ zone
unfolding properties
is_zone_row name here = ap (λ n. (row_of n).setting) (sym (prop_exact calendar_timezone name here))

no_first : (a b : Bool) → (a || b) ≡ false → b ≡ false
no_first true b e = absurd (false≢true (sym e))
no_first false b e = e

short_value : (making : Bool) (texts : Texts) (name : PropName) (value : Option (List ℕ)) (setting : Setting) → setting ≡ zone → NoRow (faults_of_value making setting texts name value) → IfSome value (λ octets. length octets < 2 ^ 32)
short_value making texts name None setting is none = tt
short_value making texts name (Some value) setting is none =
    let row = (subst (λ s. NoRow (value_faults s texts name value)) is none).0 in
    let within = ltb-false zone_limit (length value) (no_first (is_no_text value) (nat_lt zone_limit (length value)) (not_refused _ _ row)) in
    omega (arith, within)

short_setting : (making : Bool) (texts : Texts) (set : PropSet) → is_zone set ≡ true → setting_fault making texts set ≡ None → IsShort set
short_setting making texts set here none =
    short_value making texts set.name set.value (row_of set.name).setting (is_zone_row set.name here) (no_row (setting_table making texts set) none).1.1

short_by : (making : Bool) (texts : Texts) (set : PropSet) (rest : Option PropSet) (here : Bool) → is_zone set ≡ here → setting_fault making texts set ≡ None → IfSome rest IsShort → IfSome (or_else rest (if here then Some set else None)) IsShort
short_by making texts set None true is none later = short_setting making texts set is none
short_by making texts set None false is none later = tt
short_by making texts set (Some other) here is none later = later

abbrev refusals : List (PropName × Option Refusal) → List (Option Refusal)
refusals faults = map (λ (entry : PropName × Option Refusal). entry.1) faults

short_all : (making : Bool) (sets : List PropSet) (texts : Texts) → NoRow (refusals (faults_of_all making texts sets)) → IfSome (last_zone sets) IsShort
short_all making [] texts none = tt
short_all making (set ∷ sets) texts none = short_by making texts set (last_zone sets) (is_zone set) refl none.0 (short_all making sets _ none.1)

-- The calendar

-- a calendar that is there has its contents
calendar_there : (directory : Directory) (owner who : ℕ) (scene : Scene) (found : Option Calendar) → scene.calendar ≡ option_map (whole_sight directory owner who) (option_filter (holds_some directory owner who) found)
    → is_none scene.calendar ≡ false → (c : Calendar) × (found ≡ Some c) × (contents_in scene ≡ contents_of c ∷ [])
calendar_there directory owner who scene None e there = absurd (false≢true (sym there ∙ ap is_none e))
calendar_there directory owner who scene (Some c) e there = by (holds_some directory owner who c) e where
  by : (b : Bool) → scene.calendar ≡ option_map (whole_sight directory owner who) (if b then Some c else None) → (d : Calendar) × (Some c ≡ Some d) × (contents_in scene ≡ contents_of d ∷ [])
  by true e = (c, refl, ap (λ o. option_to_list (option_and_then (λ (sight : Sight). sight.contents) o)) e)
  by false e = absurd (false≢true (sym there ∙ ap is_none e))

-- the owner sees each calendar of the own home
owner_holds : (directory : Directory) (owner : ℕ) (c : Calendar) → holds_some directory owner owner c ≡ true
unfolding privileges_held
owner_holds directory owner c = ap (λ b. not ((if b then all else granted (groups_of directory owner) c.grants owner) == 0)) (same_number owner) where
  same_number : (n : ℕ) → (n == n) ≡ true
  same_number n = grind (arith, nat_tests)

absent_by : (directory : Directory) (owner who : ℕ) (scene : Scene) (found : Option Calendar) → owner ≡ who → scene.calendar ≡ option_map (whole_sight directory owner who) (option_filter (holds_some directory owner who) found)
    → scene.calendar ≡ None → found ≡ None
absent_by directory owner who scene None own e none = refl
absent_by directory owner who scene (Some c) own e none =
    let holds : holds_some directory owner who c ≡ true = subst (λ w. holds_some directory owner w c ≡ true) own (owner_holds directory owner c) in
    let seen : scene.calendar ≡ Some (whole_sight directory owner who c) = e ∙ ap (λ b. option_map (whole_sight directory owner who) (if b then Some c else None)) holds in
    absurd (some≢none _ (sym seen ∙ none))

-- The owner, and room beside another test

owner_by : (found : Option ℕ) (home who : ℕ) → found ≡ Some home → (elim found [ None ↦ false | Some user ↦ user == who ]) ≡ true → (home == who) ≡ true
owner_by None home who is e = absurd cc
owner_by (Some user) home who is e = let same : user ≡ home = cc in subst (λ n. (n == who) ≡ true) same e

no_room_either : (a b : Bool) → no_room (a || b) ≡ None → no_room b ≡ None
no_room_either true b e = absurd (some≢none _ e)
no_room_either false b e = e

-- Whose home it is

home_of_put : (found : Option ℕ) (home : ℕ) (calendar object octets : List ℕ) → option_and_then (λ h. change_of_object method.Put (content.Put true octets) h calendar object) found ≡ Some (put home calendar object octets) → found ≡ Some home
home_of_put None home calendar object octets e = absurd cc
home_of_put (Some h) home calendar object octets e = cc

home_of_make : (found : Option ℕ) (home : ℕ) (calendar : List ℕ) (sets : List PropSet) (size : ℕ) → option_and_then (λ h. change_of_calendar method.Mkcalendar (content.Make sets) h calendar size) found ≡ Some (make home calendar sets size) → found ≡ Some home
home_of_make None home calendar sets size e = absurd cc
home_of_make (Some h) home calendar sets size e = cc

home_of_patch : (found : Option ℕ) (home : ℕ) (calendar : List ℕ) (sets : List PropSet) (size : ℕ) → option_and_then (λ h. change_of_calendar method.Proppatch (content.Patch sets) h calendar size) found ≡ Some (patch home calendar sets size) → found ≡ Some home
home_of_patch None home calendar sets size e = absurd cc
home_of_patch (Some h) home calendar sets size e = cc

home_of_acl : (found : Option ℕ) (home : ℕ) (calendar : List ℕ) (grants : List Grant) (size : ℕ) → option_and_then (λ h. change_of_calendar method.Acl (content.Acl grants) h calendar size) found ≡ Some (acl home calendar grants size) → found ≡ Some home
home_of_acl None home calendar grants size e = absurd cc
home_of_acl (Some h) home calendar grants size e = cc

map_none : {X Y : Type 0} (f : X → Y) (o : Option X) → option_map f o ≡ None → o ≡ None
map_none f None e = refl
map_none f (Some x) e = absurd (some≢none (f x) e)

append_none : {X : Type 0} (xs : List X) → xs ++ [] ≡ xs
append_none [] = refl
append_none (x ∷ xs) = ap (λ rest. x ∷ rest) (append_none xs)

-- rows of a PUT into a calendar that is there
put_rows_in : (scene : Scene) (octets : List ℕ) (c : Calendar) (contents : List Contents) (more : Option Reply) → contents ≡ contents_of c ∷ [] → NoRow (map refuse (flat_map (put_faults scene true octets) contents) ++ (more ∷ []))
    → (holder c.objects (unwrap_or (object_in scene.path) []) octets ≡ None) × (more ≡ None)
put_rows_in scene octets c contents more is none =
    let rows = subst (λ cs. NoRow (map refuse (flat_map (put_faults scene true octets) cs) ++ (more ∷ []))) is none in
    (map_none _ _ (refuse-none _ rows.1.0), rows.1.1.0)

patch_faults_in : (scene : Scene) (sets : List PropSet) (c : Calendar) → contents_in scene ≡ contents_of c ∷ [] → some_fault (patch_faults scene sets) ≡ false → NoRow (refusals (faults_of_all false c.texts sets))
patch_faults_in scene sets c is none =
    let here : patch_faults scene sets ≡ faults_of_all false c.texts sets =
    ap (λ cs. flat_map (λ (contents : Contents). faults_of_all false contents.texts sets) cs) is ∙ append_none (faults_of_all false c.texts sets) in
    no_row (refusals (faults_of_all false c.texts sets)) (some_false _ (sym (ap some_fault here) ∙ none))

module _ (directory : Directory) (state : ServerState) (sound : IsSound directory state) where
  -- the calendar of a request, as it is seen
  seen_at : (who owner : ℕ) (user name : List ℕ) → user_number directory user ≡ Some owner
      → at_both (option_and_then (visible_home (view_by whole_sight directory state who) who) (user_number directory user)) (Some name)
      ≡ option_map (whole_sight directory owner who) (option_filter (holds_some directory owner who) (calendar_at state owner name))
  seen_at who owner user name known =
      let home = home_there directory state user owner sound known in
      ap (λ number. at_both (option_and_then (visible_home (view_by whole_sight directory state who) who) number) (Some name)) known
      ∙ calendar_in-scene whole_sight directory state who owner home.0 name home.1 (home-sound directory state owner home.0 sound home.1).in_order

  abbrev event_of : Entry → Change → Event
  event_of entry change = record { session = entry.session; who = entry.who; moment = entry.moment; request = request_for directory change }

  -- an acceptable change is accepted, and asks for itself
  done : (change : Change) (ok : IsAcceptable directory state change) → outcome directory state (event_of ok.entry change) ≡ accepted ok.entry.status (state_after directory state (asked directory ok.entry))
  done change ok = subst (λ c. outcome directory state (event_of ok.entry c) ≡ accepted ok.entry.status (state_after directory state (asked directory ok.entry))) ok.entry_is ok.accepted_is

  asks : (change : Change) (ok : IsAcceptable directory state change) → change_of directory (request_for directory change) ≡ Some change
  asks change ok = subst (λ c. change_of directory (request_for directory c) ≡ Some change) ok.entry_is ok.asked_is

  pub accepted_put : (home : ℕ) (calendar object octets : List ℕ) → IsAcceptable directory state (put home calendar object octets) → HasRoomAt state home (length octets) × MayBePut state home calendar object octets
  unfolding change_of shared_rows scene_at
  accepted_put home calendar object octets ok =
      let change = put home calendar object octets in
      let event = event_of ok.entry change in
      let scene = scene_by whole_sight directory state event in
      let known = home_of_put (user_number directory (user_name directory home)) home calendar object octets (asks change ok) in
      let rows = rows_of directory state _ event ok.entry.status refl (done change ok) in
      let shown = second (is_none scene.home) (is_none scene.calendar) (not_when _ _ rows.0) in
      let here = calendar_there directory home ok.entry.who scene (calendar_at state home calendar) (seen_at ok.entry.who home (user_name directory home) calendar known) shown in
      let own = put_rows_in scene octets here.0 (contents_in scene) _ here.2 rows.1.1.1.1.1.1 in
      (room_at state scene home (length octets) known own.1, record { within = here.0; there = here.1; alone = own.0 })

  pub accepted_make : (home : ℕ) (calendar : List ℕ) (sets : List PropSet) (size : ℕ) → IsAcceptable directory state (make home calendar sets size)
      → HasRoomAt state home size × (calendar_at state home calendar ≡ None) × IfSome (last_zone sets) IsShort
  unfolding change_of shared_rows scene_at
  accepted_make home calendar sets size ok =
      let change = make home calendar sets size in
      let event = event_of ok.entry change in
      let scene = scene_by whole_sight directory state event in
      let known = home_of_make (user_number directory (user_name directory home)) home calendar sets size (asks change ok) in
      let rows = rows_of directory state _ event ok.entry.status refl (done change ok) in
      let own = rows.1.1.1.1.1.1 in
      let owned : is_owner scene ≡ true = not-false _ (not_when _ _ rows.1.0) in
      let mine : home ≡ ok.entry.who = eqb-true home ok.entry.who (owner_by scene.user home ok.entry.who known owned) in (
        room_at state scene home size known (no_room_either _ _ own.1.1.0),
        absent_by directory home ok.entry.who scene (calendar_at state home calendar) mine (seen_at ok.entry.who home (user_name directory home) calendar known) (some_false scene.calendar (not_when _ _ own.0)),
        short_all true sets [] (no_row (refusals (faults_of_all true [] sets)) (refuse-none _ own.1.0)),
      )

  pub accepted_patch : (home : ℕ) (calendar : List ℕ) (sets : List PropSet) (size : ℕ) → IsAcceptable directory state (patch home calendar sets size)
      → HasRoomAt state home size × IfSome (last_zone sets) IsShort
  unfolding change_of shared_rows scene_at
  accepted_patch home calendar sets size ok =
      let change = patch home calendar sets size in
      let event = event_of ok.entry change in
      let scene = scene_by whole_sight directory state event in
      let known = home_of_patch (user_number directory (user_name directory home)) home calendar sets size (asks change ok) in
      let rows = rows_of directory state _ event ok.entry.status refl (done change ok) in
      let shown = second (is_none scene.home) (is_none scene.calendar) (not_when _ _ rows.0) in
      let here = calendar_there directory home ok.entry.who scene (calendar_at state home calendar) (seen_at ok.entry.who home (user_name directory home) calendar known) shown in
      let own = rows.1.1.1.1.1.1 in
      (room_at state scene home size known own.1.0, short_all false sets here.0.texts (patch_faults_in scene sets here.0 here.2 (not_when _ _ own.0)))

  pub accepted_acl : (home : ℕ) (calendar : List ℕ) (grants : List Grant) (size : ℕ) → IsAcceptable directory state (acl home calendar grants size) → HasRoomAt state home size
  unfolding change_of shared_rows scene_at
  accepted_acl home calendar grants size ok =
      let change = acl home calendar grants size in
      let event = event_of ok.entry change in
      let scene = scene_by whole_sight directory state event in
      let known = home_of_acl (user_number directory (user_name directory home)) home calendar grants size (asks change ok) in
      let rows = rows_of directory state _ event ok.entry.status refl (done change ok) in
      room_at state scene home size known rows.1.1.1.1.1.1.0
