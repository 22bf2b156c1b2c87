-- What is found in a store by look-ups is what a user sees at a path.
use Rattle.std.proofs.Common.{◌≡◌, ℕ, Bool, true, false, not, cond, ◌==◌, List, [], ◌∷◌, ◌++◌, map, Option, Some, None, refl, sym, ap, ◌∙◌}
use Rattle.std.specs.Prelude.{option_map, option_and_then, option_to_list, is_some, IfOk, Result, Ok, Err}
use Rattle.std.specs.Borrow.{Bor}
use Rattle.std.proofs.lemmas.Map.Entries.{option_filter}
use Rattle.cal_base.specs.Lists.NameMap.{value_at}
use Rattle.cal_model.specs.declared.path.Path.{Path}
use Rattle.cal_model.specs.declared.path.Path.TheVariants.{Root, Principal, Home, Calendar as CalendarPath, Object as ObjectPath}
use Rattle.cal_model.specs.declared.store.CalendarData.{CalendarData}
use Rattle.cal_model.specs.declared.stored.Stored.{Stored}
use Rattle.cal_model.specs.Access.Privileges.{privileges_held, has_all, read}
use Rattle.cal_model.specs.State.PropertyTexts.{Texts}
use Rattle.cal_model.specs.State.ServerState.{Directory, Calendar, ServerState, groups_of, group_number, user_number, calendar_at, octets_at}
use Rattle.cal_model.specs.State.StoredData.{data_of, data_at}
use Rattle.cal_model.specs.State.SoundStates.{IsSound}
use Rattle.cal_model.specs.Sight.Views.{Sight, held_on, contents_of, only_where, sight_of, sight_with}
use Rattle.cal_model.specs.Sight.Scenes.{scene_at, at_both, octets_seen}
use Rattle.cal_model.specs.Sight.Resources.{Resource, principal, group, calendar, object}
use Rattle.cal_model.specs.declared.property.PropName.{PropName}
use Rattle.cal_model.specs.Properties.PropertyTable.{answer, answer_of_row, row_of, without_value}
use Rattle.cal_model.specs.Serving.SeenResources.{resources_seen, answer_at, seen_answer}
use Rattle.dav_props.specs.declared.rows.Asked.{Asked}
use Rattle.dav_props.specs.Answers.{answered}
use Rattle.dav_props.specs.Rows.{asked_name, property_of}
use Rattle.cal_model.proofs.Sight.SceneLaws.{holds_some}
use Rattle.cal_model.proofs.Sight.CalendarSights.{calendar_by, calendar_known, grants_known, no_calendar, not_zero, objects_are, objects_by, objects_read, sight_there, some_calendar}
use Rattle.dav_props.specs.declared.subjects.Subject.{Subject}
use Rattle.dav_props.specs.declared.subjects.Subject.TheVariants as subject
use Rattle.dav_props.specs.Subjects.{Unseen, calendar_sight, resource_of, IsSeenAs}
use Rattle.dav_props.proofs.TextLemmas.{texts_back}

pub if_ok_then : {X E : Type 0} {P Q : X → Type 0} (result : Result X E) → ((x : X) → P x → Q x) → IfOk result P → IfOk result Q
if_ok_then (Ok x) next holds = next x holds
if_ok_then (Err e) next holds = holds

module _ (directory : Directory) (state : ServerState) (who : ℕ) where
  -- the resources at the path of a calendar, by what is seen of it
  abbrev calendars_by : List ℕ → List ℕ → Option Sight → List Resource
  calendars_by user name sight = map (calendar user name) (option_to_list sight)

  pub calendars_are : (user name : List ℕ) → resources_seen directory state who (CalendarPath user name) ≡ calendars_by user name (calendar_by sight_of directory state who (user_number directory user) name)
  unfolding scene_at
  calendars_are user name = refl

  pub no_user : (user name : List ℕ) → None ≡ user_number directory user → resources_seen directory state who (CalendarPath user name) ≡ []
  no_user user name e = calendars_are user name ∙ ap (λ number. calendars_by user name (calendar_by sight_of directory state who number name)) (sym e)

  pub no_user_of_object : (user within name : List ℕ) → None ≡ user_number directory user → resources_seen directory state who (ObjectPath user within name) ≡ []
  no_user_of_object user within name e = objects_are directory state who user within name ∙ ap (λ number. objects_by user within name (calendar_by sight_of directory state who number within)) (sym e)

  pub not_there : (user name : List ℕ) (owner : ℕ) → IsSound directory state → Some owner ≡ user_number directory user → None ≡ data_at state owner name
      → resources_seen directory state who (CalendarPath user name) ≡ []
  not_there user name owner sound known e =
      calendars_are user name
      ∙ ap (λ number. calendars_by user name (calendar_by sight_of directory state who number name)) (sym known)
      ∙ ap (calendars_by user name) (calendar_known sight_of directory state who owner name sound ∙ ap (λ found. option_map (sight_of directory owner who) (option_filter (holds_some directory owner who) found)) (no_calendar state owner name e))

  pub not_there_of_object : (user within name : List ℕ) (owner : ℕ) → IsSound directory state → Some owner ≡ user_number directory user → None ≡ data_at state owner within
      → resources_seen directory state who (ObjectPath user within name) ≡ []
  not_there_of_object user within name owner sound known e =
      objects_are directory state who user within name
      ∙ ap (λ number. objects_by user within name (calendar_by sight_of directory state who number within)) (sym known)
      ∙ ap (objects_by user within name) (calendar_known sight_of directory state who owner within sound ∙ ap (λ found. option_map (sight_of directory owner who) (option_filter (holds_some directory owner who) found)) (no_calendar state owner within e))

  pub hidden : (user name : List ℕ) (owner : ℕ) (kept : CalendarData) (held : ℕ) → IsSound directory state → Some owner ≡ user_number directory user → Some kept ≡ data_at state owner name
      → held ≡ privileges_held (groups_of directory who) kept.acl.grants owner who → held ≡ 0 → resources_seen directory state who (CalendarPath user name) ≡ []
  hidden user name owner kept held sound known e is none =
      let found = some_calendar state owner name kept e in
      let same : held ≡ held_on directory owner who found.0 = is ∙ ap (λ (k : CalendarData). privileges_held (groups_of directory who) k.acl.grants owner who) found.2 in
      let test : holds_some directory owner who found.0 ≡ false = ap (λ h. not (h == 0)) (sym same ∙ none) in
      calendars_are user name
      ∙ ap (λ number. calendars_by user name (calendar_by sight_of directory state who number name)) (sym known)
      ∙ ap (calendars_by user name) (sight_there sight_of directory state who owner name found.0 sound found.1 ∙ ap (λ b. cond b (Some (sight_of directory owner who found.0)) None) test)

  -- what no property shows of a calendar
  abbrev pub unseen_of : ℕ → List ℕ → List ℕ → Calendar → Unseen
  unseen_of owner within name c = record { calendar = within; name = name; objects = c.objects; sight = sight_of directory owner who c }

  pub sight_is : (owner held : ℕ) (within name : List ℕ) (c : Calendar) (kept : CalendarData) → held ≡ held_on directory owner who c → kept ≡ data_of owner c
      → sight_of directory owner who c ≡ calendar_sight held kept (unseen_of owner within name c)
  sight_is owner held within name c kept is same =
      ap (λ (texts : Texts). record {
        held = held_on directory owner who c;
        contents = only_where (has_all (held_on directory owner who c) read) (record { kinds = c.kinds; texts = texts; objects = c.objects });
        grants = (sight_of directory owner who c).grants;
        busy = (sight_of directory owner who c).busy;
      }) (sym (texts_back c.texts))
      ∙ (λ i. calendar_sight (sym is i) (sym same i) (unseen_of owner within name c))

  pub found : (user : Bor (List ℕ)) (name : List ℕ) (owner : ℕ) (kept : Bor CalendarData) (held : ℕ) → IsSound directory state → Some owner ≡ user_number directory user.now
      → Some kept.now ≡ data_at state owner name → held ≡ privileges_held (groups_of directory who) kept.now.acl.grants owner who → (held ≡ 0 → ⊥)
      → IsSeenAs directory state who (CalendarPath user.now name) (subject.Calendar user held kept)
  found user name owner kept held sound known e is some =
      let there = some_calendar state owner name kept.now e in
      let same : held ≡ held_on directory owner who there.0 = is ∙ ap (λ (k : CalendarData). privileges_held (groups_of directory who) k.acl.grants owner who) there.2 in
      let test : holds_some directory owner who there.0 ≡ true = ap (λ h. not (h == 0)) (sym same) ∙ not_zero held some in
      record {
        unseen = unseen_of owner name [] there.0;
        is =
            calendars_are user.now name
            ∙ ap (λ number. calendars_by user.now name (calendar_by sight_of directory state who number name)) (sym known)
            ∙ ap (calendars_by user.now name) (sight_there sight_of directory state who owner name there.0 sound there.1 ∙ ap (λ b. cond b (Some (sight_of directory owner who there.0)) None) test)
            ∙ ap (λ sight. calendar user.now name sight ∷ []) (sight_is owner held name [] there.0 kept.now same there.2);
        path_is = refl;
        users = grants_known directory state owner name kept.now sound e;
      }

  -- Objects

  -- the objects of a calendar whose contents are not seen are not seen
  unread : (user within name : List ℕ) (c : Calendar) (held : ℕ) (shown : Bool) → has_all held read ≡ false → objects_by user within name (cond shown (Some (sight_with held c)) None) ≡ []
  unread user within name c held true none =
      ap (λ b. map (object user within name (sight_with held c)) (option_to_list (at_both (octets_seen (Some (record (sight_with held c) { contents = only_where b (contents_of c) }))) (Some name))) ++ []) none
  unread user within name c held false none = refl

  pub unread_object : (user within name : List ℕ) (owner : ℕ) (kept : CalendarData) (held : ℕ) → IsSound directory state → Some owner ≡ user_number directory user → Some kept ≡ data_at state owner within
      → held ≡ privileges_held (groups_of directory who) kept.acl.grants owner who → has_all held read ≡ false → resources_seen directory state who (ObjectPath user within name) ≡ []
  unread_object user within name owner kept held sound known e is none =
      let there = some_calendar state owner within kept e in
      let same : held ≡ held_on directory owner who there.0 = is ∙ ap (λ (k : CalendarData). privileges_held (groups_of directory who) k.acl.grants owner who) there.2 in
      objects_are directory state who user within name
      ∙ ap (λ number. objects_by user within name (calendar_by sight_of directory state who number within)) (sym known)
      ∙ ap (objects_by user within name) (sight_there sight_of directory state who owner within there.0 sound there.1)
      ∙ unread user within name there.0 (held_on directory owner who there.0) (holds_some directory owner who there.0) (ap (λ h. has_all h read) (sym same) ∙ none)

  octets_there : (owner : ℕ) (within name : List ℕ) (c : Calendar) → calendar_at state owner within ≡ Some c → octets_at state owner within name ≡ value_at c.objects name
  octets_there owner within name c there = ap (λ (o : Option Calendar). option_and_then (λ (calendar : Calendar). value_at calendar.objects name) o) there

  -- the objects of a calendar whose contents are seen
  objects_found : (user within name : List ℕ) (owner held : ℕ) (c : Calendar) → IsSound directory state → Some owner ≡ user_number directory user → calendar_at state owner within ≡ Some c
      → held ≡ held_on directory owner who c → has_all held read ≡ true
      → resources_seen directory state who (ObjectPath user within name) ≡ map (object user within name (sight_of directory owner who c)) (option_to_list (octets_at state owner within name))
  objects_found user within name owner held c sound known there same all =
      objects_read directory state who user within name owner c sound (sym known) there (ap (λ n. has_all n read) (sym same) ∙ all)
      ∙ ap (λ o. map (object user within name (sight_of directory owner who c)) (option_to_list o)) (sym (octets_there owner within name c there))

  pub no_object : (user within name : List ℕ) (owner : ℕ) (kept : CalendarData) (held : ℕ) → IsSound directory state → Some owner ≡ user_number directory user → Some kept ≡ data_at state owner within
      → held ≡ privileges_held (groups_of directory who) kept.acl.grants owner who → has_all held read ≡ true → None ≡ octets_at state owner within name → resources_seen directory state who (ObjectPath user within name) ≡ []
  no_object user within name owner kept held sound known e is all none =
      let there = some_calendar state owner within kept e in
      let same : held ≡ held_on directory owner who there.0 = is ∙ ap (λ (k : CalendarData). privileges_held (groups_of directory who) k.acl.grants owner who) there.2 in
      objects_found user within name owner held there.0 sound known there.1 same all
      ∙ ap (λ o. map (object user within name (sight_of directory owner who there.0)) (option_to_list o)) (sym none)

  pub found_object : (user : Bor (List ℕ)) (within name : List ℕ) (owner : ℕ) (kept : CalendarData) (held : ℕ) (stored : Bor Stored) → IsSound directory state → Some owner ≡ user_number directory user.now
      → Some kept ≡ data_at state owner within → held ≡ privileges_held (groups_of directory who) kept.acl.grants owner who → has_all held read ≡ true → Some stored.now.octets ≡ octets_at state owner within name
      → IsSeenAs directory state who (ObjectPath user.now within name) (subject.Object user held stored)
  found_object user within name owner kept held stored sound known e is all octets =
      let there = some_calendar state owner within kept e in
      let same : held ≡ held_on directory owner who there.0 = is ∙ ap (λ (k : CalendarData). privileges_held (groups_of directory who) k.acl.grants owner who) there.2 in
      record {
        unseen = unseen_of owner within name there.0;
        is =
            objects_found user.now within name owner held there.0 sound known there.1 same all
            ∙ ap (λ o. map (object user.now within name (sight_of directory owner who there.0)) (option_to_list o)) (sym octets)
            ∙ ap (λ h. object user.now within name (record (sight_of directory owner who there.0) { held = h }) stored.now.octets ∷ []) (sym same);
        path_is = refl;
        users = tt;
      }

  -- Above the calendars

  no_sight : Sight
  no_sight = record { held = 0; contents = None; grants = None; busy = None }

  nothing_unseen : Unseen
  nothing_unseen = record { calendar = []; name = []; objects = []; sight = no_sight }

  pub root_seen : (path : Path) → path ≡ Root → IsSeenAs directory state who path subject.Root
  root_seen path is = record { unseen = nothing_unseen; is = ap (resources_seen directory state who) is; path_is = sym is; users = tt }

  -- the principal of a name, by the number of its group
  abbrev principal_of : List ℕ → Option ℕ → List Resource
  principal_of name found = cond (is_some found) (group name) (principal name) ∷ []

  principals_are : (name : List ℕ) → resources_seen directory state who (Principal name) ≡ principal_of name (group_number directory name)
  unfolding scene_at
  principals_are name = refl

  pub group_seen : (name : Bor (List ℕ)) (number : ℕ) → Some number ≡ group_number directory name.now → IsSeenAs directory state who (Principal name.now) (subject.Group name number)
  group_seen name number known = record { unseen = nothing_unseen; is = principals_are name.now ∙ ap (principal_of name.now) (sym known); path_is = refl; users = known }

  pub principal_seen : (name : Bor (List ℕ)) (number : Option ℕ) → None ≡ group_number directory name.now → number ≡ user_number directory name.now
      → IsSeenAs directory state who (Principal name.now) (subject.Principal name number)
  principal_seen name number none known = record { unseen = nothing_unseen; is = principals_are name.now ∙ ap (principal_of name.now) (sym none); path_is = refl; users = known }

  pub home_seen : (path : Path) (user : Bor (List ℕ)) → path ≡ Home user.now → IsSeenAs directory state who path (subject.Home user)
  home_seen path user is = record { unseen = nothing_unseen; is = ap (resources_seen directory state who) is; path_is = sym is; users = tt }

-- What is said of a property of what is seen is what the table answers of it.
pub seen_is : (directory : Directory) (state : ServerState) (who : ℕ) (path : Path) (name : PropName) (asked : Asked) (seen : Subject) (unseen : Unseen) (shown : Option (List ℕ → List ℕ))
    → resources_seen directory state who path ≡ resource_of seen unseen ∷ [] → asked_name asked ≡ name → row_of name ≡ property_of asked.row name
    → seen_answer directory state who shown path name ≡ answered directory who shown asked seen unseen
unfolding answer
seen_is directory state who path name asked seen unseen shown is named row =
    ap (λ resources. answer_at (record { directory = directory; who = who; shown = shown }) resources name) is
    ∙ ap (answer_of_row (record { directory = directory; who = who; shown = shown }) (resource_of seen unseen) name) row
    ∙ ap (λ (n : PropName). answer_of_row (record { directory = directory; who = who; shown = shown }) (resource_of seen unseen) n (property_of asked.row n)) (sym named)

pub nothing_is : (directory : Directory) (state : ServerState) (who : ℕ) (path : Path) (name : PropName) (shown : Option (List ℕ → List ℕ))
    → resources_seen directory state who path ≡ [] → seen_answer directory state who shown path name ≡ without_value name 404
nothing_is directory state who path name shown is = ap (λ resources. answer_at (record { directory = directory; who = who; shown = shown }) resources name) is
