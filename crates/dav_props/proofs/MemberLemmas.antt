-- The members of what is seen at a path, as they are met in a store.
use Rattle.std.proofs.Common.{◌≡◌, ℕ, ◌<◌, Bool, true, false, not, ◌||◌, cond, ◌==◌, List, [], ◌∷◌, ◌++◌, map, length, Option, Some, None, refl, sym, ap, suc, ◌∙◌, subst, append-nil, append_assoc, length-append, arith}
use Rattle.std.specs.Prelude.{All, filter, flat_map, option_map, option_and_then, option_to_list, slice_get, unwrap_or}
use Rattle.std.proofs.lemmas.Bool.Decides.{nat_tests}
use Rattle.std.proofs.lemmas.Map.Entries.{option_filter}
use Rattle.cal_base.specs.Lists.NameMap.{Named, name_order, above, next_above}
use Rattle.cal_model.specs.declared.path.Path.TheVariants.{Home, Calendar as CalendarPath}
use Rattle.cal_model.specs.declared.property.Props.{Props}
use Rattle.cal_model.specs.declared.store.CalendarData.{CalendarData}
use Rattle.cal_model.specs.Access.Privileges.{privileges_held, has_all, read}
use Rattle.cal_model.specs.Properties.PropertyReplies.{resource_response}
use Rattle.cal_model.specs.Serving.ReadingReplies.{objects_seen}
use Rattle.cal_model.specs.Sight.Resources.{Resource, calendar, object}
use Rattle.cal_model.specs.Sight.Scenes.{scene_at, visible_home}
use Rattle.cal_model.specs.Sight.Views.{Sight, View, held_on, contents_of, only_where, sight_of, sight_with, seen_by, home_by}
use Rattle.cal_model.specs.State.ServerState.{Directory, Calendar, Home as UserHome, ServerState, groups_of, user_number, home_at}
use Rattle.cal_model.specs.State.SoundStates.{AreToUsers, IsSound, IsSoundCalendar, IsSoundHome}
use Rattle.cal_model.specs.State.StoredData.{data_of, data_at, next_calendar}
use Rattle.cal_model.specs.Words.Lists.{is_empty}
use Rattle.cal_model.proofs.Sight.SceneLaws.{holds_some, home_in-view}
use Rattle.std.specs.Ordering.{is_lt}
use Rattle.std.specs.Map.{values_of}
use Rattle.cal_model.proofs.State.NameWalkLaws.{home-sound}
use Rattle.dav_props.specs.Subjects.{calendar_sight}
use Rattle.object_walk.specs.WalkedObjects.{objects_at}
use Rattle.dav_props.specs.Finding.{IsUpTo, asking, calendar_text, calendars_of, members_text, object_text}
use Rattle.cal_model.proofs.Sight.CalendarSights.{calendar_by, calendar_known, no_calendar, sight_there, some_calendar, some_held}
use Rattle.dav_props.proofs.SeenLemmas.{sight_is, unseen_of}

-- Up to a limit

pub up_to_whole : (limit : ℕ) (written whole : List ℕ) → written ≡ whole → IsUpTo limit written whole
up_to_whole limit written whole is = record { fits = λ fits. is; long = λ long. subst (λ (t : List ℕ). limit < length t) is long }

pub up_to_front : (limit : ℕ) (written more whole : List ℕ) → limit < length written → written ++ more ≡ whole → IsUpTo limit written whole
up_to_front limit written more whole past is =
    record { fits = λ fits. absurd (omega (arith, fits, past)); long = λ long. omega (arith, past, ap length is, length-append written more) }

pub up_to_as : (limit : ℕ) (written whole other : List ℕ) → whole ≡ other → IsUpTo limit written whole → IsUpTo limit written other
up_to_as limit written whole other same up = subst (λ (t : List ℕ). IsUpTo limit written t) same up

-- Last names

flat_map_map : {X Y : Type 0} (f : Y → List ℕ) (g : X → Y) (xs : List X) → flat_map f (map g xs) ≡ flat_map (λ x. f (g x)) xs
flat_map_map f g [] = refl
flat_map_map f g (x ∷ xs) = ap (λ rest. f (g x) ++ rest) (flat_map_map f g xs)

module _ (directory : Directory) (state : ServerState) (who : ℕ) (props : Props) where
  abbrev response_of : Resource → List ℕ
  response_of = resource_response (asking directory who) props

  -- Homes

  abbrev in_home : List ℕ → List ℕ × Sight → Resource
  in_home user entry = calendar user entry.0 entry.1

  abbrev home_members : List ℕ → Option (Named Sight) → List Resource
  home_members user home = flat_map (λ (calendars : Named Sight). map (in_home user) calendars) (option_to_list home)

  abbrev view : View
  view = seen_by directory state who

  home_members_are : (user : List ℕ) → members_text directory state who props (Home user) ≡ flat_map response_of (home_members user (option_and_then (visible_home view who) (user_number directory user)))
  unfolding scene_at
  home_members_are user = refl

  pub no_members_of_no_home : (user : List ℕ) → None ≡ user_number directory user → members_text directory state who props (Home user) ≡ []
  no_members_of_no_home user e = home_members_are user ∙ ap (λ number. flat_map response_of (home_members user (option_and_then (visible_home view who) number))) (sym e)

  -- a home that is not shown has no calendar that is
  shown_or_empty : (user : List ℕ) (own : Bool) (calendars : Named Sight)
      → flat_map response_of (home_members user (cond (own || not (is_empty calendars)) (Some calendars) None)) ≡ flat_map (λ entry. response_of (in_home user entry)) calendars
  shown_or_empty user own calendars = by (own || not (is_empty calendars)) refl where
    empty : (own : Bool) (calendars : Named Sight) → (own || not (is_empty calendars)) ≡ false → calendars ≡ []
    empty true calendars e = absurd cc
    empty false [] e = refl
    empty false (c ∷ calendars) e = let test : (length (c ∷ calendars) == 0) ≡ false = grind (arith, nat_tests) in absurd (cc (e, ap not test))

    by : (test : Bool) → (own || not (is_empty calendars)) ≡ test → flat_map response_of (home_members user (cond test (Some calendars) None)) ≡ flat_map (λ entry. response_of (in_home user entry)) calendars
    by true e = ap (flat_map response_of) (append-nil (map (in_home user) calendars)) ∙ flat_map_map response_of (in_home user) calendars
    by false e = sym (ap (flat_map (λ entry. response_of (in_home user entry))) (empty own calendars e))

  visible_text : (owner : ℕ) (user : List ℕ) (named : Named Calendar)
      → flat_map (λ entry. response_of (in_home user entry)) (map (λ (entry : List ℕ × Calendar). (entry.0, sight_of directory owner who entry.1)) (filter (λ (entry : List ℕ × Calendar). not (held_on directory owner who entry.1 == 0)) named))
      ≡ flat_map (calendar_text directory who props owner user) named
  visible_text owner user [] = refl
  visible_text owner user (entry ∷ named) = by (held_on directory owner who entry.1 == 0) (visible_text owner user named) where
    rest : Named Calendar
    rest = filter (λ (entry : List ℕ × Calendar). not (held_on directory owner who entry.1 == 0)) named

    text : List ℕ
    text = response_of (calendar user entry.0 (sight_of directory owner who entry.1))

    by : (hidden : Bool)
        → flat_map (λ entry. response_of (in_home user entry)) (map (λ (entry : List ℕ × Calendar). (entry.0, sight_of directory owner who entry.1)) rest) ≡ flat_map (calendar_text directory who props owner user) named
        → flat_map (λ entry. response_of (in_home user entry)) (map (λ (entry : List ℕ × Calendar). (entry.0, sight_of directory owner who entry.1)) (cond (not hidden) (entry ∷ rest) rest))
        ≡ cond hidden [] text ++ flat_map (calendar_text directory who props owner user) named
    by true later = later
    by false later = ap (λ more. text ++ more) later

  pub members_of_home : (user : List ℕ) (owner : ℕ) → Some owner ≡ user_number directory user
      → flat_map (calendar_text directory who props owner user) (calendars_of state owner) ≡ members_text directory state who props (Home user)
  members_of_home user owner known =
      sym (home_members_are user
      ∙ ap (λ number. flat_map response_of (home_members user (option_and_then (visible_home view who) number))) (sym known)
      ∙ ap (λ found. flat_map response_of (home_members user (option_and_then (λ (calendars : Named Sight). cond ((owner == who) || not (is_empty calendars)) (Some calendars) None) found))) (home_in-view sight_of directory state who owner)
      ∙ by (home_at state owner)) where
        by : (found : Option UserHome)
            → flat_map response_of (home_members user (option_and_then (λ (calendars : Named Sight). cond ((owner == who) || not (is_empty calendars)) (Some calendars) None) (option_map (λ (h : UserHome). home_by sight_of directory who (owner, h)) found)))
            ≡ flat_map (calendar_text directory who props owner user) (flat_map (λ (home : UserHome). home.calendars) (option_to_list found))
        by None = refl
        by (Some home) =
            shown_or_empty user (owner == who) (home_by sight_of directory who (owner, home))
            ∙ visible_text owner user home.calendars
            ∙ ap (flat_map (calendar_text directory who props owner user)) (sym (append-nil home.calendars))

  -- Calendars

  abbrev in_calendar : List ℕ → List ℕ → Sight → List ℕ × List ℕ → Resource
  in_calendar user within sight entry = object user within entry.0 sight entry.1

  abbrev calendar_members : List ℕ → List ℕ → Option Sight → List Resource
  calendar_members user within sight = flat_map (λ (s : Sight). map (in_calendar user within s) (objects_seen s)) (option_to_list sight)

  calendar_members_are : (user within : List ℕ) → members_text directory state who props (CalendarPath user within) ≡ flat_map response_of (calendar_members user within (calendar_by sight_of directory state who (user_number directory user) within))
  unfolding scene_at
  calendar_members_are user within = refl

  pub no_members_of_no_user : (user within : List ℕ) → None ≡ user_number directory user → members_text directory state who props (CalendarPath user within) ≡ []
  no_members_of_no_user user within e =
      calendar_members_are user within ∙ ap (λ number. flat_map response_of (calendar_members user within (calendar_by sight_of directory state who number within))) (sym e)

  pub no_members_of_none : (user within : List ℕ) (owner : ℕ) → IsSound directory state → Some owner ≡ user_number directory user → None ≡ data_at state owner within
      → members_text directory state who props (CalendarPath user within) ≡ []
  no_members_of_none user within owner sound known e =
      calendar_members_are user within
      ∙ ap (λ number. flat_map response_of (calendar_members user within (calendar_by sight_of directory state who number within))) (sym known)
      ∙ ap (λ sight. flat_map response_of (calendar_members user within sight))
      (calendar_known sight_of directory state who owner within sound ∙ ap (λ found. option_map (sight_of directory owner who) (option_filter (holds_some directory owner who) found)) (no_calendar state owner within e))

  unread : (user within : List ℕ) (c : Calendar) (held : ℕ) (shown : Bool) → has_all held read ≡ false
      → flat_map response_of (calendar_members user within (cond shown (Some (sight_with held c)) None)) ≡ []
  unread user within c held false none = refl
  unread user within c held true none = ap (λ b. flat_map response_of (calendar_members user within (Some (record (sight_with held c) { contents = only_where b (contents_of c) })))) none

  pub no_members_unread : (user within : List ℕ) (owner : ℕ) (kept : CalendarData) (held : ℕ) → IsSound directory state → Some owner ≡ user_number directory user → Some kept ≡ data_at state owner within
      → held ≡ privileges_held (groups_of directory who) kept.acl.grants owner who → has_all held read ≡ false → members_text directory state who props (CalendarPath user within) ≡ []
  no_members_unread user within owner kept held sound known e is none =
      let there = some_calendar state owner within kept e in
      let same : held ≡ held_on directory owner who there.0 = is ∙ ap (λ (k : CalendarData). privileges_held (groups_of directory who) k.acl.grants owner who) there.2 in
      calendar_members_are user within
      ∙ ap (λ number. flat_map response_of (calendar_members user within (calendar_by sight_of directory state who number within))) (sym known)
      ∙ ap (λ sight. flat_map response_of (calendar_members user within sight)) (sight_there sight_of directory state who owner within there.0 sound there.1)
      ∙ unread user within there.0 (held_on directory owner who there.0) (holds_some directory owner who there.0) (ap (λ h. has_all h read) (sym same) ∙ none)

  read_members : (user within : List ℕ) (c : Calendar) (held : ℕ) (sight : Sight) → has_all held read ≡ true → sight ≡ sight_with held c
      → flat_map response_of (calendar_members user within (Some sight)) ≡ flat_map (object_text directory who props user within sight) (c.objects ++ [])
  read_members user within c held sight all is =
      ap (λ (objects : Named (List ℕ)). flat_map response_of (map (in_calendar user within sight) objects ++ []))
      (ap objects_seen is ∙ ap (λ b. objects_seen (record (sight_with held c) { contents = only_where b (contents_of c) })) all)
      ∙ ap (flat_map response_of) (append-nil (map (in_calendar user within sight) (c.objects ++ [])))
      ∙ flat_map_map response_of (in_calendar user within sight) (c.objects ++ [])

  -- the calendar's sight, and the responses of the objects that are seen
  pub members_of_calendar : (user within : List ℕ) (owner : ℕ) (kept : CalendarData) (held : ℕ) → IsSound directory state → Some owner ≡ user_number directory user → Some kept ≡ data_at state owner within
      → held ≡ privileges_held (groups_of directory who) kept.acl.grants owner who → has_all held read ≡ true
      → (sight : Sight) × (sight.held ≡ held) × (flat_map (object_text directory who props user within sight) (objects_at state owner within) ≡ members_text directory state who props (CalendarPath user within))
  members_of_calendar user within owner kept held sound known e is all =
      let there = some_calendar state owner within kept e in
      let same : held ≡ held_on directory owner who there.0 = is ∙ ap (λ (k : CalendarData). privileges_held (groups_of directory who) k.acl.grants owner who) there.2 in
      let sight = sight_of directory owner who there.0 in
      let shown : holds_some directory owner who there.0 ≡ true = ap (λ h. not (h == 0)) (sym same) ∙ some_held held all in (
        sight,
        sym same,
        ap (λ (found : Option Calendar). flat_map (object_text directory who props user within sight) (flat_map (λ (c : Calendar). c.objects) (option_to_list found))) there.1
            ∙ sym (calendar_members_are user within
            ∙ ap (λ number. flat_map response_of (calendar_members user within (calendar_by sight_of directory state who number within))) (sym known)
            ∙ ap (λ s. flat_map response_of (calendar_members user within s)) (sight_there sight_of directory state who owner within there.0 sound there.1 ∙ ap (λ b. cond b (Some sight) None) shown)
            ∙ read_members user within there.0 (held_on directory owner who there.0) sight (ap (λ h. has_all h read) (sym same) ∙ all) refl),
      )

  -- the response of a calendar on which some privilege is held
  pub calendar_written : (user name : List ℕ) (owner held : ℕ) (kept : CalendarData) (c : Calendar) → held ≡ privileges_held (groups_of directory who) kept.acl.grants owner who → (held ≡ 0 → ⊥) → kept ≡ data_of owner c
      → response_of (calendar user name (calendar_sight held kept (unseen_of directory state who owner name [] c))) ≡ calendar_text directory who props owner user (name, c)
  calendar_written user name owner held kept c is some same =
      let held_is : held ≡ held_on directory owner who c = is ∙ ap (λ (k : CalendarData). privileges_held (groups_of directory who) k.acl.grants owner who) same in
      let test : (held == 0) ≡ false = grind (arith, nat_tests) in
      let text = response_of (calendar user name (sight_of directory owner who c)) in
      ap (λ s. response_of (calendar user name s)) (sym (sight_is directory state who owner held name [] c kept held_is same))
      ∙ sym (ap (λ b. cond b [] text) (ap (λ h. h == 0) (sym held_is) ∙ test))

  pub object_written : (user within name octets : List ℕ) (held : ℕ) (sight : Sight) → sight.held ≡ held
      → response_of (object user within name (record sight { held = held }) octets) ≡ object_text directory who props user within sight (name, octets)
  object_written user within name octets held sight is = ap (λ h. response_of (object user within name (record sight { held = h }) octets)) (sym is)

-- Walks

-- the next one is one of them
next_passes : (P : Calendar → Type 0) (named : Named Calendar) (name : List ℕ) (pair : List ℕ × Calendar) → All P (values_of named) → next_above named name ≡ Some pair → P pair.1
next_passes P [] name pair all e = absurd cc
next_passes P (first ∷ named) name pair all e =
    by (is_lt (name_order name first.0)) (next_passes P named name pair (λ k d within. all (suc k) d (omega (arith, within)))) e where
      by : (test : Bool) → (next_above named name ≡ Some pair → P pair.1) → slice_get (cond test (first ∷ above named name) (above named name)) 0 ≡ Some pair → P pair.1
      by true later e = subst (λ (p : List ℕ × Calendar). P p.1) (ap (λ o. unwrap_or o first) e) (all 0 first.1 (omega arith))
      by false later e = later e

abbrev with_data : ℕ → List ℕ × Calendar → List ℕ × CalendarData
with_data owner entry = (entry.0, data_of owner entry.1)

pub grants_of_next : (directory : Directory) (state : ServerState) (owner : ℕ) (name next : List ℕ) (kept : CalendarData) → IsSound directory state → next_calendar state owner name ≡ Some (next, kept)
    → AreToUsers directory kept.acl.grants
grants_of_next directory state owner name next kept sound e = by (home_at state owner) refl e where
  in_home : (home : UserHome) → IsSoundHome directory home → (found : Option (List ℕ × Calendar)) → next_above home.calendars name ≡ found
      → option_map (with_data owner) found ≡ Some (next, kept) → AreToUsers directory kept.acl.grants
  in_home home sound None there e = absurd cc
  in_home home sound (Some pair) there e =
      subst (λ (k : CalendarData). AreToUsers directory k.acl.grants) (ap (λ (o : Option (List ℕ × CalendarData)). (unwrap_or o (next, kept)).1) e)
      (next_passes (IsSoundCalendar directory) home.calendars name pair sound.calendars there).grants

  by : (found : Option UserHome) → home_at state owner ≡ found
      → option_and_then (λ (h : UserHome). option_map (with_data owner) (next_above h.calendars name)) found ≡ Some (next, kept)
      → AreToUsers directory kept.acl.grants
  by None there e = absurd cc
  by (Some home) there e = in_home home (home-sound directory state owner home sound there) (next_above home.calendars name) refl e

-- one more was written
pub step_on : {X : Type 0} (f : X → List ℕ) (x : X) (rest all : List X) (old new whole : List ℕ) → new ≡ old ++ f x → all ≡ x ∷ rest → old ++ flat_map f all ≡ whole → new ++ flat_map f rest ≡ whole
step_on {X} f x rest all old new whole written is so_far =
    ap (λ text. text ++ flat_map f rest) written ∙ append_assoc old (f x) (flat_map f rest) ∙ sym (ap (λ (xs : List X). old ++ flat_map f xs) is) ∙ so_far

pub written_all : {X : Type 0} (f : X → List ℕ) (rest : List X) (written whole : List ℕ) → rest ≡ [] → written ++ flat_map f rest ≡ whole → written ≡ whole
written_all {X} f rest written whole none so_far = sym (append-nil written) ∙ sym (ap (λ (xs : List X). written ++ flat_map f xs) none) ∙ so_far

pub nothing_more : (limit : ℕ) (written more : List ℕ) → more ≡ [] → IsUpTo limit written (written ++ more)
nothing_more limit written more none = up_to_whole limit written (written ++ more) (sym (ap (λ text. written ++ text) none ∙ append-nil written))
