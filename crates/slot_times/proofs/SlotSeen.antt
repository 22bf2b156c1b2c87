-- What is found at a path is what the user sees there: the calendar that is there, where the privileges held on it let it be seen as busy or free.
use Rattle.std.proofs.Common.{◌≡◌, ℕ, Bool, true, false, cond, List, Option, Some, None, refl, sym, ap, subst, ◌∙◌}
use Rattle.std.specs.Prelude.{ℤ, option_and_then, option_map}
use Rattle.std.proofs.lemmas.Map.Entries.{option_filter}
use Rattle.cal_model.specs.declared.object.Class.{Class}
use Rattle.cal_model.specs.declared.path.Path.{Path}
use Rattle.cal_model.specs.declared.path.Path.TheVariants.{Calendar}
use Rattle.cal_model.specs.Access.Privileges.{has_all, read_free_busy}
use Rattle.cal_model.specs.Paths.TargetPaths.{target_path}
use Rattle.cal_model.specs.Sight.Scenes.{Scene as Sighted, at_both, calendar_in, scene_at, visible_home}
use Rattle.cal_model.specs.Sight.Views.{Sight, held_on, only_where, seen_by, served_class, sight_of}
use Rattle.cal_model.specs.State.ServerState.{Calendar as CalendarState, Directory, ServerState, calendar_at, user_number}
use Rattle.cal_model.proofs.Sight.SceneLaws.{calendar_in-scene, holds_some}
use Rattle.cal_model.proofs.State.NameWalkLaws.{home-sound}
use Rattle.cal_model.proofs.State.SoundLaws.{home_there}
use Rattle.request_checks.specs.declared.scenes.Scene.{Scene}
use Rattle.request_checks.specs.Scenes.{IsScene}
use Rattle.request_checks.specs.Sightings.{IsSoundAt, held_of, held_on_sight}
use Rattle.slot_times.specs.SlotCalendars.{IsCalendarOf, IsFoundAs, IsSeenAt, owner_by, place_with}
use Rattle.slot_times.specs.SlotTimes.{busy_seen, calendar_seen}
use Rattle.slot_times.specs.declared.slot_calendars.CalendarPlace.{CalendarPlace}

abbrev busy_of : Option Sight → Option (ℤ → Option Class)
busy_of sight = option_and_then (λ (s : Sight). s.busy) sight

abbrev owner_of : Option Sight → Option ℕ → Option ℕ
owner_of sight user = owner_by (held_on_sight sight) user

abbrev place_at : List ℕ → Option ℕ → Option CalendarPlace
place_at name owner = option_map (λ (home : ℕ). record { home = home; name = name }) owner

-- without an owner there is no place
pub no_place : (path : Path) → place_with path None ≡ None
no_place (Calendar user name) = refl
no_place other = refl

-- the owner in a scene in memory is that of each scene for which it stands
pub owner_is : (shown : Scene) (scene : Sighted) → IsScene shown scene → owner_by (held_of shown.calendar) shown.user ≡ owner_of scene.calendar scene.user
owner_is shown scene is = λ i. owner_by (is.calendar i) (is.user i)

module _ (directory : Directory) (state : ServerState) (who : ℕ) where
  -- nothing is seen, and nothing found
  none_found : (sight : Option Sight) (name : List ℕ) (owner : Option ℕ) → sight ≡ None → owner ≡ None → IsFoundAs state (busy_of sight) (place_at name owner)
  none_found sight name owner unseen unowned =
      subst (λ (s : Option Sight). IsFoundAs state (busy_of s) (place_at name owner)) (sym unseen)
      (subst (λ (o : Option ℕ). IsFoundAs state None (place_at name o)) (sym unowned) refl)

  -- a calendar that is there and visible, by whether it may be seen as busy or free
  by_privilege : (owner : ℕ) (name : List ℕ) (c : CalendarState) (found : Option ℕ) (may : Bool) → calendar_at state owner name ≡ Some c
      → found ≡ cond may (Some owner) None → IsFoundAs state (only_where may (served_class c)) (place_at name found)
  by_privilege owner name c found true there is = subst (λ (o : Option ℕ). IsFoundAs state (Some (served_class c)) (place_at name o)) (sym is) (c, there, refl)
  by_privilege owner name c found false there is = subst (λ (o : Option ℕ). IsFoundAs state None (place_at name o)) (sym is) refl

  -- a calendar that is there, by whether it is visible
  by_visible : (owner : ℕ) (name : List ℕ) (c : CalendarState) (sight : Option Sight) (found : Option ℕ) (visible : Bool) → calendar_at state owner name ≡ Some c
      → sight ≡ option_map (sight_of directory owner who) (cond visible (Some c) None) → found ≡ owner_of sight (Some owner) → IsFoundAs state (busy_of sight) (place_at name found)
  by_visible owner name c sight found true there seen is =
      subst (λ (s : Option Sight). IsFoundAs state (busy_of s) (place_at name found)) (sym seen)
      (by_privilege owner name c found (has_all (held_on directory owner who c) read_free_busy) there (is ∙ ap (λ (s : Option Sight). owner_of s (Some owner)) seen))
  by_visible owner name c sight found false there seen is = none_found sight name found seen (is ∙ ap (λ (s : Option Sight). owner_of s (Some owner)) seen)

  by_calendar : (owner : ℕ) (name : List ℕ) (sight : Option Sight) (found : Option ℕ) (calendar : Option CalendarState) → calendar_at state owner name ≡ calendar
      → sight ≡ option_map (sight_of directory owner who) (option_filter (holds_some directory owner who) calendar) → found ≡ owner_of sight (Some owner)
      → IsFoundAs state (busy_of sight) (place_at name found)
  by_calendar owner name sight found None there seen is = none_found sight name found seen (is ∙ ap (λ (s : Option Sight). owner_of s (Some owner)) seen)
  by_calendar owner name sight found (Some c) there seen is = by_visible owner name c sight found (holds_some directory owner who c) there seen is

  -- a calendar in the home of the user of a name
  by_user : (user name : List ℕ) (number found : Option ℕ) → user_number directory user ≡ number → IsSoundAt number (Some name) directory state
      → found ≡ owner_of (at_both (option_and_then (visible_home (seen_by directory state who) who) number) (Some name)) number
      → IsFoundAs state (busy_of (at_both (option_and_then (visible_home (seen_by directory state who) who) number) (Some name))) (place_at name found)
  by_user user name None found known sound is = subst (λ (o : Option ℕ). IsFoundAs state None (place_at name o)) (sym is) refl
  by_user user name (Some owner) found known sound is =
      let home = home_there directory state user owner sound known in
      by_calendar owner name (at_both (visible_home (seen_by directory state who) who owner) (Some name)) found (calendar_at state owner name) refl
      (calendar_in-scene sight_of directory state who owner home.0 name home.1 (home-sound directory state owner home.0 sound home.1).in_order) is

  abbrev sighted : Path → Sighted
  sighted path = scene_at directory (seen_by directory state who) who path

  -- What is found at a path.
  pub seen_at : (path : Path) (user found : Option ℕ) → user ≡ (sighted path).user → IsSoundAt user (calendar_in path) directory state
      → found ≡ owner_of (sighted path).calendar (sighted path).user → IsSeenAt directory state who path (place_with path found)
  unfolding scene_at
  seen_at (Calendar name calendar) user found known sound is =
      by_user name calendar (user_number directory name) found refl (subst (λ (o : Option ℕ). IsSoundAt o (Some calendar) directory state) known sound) is
  seen_at other user found known sound is = refl

  -- the same for a text that names a path, and for one that names none
  pub of_text : (text : List ℕ) (path : Path) (place : Option CalendarPlace) → Some path ≡ target_path text → IsSeenAt directory state who path place → IsCalendarOf directory state who text place
  of_text text path place named h =
      subst (λ (o : Option Path). IsFoundAs state (busy_of (option_and_then (calendar_seen directory (seen_by directory state who) who) o)) place) named h

  pub of_no_path : (text : List ℕ) → None ≡ target_path text → busy_seen directory (seen_by directory state who) who text ≡ None
  of_no_path text unnamed = sym (ap (λ (o : Option Path). busy_of (option_and_then (calendar_seen directory (seen_by directory state who) who) o)) unnamed)
