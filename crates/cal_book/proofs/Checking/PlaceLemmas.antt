-- What a scene has of the calendar and the object that are there.
use Rattle.std.proofs.Common.{◌≡◌, ℕ, Bool, true, false, if◌then◌else◌, List, Option, Some, None, refl, sym, ap, ◌∙◌, subst, ◌⊎◌, inl, inr}
use Rattle.std.specs.Prelude.{is_some, option_map, option_and_then, IfSome}
use Rattle.std.specs.Borrow.{Bor}
use Rattle.std.proofs.lemmas.Map.Entries.{option_filter}
use Rattle.cal_base.specs.Lists.NameMap.{value_at}
use Rattle.cal_model.specs.declared.path.Path.{Path}
use Rattle.cal_model.specs.declared.path.Path.TheVariants.{Calendar as CalendarPath, Object}
use Rattle.cal_model.specs.declared.request.Method.TheVariants.{Put}
use Rattle.cal_model.specs.declared.request.Request.{Request}
use Rattle.cal_model.specs.declared.store.CalendarData.{CalendarData}
use Rattle.cal_model.specs.Serving.Outcomes.{accepted_status}
use Rattle.cal_model.specs.Sight.Scenes.{scene_at, visible_home, at_both, octets_seen, calendar_in, object_in}
use Rattle.cal_model.specs.Sight.Views.{Sight, held_on, whole_sight, view_by}
use Rattle.cal_model.specs.State.ServerState.{Directory, Calendar, Home, ServerState, home_at, calendar_at}
use Rattle.cal_model.specs.State.SoundStates.{IsSound}
use Rattle.cal_model.specs.State.StoredData.{data_of, data_at}
use Rattle.cal_model.proofs.Sight.SceneLaws.{holds_some, calendar_in-scene}
use Rattle.cal_model.proofs.State.NameWalkLaws.{home-sound, calendar-sound}
use Rattle.request_checks.specs.declared.scenes.Scene.{Scene}
use Rattle.request_checks.specs.Sightings.{IsDataAt, IsSoundAt}
use Rattle.cal_book.specs.declared.changes.places.Place.{Place}
use Rattle.cal_book.specs.declared.changes.places.Target.{Target}
use Rattle.cal_book.specs.Checking.Passed.{IsPassed, sighted}
use Rattle.cal_book.specs.Checking.Places.{IsPlace, IsTarget}

-- The calendar

-- where there is the data of a calendar, the calendar is there
data_found : (home : ℕ) (name : List ℕ) (kept : CalendarData) (found : Option Home) → option_and_then (λ (h : Home). option_map (data_of home) (value_at h.calendars name)) found ≡ Some kept
    → (h : Home) × (found ≡ Some h) × (c : Calendar) × (option_and_then (λ (k : Home). value_at k.calendars name) found ≡ Some c) × (data_of home c ≡ kept)
data_found home name kept None e = absurd cc
data_found home name kept (Some h) e = by (value_at h.calendars name) refl e where
  by : (o : Option Calendar) → value_at h.calendars name ≡ o → option_map (data_of home) o ≡ Some kept
      → (k : Home) × (Some h ≡ Some k) × (c : Calendar) × (value_at h.calendars name ≡ Some c) × (data_of home c ≡ kept)
  by None is e = absurd cc
  by (Some c) is e = (h, refl, c, is, cc)

-- the calendar that is seen is the one that is there, where some privilege is held on it
seen_by_look : (directory : Directory) (state : ServerState) (who : ℕ) (path : Path) (owner : ℕ) (name : List ℕ) (home : Home) → IsSound directory state
    → (scene_at directory (view_by whole_sight directory state who) who path).user ≡ Some owner → calendar_in path ≡ Some name → home_at state owner ≡ Some home
    → (scene_at directory (view_by whole_sight directory state who) who path).calendar ≡ option_map (whole_sight directory owner who) (option_filter (holds_some directory owner who) (calendar_at state owner name))
unfolding scene_at
seen_by_look directory state who path owner name home sound known named found =
    ap (λ user. at_both (option_and_then (visible_home (view_by whole_sight directory state who) who) user) (calendar_in path)) known
    ∙ ap (λ n. at_both (visible_home (view_by whole_sight directory state who) who owner) n) named
    ∙ calendar_in-scene whole_sight directory state who owner home name found (home-sound directory state owner home sound found).in_order

seen_whole : (directory : Directory) (owner who : ℕ) (c : Calendar) (seen : Option Sight) (held : ℕ) → seen ≡ option_map (whole_sight directory owner who) (option_filter (holds_some directory owner who) (Some c))
    → Some held ≡ option_map (λ (sight : Sight). sight.held) seen → (seen ≡ Some (whole_sight directory owner who c)) × (held_on directory owner who c ≡ held)
seen_whole directory owner who c seen held e is = by (holds_some directory owner who c) e where
  by : (b : Bool) → seen ≡ option_map (whole_sight directory owner who) (if b then Some c else None) → (seen ≡ Some (whole_sight directory owner who c)) × (held_on directory owner who c ≡ held)
  by true e = (e, let same : Some held ≡ Some (held_on directory owner who c) = is ∙ ap (option_map (λ (sight : Sight). sight.held)) e in cc)
  by false e = let gone : Some held ≡ None = is ∙ ap (option_map (λ (sight : Sight). sight.held)) e in absurd cc

sound_there : (directory : Directory) (state : ServerState) (user : Option ℕ) (name : Option (List ℕ)) (home : ℕ) (calendar : List ℕ) → user ≡ Some home → name ≡ Some calendar → IsSoundAt user name directory state → IsSound directory state
sound_there directory state user name home calendar known named at = subst (λ n. IsSoundAt (Some home) n directory state) named (subst (λ u. IsSoundAt u name directory state) known at)

data_there : (state : ServerState) (user : Option ℕ) (name : Option (List ℕ)) (home : ℕ) (calendar : List ℕ) (kept : CalendarData) → user ≡ Some home → name ≡ Some calendar → IsDataAt state user name kept → data_at state home calendar ≡ Some kept
data_there state user name home calendar kept known named at = subst (λ n. IsDataAt state (Some home) n kept) named (subst (λ u. IsDataAt state u name kept) known at)

-- the name of a path's calendar is that of its place
pub path_with : (path : Path) (user calendar object name : List ℕ) → path ≡ Object user calendar object → calendar_in path ≡ Some name → path ≡ Object user name object
path_with path user calendar object name is named =
    let same : Some calendar ≡ Some name = sym (ap calendar_in is) ∙ named in
    let names : calendar ≡ name = cc in
    is ∙ ap (λ n. Object user n object) names

-- a calendar's name, at its own path or at that of an object in it
pub named_either : (path : Path) (name : List ℕ) → ((user : List ℕ) × (path ≡ CalendarPath user name)) ⊎ ((user : List ℕ) × (object : List ℕ) × (path ≡ Object user name object)) → calendar_in path ≡ Some name
named_either path name (inl at) = ap calendar_in at.1
named_either path name (inr at) = ap calendar_in at.2

-- what is lent is there exactly where it is seen
pub some_lent : {X Y : Type 0} (f : X → Y) (o : Option X) → is_some (option_map f o) ≡ is_some o
some_lent f None = refl
some_lent f (Some x) = refl

module _ (directory : Directory) (state : ServerState) (shown : Scene) (request : Request) (passed : IsPassed directory state shown request) where
  pub sound_at : (home : ℕ) (calendar : List ℕ) → shown.user ≡ Some home → calendar_in shown.path.now ≡ Some calendar → IsSound directory state
  sound_at home calendar known named = sound_there directory state shown.user (calendar_in shown.path.now) home calendar known named passed.sound

  pub place_there : (place : Place) → shown.user ≡ Some place.home → shown.calendar ≡ Some (place.held, place.data) → calendar_in shown.path.now ≡ Some place.calendar.now
      → IsPlace directory state (sighted directory state shown) place
  place_there place known lent named =
      let scene = sighted directory state shown in
      let user_is : scene.user ≡ Some place.home = sym passed.scene.user ∙ known in
      let path_is = passed.scene.path in
      let sound = sound_at place.home place.calendar.now known named in
      let kept = subst (λ o. IfSome o (λ (p : ℕ × Bor CalendarData). IsDataAt state shown.user (calendar_in shown.path.now) p.1.now)) lent passed.kept in
      let found = data_found place.home place.calendar.now place.data.now (home_at state place.home)
      (data_there state shown.user (calendar_in shown.path.now) place.home place.calendar.now place.data.now known named kept) in
      let seen = seen_whole directory place.home shown.who found.2 scene.calendar place.held
      (seen_by_look directory state shown.who shown.path.now place.home place.calendar.now found.0 sound user_is named found.1
      ∙ ap (λ o. option_map (whole_sight directory place.home shown.who) (option_filter (holds_some directory place.home shown.who) o)) found.3)
      (sym (ap (option_map (λ (p : ℕ × Bor CalendarData). p.0)) lent) ∙ passed.scene.calendar) in
      record {
        user_is = user_is;
        named = sym (ap calendar_in path_is) ∙ named;
        home = found.0;
        home_is = found.1;
        within = found.2;
        there = found.3;
        seen = by_who (λ who. scene.calendar ≡ Some (whole_sight directory place.home who found.2)) seen.0;
        held_is = by_who (λ who. held_on directory place.home who found.2 ≡ place.held) seen.1;
        data_is = found.4;
        sound = calendar-sound directory state place.home place.calendar.now found.2 sound found.3;
      } where
        by_who : (P : ℕ → Type 0) → P shown.who → P (sighted directory state shown).who
        by_who P holds = subst P passed.scene.who holds

  -- the object at the path
  pub object_seen : (place : Place) (is : IsPlace directory state (sighted directory state shown) place) (user object : List ℕ) → shown.path.now ≡ Object user place.calendar.now object
      → (sighted directory state shown).object ≡ value_at is.within.objects object
  unfolding scene_at
  object_seen place is user object path_is =
      ap (λ calendar. at_both (octets_seen calendar) (object_in shown.path.now)) is.seen ∙ ap (λ path. at_both (Some is.within.objects) (object_in path)) path_is

  pub target_there : (target : Target) → IsPlace directory state (sighted directory state shown) target.place → shown.path.now ≡ Object target.user.now target.place.calendar.now target.object.now
      → target.is_there ≡ is_some shown.object → target.status ≡ accepted_status (sighted directory state shown) Put → IsTarget directory state (sighted directory state shown) target
  target_there target place path_is there status = record {
    place = place;
    path_is = sym passed.scene.path ∙ path_is;
    into = record {
      there = place.there;
      in_order = place.sound.objects_in_order;
      object_is = there ∙ sym (some_lent _ shown.object) ∙ ap is_some (passed.scene.object ∙ object_seen target.place place target.user.now target.object.now path_is);
    };
    status_is = status;
  }
