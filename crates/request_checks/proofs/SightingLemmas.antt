-- What a store's look-ups give of a calendar and of an object is what is seen of them at a path.
use Rattle.std.proofs.Common.{◌≡◌, ℕ, Bool, true, false, not, cond, ◌==◌, List, Option, Some, None, refl, sym, ap, subst, ◌∙◌}
use Rattle.std.specs.Prelude.{option_map, option_and_then}
use Rattle.std.specs.Borrow.{Bor}
use Rattle.std.proofs.lemmas.Map.Entries.{option_filter}
use Rattle.cal_base.specs.Lists.NameMap.{value_at}
use Rattle.cal_model.specs.declared.path.Path.{Path}
use Rattle.cal_model.specs.declared.path.Path.TheVariants.{Object as ObjectPath}
use Rattle.cal_model.specs.declared.store.CalendarData.{CalendarData}
use Rattle.cal_model.specs.Access.Privileges.{privileges_held, has_all, read}
use Rattle.cal_model.specs.State.ServerState.{Directory, Calendar, ServerState, groups_of, calendar_at, octets_at}
use Rattle.cal_model.specs.State.StoredData.{data_at}
use Rattle.cal_model.specs.State.SoundStates.{IsSound}
use Rattle.cal_model.specs.Sight.Views.{Sight, Contents, held_on, contents_of, only_where}
use Rattle.cal_model.specs.Sight.Scenes.{at_both, octets_seen, object_in, calendar_in}
use Rattle.cal_model.proofs.Sight.SceneLaws.{holds_some}
use Rattle.cal_model.proofs.Sight.CalendarSights.{calendar_known, no_calendar, not_zero, sight_there, some_calendar}
use Rattle.request_checks.specs.declared.looks.Look.{Look}
use Rattle.request_checks.specs.declared.looks.Look.TheVariants.{Own, Whole}
use Rattle.request_checks.specs.Sightings.{eyes_of, calendar_seen, held_of, held_on_sight, held_or_nothing, shows_objects, IsSoundAt}

-- whatever is looked at, what is held is the same
held-eyes : (look : Look) (directory : Directory) (owner who : ℕ) (c : Calendar) → (eyes_of look directory owner who c).held ≡ held_on directory owner who c
held-eyes Own directory owner who c = refl
held-eyes Whole directory owner who c = refl

module _ (look : Look) (directory : Directory) (state : ServerState) (who : ℕ) where
  abbrev looked : ℕ → List ℕ → Option Sight
  looked owner name = calendar_seen look directory state who (Some owner) (Some name)

  nothing_known : (owner : ℕ) (name : List ℕ) → IsSound directory state → calendar_at state owner name ≡ None → looked owner name ≡ None
  nothing_known owner name sound none =
      calendar_known (eyes_of look) directory state who owner name sound ∙ ap (λ found. option_map (eyes_of look directory owner who) (option_filter (holds_some directory owner who) found)) none

  -- What is looked up

  pub not_there : (owner : ℕ) (name : List ℕ) → IsSound directory state → None ≡ data_at state owner name → looked owner name ≡ None
  not_there owner name sound e = nothing_known owner name sound (no_calendar state owner name e)

  pub hidden : (owner : ℕ) (name : List ℕ) (kept : CalendarData) (held : ℕ) → IsSound directory state → Some kept ≡ data_at state owner name
      → held ≡ privileges_held (groups_of directory who) kept.acl.grants owner who → held ≡ 0 → looked owner name ≡ None
  hidden owner name kept held sound e is none =
      let found = some_calendar state owner name kept e in
      let same : held ≡ held_on directory owner who found.0 = is ∙ ap (λ (k : CalendarData). privileges_held (groups_of directory who) k.acl.grants owner who) found.2 in
      let test : holds_some directory owner who found.0 ≡ false = ap (λ h. not (h == 0)) (sym same ∙ none) in
      sight_there (eyes_of look) directory state who owner name found.0 sound found.1 ∙ ap (λ b. cond b (Some (eyes_of look directory owner who found.0)) None) test

  -- a calendar is seen on which this is held
  pub visible : (owner : ℕ) (name : List ℕ) (kept : CalendarData) (held : ℕ) → IsSound directory state → Some kept ≡ data_at state owner name
      → held ≡ privileges_held (groups_of directory who) kept.acl.grants owner who → (held ≡ 0 → ⊥) → Some held ≡ held_on_sight (looked owner name)
  visible owner name kept held sound e is some =
      let found = some_calendar state owner name kept e in
      let same : held ≡ held_on directory owner who found.0 = is ∙ ap (λ (k : CalendarData). privileges_held (groups_of directory who) k.acl.grants owner who) found.2 in
      let test : holds_some directory owner who found.0 ≡ true = ap (λ h. not (h == 0)) (sym same) ∙ not_zero held some in
      let seen : looked owner name ≡ Some (eyes_of look directory owner who found.0) =
      sight_there (eyes_of look) directory state who owner name found.0 sound found.1 ∙ ap (λ b. cond b (Some (eyes_of look directory owner who found.0)) None) test in
      ap Some (same ∙ sym (held-eyes look directory owner who found.0)) ∙ sym (ap held_on_sight seen)

  -- Objects

  where_shown : (shown : Bool) (c : Calendar) (name : List ℕ)
      → at_both (option_map (λ (contents : Contents). contents.objects) (only_where shown (contents_of c))) (Some name) ≡ cond shown (value_at c.objects name) None
  where_shown true c name = refl
  where_shown false c name = refl

  object_of_sight : (l : Look) (owner : ℕ) (c : Calendar) (name : List ℕ) (seen : Bool) → holds_some directory owner who c ≡ seen
      → at_both (octets_seen (cond seen (Some (eyes_of l directory owner who c)) None)) (Some name)
      ≡ cond (shows_objects l (held_or_nothing (held_on_sight (cond seen (Some (eyes_of l directory owner who c)) None)))) (value_at c.objects name) None
  object_of_sight Own owner c name true e = where_shown (has_all (held_on directory owner who c) read) c name
  object_of_sight Own owner c name false e = refl
  object_of_sight Whole owner c name true e = sym (ap (λ b. cond b (value_at c.objects name) None) e)
  object_of_sight Whole owner c name false e = refl

  same_none : {X : Type 0} (b : Bool) (o : Option X) → o ≡ None → cond b o None ≡ None
  same_none true o e = e
  same_none false o e = refl

  octets_there : (owner : ℕ) (within name : List ℕ) (found : Option Calendar) → calendar_at state owner within ≡ found
      → octets_at state owner within name ≡ option_and_then (λ (calendar : Calendar). value_at calendar.objects name) found
  octets_there owner within name found there = ap (λ (o : Option Calendar). option_and_then (λ (calendar : Calendar). value_at calendar.objects name) o) there

  -- the object that is seen is that of the state, where the objects of its calendar are seen
  pub object_known : (owner : ℕ) (within name : List ℕ) (held : ℕ) → IsSound directory state → held ≡ held_or_nothing (held_on_sight (looked owner within))
      → at_both (octets_seen (looked owner within)) (Some name) ≡ cond (shows_objects look held) (octets_at state owner within name) None
  object_known owner within name held sound is = by (calendar_at state owner within) refl where
    by : (found : Option Calendar) → calendar_at state owner within ≡ found
        → at_both (octets_seen (looked owner within)) (Some name) ≡ cond (shows_objects look held) (octets_at state owner within name) None
    by None e =
        ap (λ sight. at_both (octets_seen sight) (Some name)) (nothing_known owner within sound e)
        ∙ sym (same_none (shows_objects look held) (octets_at state owner within name) (octets_there owner within name None e))
    by (Some c) e =
        ap (λ sight. at_both (octets_seen sight) (Some name)) (sight_there (eyes_of look) directory state who owner within c sound e)
        ∙ object_of_sight look owner c name (holds_some directory owner who c) refl
        ∙ ap (λ sight. cond (shows_objects look (held_or_nothing (held_on_sight sight))) (value_at c.objects name) None) (sym (sight_there (eyes_of look) directory state who owner within c sound e))
        ∙ ap (λ h. cond (shows_objects look h) (value_at c.objects name) None) (sym is)
        ∙ ap (λ o. cond (shows_objects look held) o None) (sym (octets_there owner within name (Some c) e))

-- the object at a path, where it is known what its calendar is
pub object_answer : (look : Look) (directory : Directory) (state : ServerState) (who : ℕ) (user : Option ℕ) (path : Path) (kept : Option (ℕ × Bor CalendarData)) (owner : ℕ) (name within object : List ℕ)
    (held : ℕ) (shown : Bool) → user ≡ Some owner → path ≡ ObjectPath name within object → IsSoundAt user (calendar_in path) directory state
    → held_of kept ≡ held_on_sight (calendar_seen look directory state who user (calendar_in path)) → held ≡ held_or_nothing (held_of kept) → shown ≡ shows_objects look held
    → cond shown (octets_at state owner within object) None ≡ at_both (octets_seen (calendar_seen look directory state who user (calendar_in path))) (object_in path)
object_answer look directory state who user path kept owner name within object held shown known is sound seen told shows =
    let named : (user, path) ≡ (Some owner, ObjectPath name within object) = λ i. (known i, is i) in
    let at_place = subst (λ (p : Option ℕ × Path). IsSoundAt p.0 (calendar_in p.1) directory state) named sound in
    let on_it = told ∙ ap held_or_nothing (seen ∙ ap (λ (p : Option ℕ × Path). held_on_sight (calendar_seen look directory state who p.0 (calendar_in p.1))) named) in
    ap (λ b. cond b (octets_at state owner within object) None) shows
    ∙ sym (object_known look directory state who owner within object held at_place on_it)
    ∙ sym (ap (λ (p : Option ℕ × Path). at_both (octets_seen (calendar_seen look directory state who p.0 (calendar_in p.1))) (object_in p.1)) named)
