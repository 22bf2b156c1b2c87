-- A calendar of a name in a user's home: what a store's look-up gives of it, and the objects that are seen at its paths.
use Rattle.std.proofs.Common.{◌≡◌, ℕ, zero, suc, Bool, true, false, not, ◌||◌, cond, ◌==◌, List, ◌++◌, [], map, append-nil, Option, Some, None, refl, sym, ap, subst, ◌∙◌, arith}
use Rattle.std.specs.Prelude.{option_map, option_and_then, option_to_list, flat_map}
use Rattle.std.proofs.lemmas.Bool.Decides.{nat_tests}
use Rattle.std.proofs.lemmas.Map.Entries.{option_filter}
use Rattle.cal_base.specs.Lists.NameMap.{Named, value_at}
use Rattle.cal_model.specs.declared.path.Path.TheVariants.{Object as ObjectPath}
use Rattle.cal_model.specs.declared.store.CalendarData.{CalendarData}
use Rattle.cal_model.specs.Words.Lists.{is_empty}
use Rattle.cal_model.specs.Access.Privileges.{has_all, read}
use Rattle.cal_model.specs.State.ServerState.{Directory, Calendar, Home, ServerState, user_number, home_at, calendar_at}
use Rattle.cal_model.specs.State.StoredData.{data_of, data_at}
use Rattle.cal_model.specs.State.SoundStates.{AreToUsers, HaveGroups, IsSound}
use Rattle.cal_model.specs.Sight.Views.{Sight, Look, held_on, contents_of, only_where, sight_of, home_by, view_by}
use Rattle.cal_model.specs.Sight.Scenes.{scene_at, at_both, visible_home, octets_seen}
use Rattle.cal_model.specs.Sight.Resources.{Resource, object}
use Rattle.cal_model.specs.Serving.SeenResources.{resources_seen}
use Rattle.cal_model.proofs.Sight.SceneLaws.{holds_some, home_in-view, calendar_in-scene}
use Rattle.cal_model.proofs.State.NameWalkLaws.{calendar-sound, home-sound, have_groups}

-- What is looked up

-- a store's data are those of the calendar
data_is : (state : ServerState) (owner : ℕ) (name : List ℕ) → data_at state owner name ≡ option_map (data_of owner) (calendar_at state owner name)
data_is state owner name = by (home_at state owner) where
  by : (found : Option Home) → option_and_then (λ (h : Home). option_map (data_of owner) (value_at h.calendars name)) found ≡ option_map (data_of owner) (option_and_then (λ (h : Home). value_at h.calendars name) found)
  by None = refl
  by (Some home) = refl

pub no_calendar : (state : ServerState) (owner : ℕ) (name : List ℕ) → None ≡ data_at state owner name → calendar_at state owner name ≡ None
no_calendar state owner name e = by (calendar_at state owner name) (e ∙ data_is state owner name) where
  by : (found : Option Calendar) → None ≡ option_map (data_of owner) found → found ≡ None
  by None e = refl
  by (Some c) e = absurd cc

pub some_calendar : (state : ServerState) (owner : ℕ) (name : List ℕ) (kept : CalendarData) → Some kept ≡ data_at state owner name
    → (c : Calendar) × (calendar_at state owner name ≡ Some c) × (kept ≡ data_of owner c)
some_calendar state owner name kept e = by (calendar_at state owner name) (e ∙ data_is state owner name) where
  by : (found : Option Calendar) → Some kept ≡ option_map (data_of owner) found → (c : Calendar) × (found ≡ Some c) × (kept ≡ data_of owner c)
  by None e = absurd cc
  by (Some c) e = let same : kept ≡ data_of owner c = cc in (c, refl, same)

-- the grants of a calendar that is there are to users and groups that there are
pub grants_known : (directory : Directory) (state : ServerState) (owner : ℕ) (name : List ℕ) (kept : CalendarData) → IsSound directory state → Some kept ≡ data_at state owner name
    → AreToUsers directory kept.acl.grants
grants_known directory state owner name kept sound e =
    let there = some_calendar state owner name kept e in
    subst (λ (k : CalendarData). AreToUsers directory k.acl.grants) (sym there.2) (calendar-sound directory state owner name there.0 sound there.1).grants

pub groups_known : (directory : Directory) (state : ServerState) (owner : ℕ) (name : List ℕ) (kept : CalendarData) → IsSound directory state → Some kept ≡ data_at state owner name
    → HaveGroups directory kept.acl.grants
groups_known directory state owner name kept sound e = have_groups directory kept.acl.grants (grants_known directory state owner name kept sound e)

-- What is held

pub not_zero : (n : ℕ) → (n ≡ 0 → ⊥) → not (n == 0) ≡ true
not_zero n some = let test : (n == 0) ≡ false = grind (arith, nat_tests) in ap not test

-- where read is held, some privilege is
pub some_held : (held : ℕ) → has_all held read ≡ true → not (held == 0) ≡ true
some_held zero h = absurd cc
some_held (suc n) h = not_zero (suc n) (λ e. absurd (omega (arith, e)))

-- What is seen

module _ (look : Look) (directory : Directory) (state : ServerState) (who : ℕ) where
  -- the calendar of a name, once the user of its home is known
  abbrev pub calendar_by : Option ℕ → List ℕ → Option Sight
  calendar_by user name = at_both (option_and_then (visible_home (view_by look directory state who) who) user) (Some name)

  -- it is that of the state, where some privilege is held
  pub calendar_known : (owner : ℕ) (name : List ℕ) → IsSound directory state
      → calendar_by (Some owner) name ≡ option_map (look directory owner who) (option_filter (holds_some directory owner who) (calendar_at state owner name))
  calendar_known owner name sound = by (home_at state owner) refl where
    by : (found : Option Home) → home_at state owner ≡ found → calendar_by (Some owner) name ≡ option_map (look directory owner who) (option_filter (holds_some directory owner who) (calendar_at state owner name))
    by None e =
        ap (λ o. at_both (option_and_then (λ (calendars : Named Sight). cond ((owner == who) || not (is_empty calendars)) (Some calendars) None) o) (Some name))
        (home_in-view look directory state who owner ∙ ap (option_map (λ (h : Home). home_by look directory who (owner, h))) e)
        ∙ sym (ap (λ (o : Option Home). option_map (look directory owner who) (option_filter (holds_some directory owner who) (option_and_then (λ (h : Home). value_at h.calendars name) o))) e)
    by (Some home) e = calendar_in-scene look directory state who owner home name e (home-sound directory state owner home sound e).in_order

  -- a calendar that is there, as it is seen
  pub sight_there : (owner : ℕ) (name : List ℕ) (c : Calendar) → IsSound directory state → calendar_at state owner name ≡ Some c
      → calendar_by (Some owner) name ≡ cond (holds_some directory owner who c) (Some (look directory owner who c)) None
  sight_there owner name c sound there =
      calendar_known owner name sound ∙ ap (λ found. option_map (look directory owner who) (option_filter (holds_some directory owner who) found)) there
      ∙ by (holds_some directory owner who c) where
        by : (test : Bool) → option_map (look directory owner who) (cond test (Some c) None) ≡ cond test (Some (look directory owner who c)) None
        by true = refl
        by false = refl

-- the resources at the path of an object, by the calendar that is seen
abbrev pub objects_by : List ℕ → List ℕ → List ℕ → Option Sight → List Resource
objects_by user within name sight = flat_map (λ (s : Sight). map (object user within name s) (option_to_list (at_both (octets_seen sight) (Some name)))) (option_to_list sight)

module _ (directory : Directory) (state : ServerState) (who : ℕ) where
  pub objects_are : (user within name : List ℕ)
      → resources_seen directory state who (ObjectPath user within name) ≡ objects_by user within name (calendar_by sight_of directory state who (user_number directory user) within)
  unfolding scene_at
  objects_are user within name = refl

  -- the objects of a calendar that may be read
  pub objects_read : (user within name : List ℕ) (owner : ℕ) (c : Calendar) → IsSound directory state → user_number directory user ≡ Some owner → calendar_at state owner within ≡ Some c
      → has_all (held_on directory owner who c) read ≡ true
      → resources_seen directory state who (ObjectPath user within name) ≡ map (object user within name (sight_of directory owner who c)) (option_to_list (value_at c.objects name))
  objects_read user within name owner c sound known there reads =
      let h = held_on directory owner who c in
      objects_are user within name
      ∙ ap (λ number. objects_by user within name (calendar_by sight_of directory state who number within)) known
      ∙ ap (objects_by user within name) (sight_there sight_of directory state who owner within c sound there ∙ ap (λ b. cond b (Some (sight_of directory owner who c)) None) (some_held h reads))
      ∙ ap (λ b. map (object user within name (sight_of directory owner who c)) (option_to_list (at_both (octets_seen (Some (record (sight_of directory owner who c) { contents = only_where b (contents_of c) }))) (Some name))) ++ []) reads
      ∙ append-nil (map (object user within name (sight_of directory owner who c)) (option_to_list (value_at c.objects name)))
