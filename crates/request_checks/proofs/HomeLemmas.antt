-- A walk over the calendars of a home, and whether the home is visible.
use Rattle.std.proofs.Common.{◌≡◌, ℕ, suc, ◌<◌, ◌≤◌, Bool, true, false, not, ◌&&◌, ◌||◌, cond, ◌==◌, List, [], ◌∷◌, length, Option, Some, None, refl, sym, ap, subst, ◌∙◌, append-nil, arith, ◌⊎◌, inl, inr}
use Rattle.std.specs.Prelude.{All, option_map, option_and_then, option_to_list, flat_map, is_some, IsSome, slice_get, get_or, map, filter, unwrap_or}
use Rattle.std.specs.Map.{values_of}
use Rattle.std.specs.Ordering.{is_lt}
use Rattle.std.specs.Borrow.{Bor}
use Rattle.std.proofs.lemmas.Bool.{false≢true}
use Rattle.std.proofs.lemmas.Bool.Decides.{nat_tests}
use Rattle.std.proofs.lemmas.Option.{slice_get_cases}
use Rattle.cal_base.specs.Lists.NameMap.{Named, above, name_order, next_above}
use Rattle.cal_model.specs.declared.store.CalendarData.{CalendarData}
use Rattle.cal_model.specs.Words.Lists.{is_empty}
use Rattle.cal_model.specs.Access.Privileges.{privileges_held}
use Rattle.cal_model.specs.State.ServerState.{Directory, Calendar, Home as UserHome, ServerState, groups_of, home_at}
use Rattle.cal_model.specs.State.StoredData.{data_of, next_calendar}
use Rattle.cal_model.specs.State.SoundStates.{AreToUsers, HaveGroups, IsSoundCalendar, IsSoundHome, IsSound}
use Rattle.cal_model.specs.State.NameWalks.{calendars_above}
use Rattle.cal_model.specs.Sight.Views.{Look as Eyes, Sight, home_by, view_by}
use Rattle.cal_model.specs.Sight.Scenes.{at_both, visible_home}
use Rattle.cal_model.proofs.Sight.SceneLaws.{home_in-view, holds_some}
use Rattle.cal_model.proofs.State.NameWalkLaws.{home-sound, have_groups, calendars_above-first, calendars_above-next, calendars_above-end}
use Rattle.request_checks.specs.declared.looks.Look.{Look}
use Rattle.request_checks.specs.Sightings.{eyes_of, home_shows, calendar_seen, held_of, held_on_sight}
use Rattle.request_checks.specs.Walks.{any_held}

-- The walk

-- a step of it
pub record IsStep (directory : Directory) (state : ServerState) (owner who : ℕ) (name next : List ℕ) (kept : CalendarData) : Type 0 where
  pub any : any_held directory owner who (calendars_above state owner name)
      ≡ (not (privileges_held (groups_of directory who) kept.acl.grants owner who == 0) || any_held directory owner who (calendars_above state owner next))
  pub shorter : length (calendars_above state owner next) < length (calendars_above state owner name)

pub step_known : (directory : Directory) (state : ServerState) (owner who : ℕ) (name next : List ℕ) (kept : CalendarData) → IsSound directory state
    → next_calendar state owner name ≡ Some (next, kept) → IsStep directory state owner who name next kept
step_known directory state owner who name next kept sound e =
    let step = calendars_above-next directory state owner name next kept sound e in
    record {
      any = ap (any_held directory owner who) step.2
          ∙ ap (λ (k : CalendarData). not (privileges_held (groups_of directory who) k.acl.grants owner who == 0) || any_held directory owner who (calendars_above state owner next)) (sym step.1);
      shorter = let longer : length (calendars_above state owner name) ≡ suc (length (calendars_above state owner next)) = ap length step.2 in omega arith;
    }

pub end_known : (directory : Directory) (state : ServerState) (owner who : ℕ) (name : List ℕ) → next_calendar state owner name ≡ None → any_held directory owner who (calendars_above state owner name) ≡ false
end_known directory state owner who name e = ap (any_held directory owner who) (calendars_above-end state owner name e)

-- the next one is one of them
next_passes : (P : Calendar → Type 0) (named : Named Calendar) (name : List ℕ) (pair : List ℕ × Calendar) → All P (values_of named) → next_above named name ≡ Some pair → P pair.1
next_passes P [] name pair all e = absurd cc
next_passes P (first ∷ named) name pair all e =
    by (is_lt (name_order name first.0)) (next_passes P named name pair (λ k d within. all (suc k) d (omega (arith, within)))) e where
      by : (test : Bool) → (next_above named name ≡ Some pair → P pair.1) → slice_get (cond test (first ∷ above named name) (above named name)) 0 ≡ Some pair → P pair.1
      by true later e = subst (λ (p : List ℕ × Calendar). P p.1) (ap (λ o. unwrap_or o first) e) (all 0 first.1 (omega arith))
      by false later e = later e

abbrev with_data : ℕ → List ℕ × Calendar → List ℕ × CalendarData
with_data owner entry = (entry.0, data_of owner entry.1)

-- so its grants name groups that there are
pub grants_of_next : (directory : Directory) (state : ServerState) (owner : ℕ) (name next : List ℕ) (kept : CalendarData) → IsSound directory state → next_calendar state owner name ≡ Some (next, kept)
    → HaveGroups directory kept.acl.grants
grants_of_next directory state owner name next kept sound e = by (home_at state owner) refl e where
  in_home : (home : UserHome) → IsSoundHome directory home → (found : Option (List ℕ × Calendar)) → next_above home.calendars name ≡ found
      → option_map (with_data owner) found ≡ Some (next, kept) → HaveGroups directory kept.acl.grants
  in_home home sound None there e = absurd cc
  in_home home sound (Some pair) there e =
      have_groups directory kept.acl.grants
      (subst (λ (k : CalendarData). AreToUsers directory k.acl.grants) (ap (λ (o : Option (List ℕ × CalendarData)). (unwrap_or o (next, kept)).1) e)
      (next_passes (IsSoundCalendar directory) home.calendars name pair sound.calendars there).grants)

  by : (found : Option UserHome) → home_at state owner ≡ found
      → option_and_then (λ (h : UserHome). option_map (with_data owner) (next_above h.calendars name)) found ≡ Some (next, kept)
      → HaveGroups directory kept.acl.grants
  by None there e = absurd cc
  by (Some home) there e = in_home home (home-sound directory state owner home sound there) (next_above home.calendars name) refl e

-- The home

abbrev shown : Eyes → Directory → ℕ → ℕ → List ℕ × Calendar → List ℕ × Sight
shown eyes directory owner who entry = (entry.0, eyes directory owner who entry.1)

abbrev held_among : Directory → ℕ → ℕ → Named Calendar → Named Calendar
held_among directory owner who calendars = filter (λ (entry : List ℕ × Calendar). holds_some directory owner who entry.1) calendars

-- the calendars that are visible are some where something is held on one
some_visible : (eyes : Eyes) (directory : Directory) (owner who : ℕ) (calendars : Named Calendar)
    → not (is_empty (map (shown eyes directory owner who) (held_among directory owner who calendars))) ≡ any_held directory owner who calendars
some_visible eyes directory owner who [] = refl
some_visible eyes directory owner who (entry ∷ entries) = by (holds_some directory owner who entry.1) (some_visible eyes directory owner who entries) where
  more : (x : List ℕ × Sight) (xs : Named Sight) → not (is_empty (x ∷ xs)) ≡ true
  more x xs = let n = length xs in let test : (suc n == 0) ≡ false = grind (arith, nat_tests) in ap not test

  by : (test : Bool) → not (is_empty (map (shown eyes directory owner who) (held_among directory owner who entries))) ≡ any_held directory owner who entries
      → not (is_empty (map (shown eyes directory owner who) (cond test (entry ∷ held_among directory owner who entries) (held_among directory owner who entries)))) ≡ (test || any_held directory owner who entries)
  by true rest = more (shown eyes directory owner who entry) (map (shown eyes directory owner who) (held_among directory owner who entries))
  by false rest = rest

home_there : (directory : Directory) (state : ServerState) (owner : ℕ) → IsSound directory state → owner < length directory.names → (home : UserHome) × (home_at state owner ≡ Some home)
home_there directory state owner sound known = by (slice_get_cases state.homes owner).1 where
  by : ((x : UserHome) × (owner < length state.homes) × (slice_get state.homes owner ≡ Some x) × (get_or state.homes owner x ≡ x)) ⊎ ((length state.homes ≤ owner) × (slice_get state.homes owner ≡ None))
      → (home : UserHome) × (home_at state owner ≡ Some home)
  by (inl there) = (there.0, there.2)
  by (inr past) = absurd (omega (arith, past.0, sound.one_each))

-- a home is visible to its owner, and where a walk meets a calendar on which something is held
pub home_known : (look : Look) (directory : Directory) (state : ServerState) (owner who : ℕ) → IsSound directory state → owner < length directory.names
    → home_shows look directory state who (Some owner) ≡ ((owner == who) || any_held directory owner who (calendars_above state owner []))
home_known look directory state owner who sound known =
    let there = home_there directory state owner sound known in
    let calendars = there.0.calendars in
    let all : calendars_above state owner [] ≡ calendars =
    calendars_above-first directory state owner sound
    ∙ ap (λ o. flat_map (λ (home : UserHome). home.calendars) (option_to_list o)) there.1
    ∙ append-nil calendars in
    ap (λ o. is_some (option_and_then (λ (shown : Named Sight). cond ((owner == who) || not (is_empty shown)) (Some shown) None) o))
    (home_in-view (eyes_of look) directory state who owner ∙ ap (option_map (λ (h : UserHome). home_by (eyes_of look) directory who (owner, h))) there.1)
    ∙ tested ((owner == who) || not (is_empty (home_by (eyes_of look) directory who (owner, there.0)))) (home_by (eyes_of look) directory who (owner, there.0))
    ∙ ap (λ b. (owner == who) || b) (some_visible (eyes_of look) directory owner who calendars ∙ ap (any_held directory owner who) (sym all)) where
      tested : (test : Bool) (shown : Named Sight) → is_some (cond test (Some shown) None) ≡ test
      tested true shown = refl
      tested false shown = refl

-- and so once the walk has ended
pub home_where : (look : Look) (directory : Directory) (state : ServerState) (owner who : ℕ) (found : Bool) → IsSound directory state → owner < length directory.names
    → found ≡ any_held directory owner who (calendars_above state owner []) → (found || (owner == who)) ≡ home_shows look directory state who (Some owner)
home_where look directory state owner who found sound known any =
    turned found (owner == who) ∙ ap (λ b. (owner == who) || b) any ∙ sym (home_known look directory state owner who sound known) where
      turned : (a b : Bool) → (a || b) ≡ (b || a)
      turned true true = refl
      turned true false = refl
      turned false true = refl
      turned false false = refl

-- where a calendar is seen its home is
pub home_of_calendar : (look : Look) (directory : Directory) (state : ServerState) (who : ℕ) (user : Option ℕ) (name : Option (List ℕ))
    (calendar : Option (ℕ × Bor CalendarData)) → held_of calendar ≡ held_on_sight (calendar_seen look directory state who user name) → true ≡ is_some calendar
    → true ≡ home_shows look directory state who user
home_of_calendar look directory state who user name calendar e there =
    by (option_and_then (visible_home (view_by (eyes_of look) directory state who) who) user)
    (there ∙ mapped calendar ∙ ap is_some e ∙ sym (seen (calendar_seen look directory state who user name))) where
      mapped : (calendar : Option (ℕ × Bor CalendarData)) → is_some calendar ≡ is_some (held_of calendar)
      mapped None = refl
      mapped (Some p) = refl

      seen : (sight : Option Sight) → is_some sight ≡ is_some (held_on_sight sight)
      seen None = refl
      seen (Some sight) = refl

      by : (home : Option (Named Sight)) → true ≡ is_some (at_both home name) → true ≡ is_some home
      by None e = e
      by (Some home) e = refl

-- where a home is seen its user is known
pub user_known : (look : Look) (directory : Directory) (state : ServerState) (who : ℕ) (named : Bool) (user : Option ℕ) → (named && home_shows look directory state who user) ≡ true → IsSome user
user_known look directory state who named (Some owner) there = refl
user_known look directory state who true None there = absurd (false≢true there)
user_known look directory state who false None there = absurd (false≢true there)
