-- What is seen of a state in which nobody has a calendar.
use Rattle.std.proofs.Common.{◌≡◌, ℕ, List, Option, Some, None, refl, ap, ◌∙◌}
use Rattle.std.specs.Prelude.{option_map, option_and_then, slice_get}
use Rattle.std.specs.List.Sorted.{IsStrictlySortedBy}
use Rattle.std.proofs.lemmas.List.{length-map}
use Rattle.std.proofs.lemmas.List.Elements.{All-map, All-nil}
use Rattle.std.proofs.lemmas.Option.{slice_get-map}
use Rattle.cal_base.specs.Lists.NameMap.{value_at, next_above}
use Rattle.cal_model.specs.History.Origins.{AreOrigins}
use Rattle.cal_model.specs.State.ServerState.{Calendar, Home, directory_of, home_at, calendar_at, octets_at}
use Rattle.cal_model.specs.State.SoundStates.{IsSoundCalendar, IsSoundHome, IsSound}
use Rattle.cal_model.specs.State.StoredData.{data_at, next_calendar, next_object}
use Rattle.cal_model.specs.Users.UsersFile.{Users}
use Rattle.tests_state.specs.UsersAlone.{bare_home, bare_state, no_origins}

home_there : (users : Users) (home : ℕ) → home_at (bare_state users) home ≡ option_map (λ (name : List ℕ). bare_home) (slice_get (directory_of users).names home)
unfolding bare_state
home_there users home = slice_get-map (λ (name : List ℕ). bare_home) (directory_of users).names home

-- what a home has none of
nothing : {X : Type 0} (look : Home → Option X) (users : Users) (home : ℕ) → look bare_home ≡ None → option_and_then look (home_at (bare_state users) home) ≡ None
nothing look users home none = ap (option_and_then look) (home_there users home) ∙ by (slice_get (directory_of users).names home) where
  by : (o : Option (List ℕ)) → option_and_then look (option_map (λ (name : List ℕ). bare_home) o) ≡ None
  by None = refl
  by (Some name) = none

pub no_data : (users : Users) (home : ℕ) (name : List ℕ) → data_at (bare_state users) home name ≡ None
no_data users home name = nothing _ users home refl

pub no_next : (users : Users) (home : ℕ) (name : List ℕ) → next_calendar (bare_state users) home name ≡ None
no_next users home name = nothing _ users home refl

no_calendar : (users : Users) (home : ℕ) (name : List ℕ) → calendar_at (bare_state users) home name ≡ None
no_calendar users home name = nothing _ users home refl

pub no_octets : (users : Users) (home : ℕ) (calendar object : List ℕ) → octets_at (bare_state users) home calendar object ≡ None
no_octets users home calendar object = ap (λ (o : Option Calendar). option_and_then (λ (c : Calendar). value_at c.objects object) o) (no_calendar users home calendar)

pub no_object : (users : Users) (home : ℕ) (calendar name : List ℕ) → next_object (bare_state users) home calendar name ≡ None
no_object users home calendar name = ap (λ (o : Option Calendar). option_and_then (λ (c : Calendar). next_above c.objects name) o) (no_calendar users home calendar)

pub bare_sound : (users : Users) → IsSound (directory_of users) (bare_state users)
unfolding bare_state IsStrictlySortedBy
bare_sound users = record {
  one_each = length-map (directory_of users).names (λ (name : List ℕ). bare_home);
  homes = All-map (IsSoundHome (directory_of users)) (λ (name : List ℕ). bare_home) (directory_of users).names
      (λ k name within. record { named = tt; in_order = tt; calendars = All-nil (IsSoundCalendar (directory_of users)) });
}

pub bare_origins : (users : Users) → AreOrigins (bare_state users) (no_origins users)
unfolding no_origins
bare_origins users = record {
  there = λ home calendar object octets there. absurd (none_there octets (no_octets users home calendar object) there);
  absent = λ home calendar object none. refl;
  distinct = λ home home' calendar calendar' object object' n there. absurd cc;
} where
  none_there : {o : Option (List ℕ)} (octets : List ℕ) → o ≡ None → o ≡ Some octets → ⊥
  none_there octets none there = cc
