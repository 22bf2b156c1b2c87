-- What a store keeps, as contracts see it: the users and their homes.
-- Given: what is kept. Gives: the state that it stands for, and the origins of its objects.
use Rattle.std.specs.Prelude.{ℕ, List, map, Option, option_map, option_and_then, slice_get}
use Rattle.cal_base.specs.Lists.NameMap.{value_at}
use Rattle.cal_model.specs.State.ServerState.{Directory, Home, ServerState, directory_of}
use Rattle.cal_model.specs.History.Origins.{Origins}
use Rattle.cal_model.specs.Users.UsersFile.{Users}
use Rattle.collections.specs.declared.home.KeptHome.{KeptHome}
use Rattle.collections.specs.KeptCalendars.{KeptObject, KeptCalendar, each_value, calendar_of}

-- the users, and their homes in the order of their numbers
pub record Kept : Type 0 where
  pub users : Users
  pub homes : List KeptHome

-- The state

abbrev pub home_of : KeptHome → Home
home_of kept = record { accepted = kept.accepted; calendars = each_value calendar_of kept.calendars }

abbrev pub state_of : Kept → ServerState
state_of kept = record { homes = map home_of kept.homes }

abbrev pub users_of : Kept → Directory
users_of kept = directory_of kept.users

-- The origins

abbrev pub kept_calendar : List KeptHome → ℕ → List ℕ → Option KeptCalendar
kept_calendar homes home name = option_and_then (λ (h : KeptHome). value_at h.calendars name) (slice_get homes home)

abbrev pub kept_object : List KeptHome → ℕ → List ℕ → List ℕ → Option KeptObject
kept_object homes home calendar name = option_and_then (λ (c : KeptCalendar). value_at c.objects name) (kept_calendar homes home calendar)

abbrev pub origins_of : Kept → Origins
origins_of kept home calendar name = option_map (λ (object : KeptObject). object.origin) (kept_object kept.homes home calendar name)
