-- What holds of a store, and what it asks of a change.
-- Given: what is kept, or a state.
use Rattle.std.specs.Prelude.{◌≡◌, ℕ, ◌+◌, ◌≤◌, List, Some, None}
use Rattle.cal_model.specs.Words.Limits.{home_limit, change_cost}
use Rattle.cal_model.specs.Refusals.Preconditions.{holder}
use Rattle.cal_model.specs.State.ServerState.{Calendar, Home, ServerState, home_at, calendar_at, octets_at}
use Rattle.cal_model.specs.State.SoundStates.{IsSound}
use Rattle.cal_model.specs.State.UserNames.{AreToldApart}
use Rattle.cal_model.specs.History.Origins.{Origins, AreOrigins}
use Rattle.collections.specs.Kept.{Kept, state_of, users_of, origins_of}
use Rattle.collections.specs.Homes.{AreHomes}

-- the state is sound, and each calendar is kept in its home under its name
pub record IsStore (kept : Kept) : Type 0 where
  pub sound : IsSound (users_of kept) (state_of kept)
  pub homes : AreHomes kept.homes

-- each object that is there has an origin, and no other place has one
pub record HaveOrigins (state : ServerState) (origins : Origins) : Type 0 where
  pub there : (home : ℕ) (calendar object octets : List ℕ) → octets_at state home calendar object ≡ Some octets → (n : ℕ) × (origins home calendar object ≡ Some n)
  pub absent : (home : ℕ) (calendar object : List ℕ) → octets_at state home calendar object ≡ None → origins home calendar object ≡ None

-- a home has room for a change whose request had a body of so many octets
abbrev pub HasRoomAt : ServerState → ℕ → ℕ → Type 0
HasRoomAt state home size = (h : Home) → home_at state home ≡ Some h → h.accepted + change_cost size ≤ home_limit

-- an object may be put: the calendar is there, and no other of its objects has the UID
pub record MayBePut (state : ServerState) (home : ℕ) (calendar object octets : List ℕ) : Type 0 where
  pub within : Calendar
  pub there : calendar_at state home calendar ≡ Some within
  pub alone : holder within.objects object octets ≡ None

-- what everybody may look at who answers: the users are told apart, the state is sound, and each of its objects has an origin of its own
pub record IsLookedAt (kept : Kept) : Type 0 where
  pub told : AreToldApart (users_of kept)
  pub sound : IsSound (users_of kept) (state_of kept)
  pub origins : AreOrigins (state_of kept) (origins_of kept)
