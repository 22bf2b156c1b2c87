-- Going over the calendars of a home, or the objects of a calendar, one after another, as a store shows them: each time the one with the least name above the last one's (RFC 4791, 4.2).
-- Given: a state, and the name at which the walk stands; the empty name stands before all. Gives: what is still before it.
use Rattle.std.specs.Prelude.{◌≡◌, ℕ, List, [], ◌∷◌, flat_map, Some, None, option_to_list}
use Rattle.cal_base.specs.Lists.NameMap.{Named, above, next_above}
use Rattle.cal_model.specs.State.ServerState.{Directory, Calendar, Home, ServerState, home_at, calendar_at}
use Rattle.cal_model.specs.State.SoundStates.{IsSound}

-- the calendars of a home above a name
abbrev pub calendars_above : ServerState → ℕ → List ℕ → Named Calendar
calendars_above state home name = flat_map (λ (h : Home). above h.calendars name) (option_to_list (home_at state home))

-- the pairs that a walk from a name gives, one after another, up to the last
abbrev pub IsWalk : {V : Type 0} → Named V → List ℕ → Named V → Type 0
IsWalk named name [] = next_above named name ≡ None
IsWalk named name (pair ∷ pairs) = (next_above named name ≡ Some pair) × IsWalk named pair.0 pairs

-- In a state that is reached a walk from the empty name gives all calendars of a home, and all objects of a calendar, in order and each once.
pub record WalksMeetAll : Type 0 where
  pub calendars : (directory : Directory) (state : ServerState) (user : ℕ) (home : Home) → IsSound directory state → home_at state user ≡ Some home
      → IsWalk home.calendars [] home.calendars
  pub objects : (directory : Directory) (state : ServerState) (user : ℕ) (name : List ℕ) (calendar : Calendar) → IsSound directory state
      → calendar_at state user name ≡ Some calendar → IsWalk calendar.objects [] calendar.objects
