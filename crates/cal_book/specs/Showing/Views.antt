-- What holds of what a view shows.
-- Given: origins, or what a store keeps with its users.
use Rattle.std.specs.Prelude.{◌≡◌, ℕ, List, Some}
use Rattle.cal_model.specs.History.Origins.{Origins, AreOrigins}
use Rattle.cal_model.specs.State.SoundStates.{IsSound}
use Rattle.cal_model.specs.State.UserNames.{AreToldApart}
use Rattle.cal_model.specs.Users.UsersFile.{Users}
use Rattle.collections.specs.Kept.{Kept, users_of, state_of, origins_of}

-- no two objects have the same origin
pub record AreApart (origins : Origins) : Type 0 where
  pub distinct : (home home' : ℕ) (calendar calendar' object object' : List ℕ) (n : ℕ)
      → origins home calendar object ≡ Some n → origins home' calendar' object' ≡ Some n → (home ≡ home') × (calendar ≡ calendar') × (object ≡ object')

-- the users are those of the store, who are told apart; the state is sound, and each of its objects has an origin of its own
pub record IsView (kept : Kept) (users : Users) : Type 0 where
  pub same : users ≡ kept.users
  pub told : AreToldApart (users_of kept)
  pub sound : IsSound (users_of kept) (state_of kept)
  pub origins : AreOrigins (state_of kept) (origins_of kept)
