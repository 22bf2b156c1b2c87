-- What a walk over the calendars of a home looks for.
use Rattle.std.specs.Prelude.{ℕ, Bool, false, not, ◌||◌, ◌==◌, [], ◌∷◌}
use Rattle.cal_base.specs.Lists.NameMap.{Named}
use Rattle.cal_model.specs.State.ServerState.{Directory, Calendar}
use Rattle.cal_model.specs.Sight.Views.{held_on}

-- something is held on one of some calendars
abbrev pub any_held : Directory → ℕ → ℕ → Named Calendar → Bool
any_held directory owner who [] = false
any_held directory owner who (entry ∷ entries) = not (held_on directory owner who entry.1 == 0) || any_held directory owner who entries
