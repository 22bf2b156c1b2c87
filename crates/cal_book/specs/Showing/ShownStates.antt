-- A state of the server with its users, as a view of a store shows it.
-- Given: what the store keeps. Gives: the users, the state, and the origins of its objects. Callers need not know how a store keeps them, so they are words of their own.
use Rattle.cal_model.specs.State.ServerState.{Directory, ServerState}
use Rattle.cal_model.specs.History.Origins.{Origins}
use Rattle.collections.specs.Kept.{Kept, users_of, state_of, origins_of}

unfoldable pub shown_directory : Kept → Directory
shown_directory kept = users_of kept

unfoldable pub shown_state : Kept → ServerState
shown_state kept = state_of kept

unfoldable pub shown_origins : Kept → Origins
shown_origins kept = origins_of kept
