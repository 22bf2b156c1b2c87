use Rattle.std.proofs.Common.{◌≡◌, ℕ, ◌<◌}
use Rattle.cal_model.specs.Load.LoadRequests.{load_user}
use Rattle.cal_model.specs.State.ServerState.{directory_of, user_name}
use Rattle.load_requests.specs.NumberedUsers.{AreNumbered}
use Rattle.load_requests.proofs.users.are_named.Given as goal

abbrev pub invariant-names : goal.invariant-names
invariant-names l = record {
  named : (k : ℕ) → k < l.session → user_name (directory_of l.users) k ≡ load_user k;
  found : AreNumbered l.users l.session;
}
