use Rattle.std.proofs.Common.{◌≡◌, length}
use Rattle.cal_model.specs.Users.Credentials.{without_spaces}
use Rattle.dav_request.proofs.credentials.without_spaces.Given as goal

abbrev pub invariant-spaces : goal.invariant-spaces
invariant-spaces l = without_spaces l.rest ≡ without_spaces l.text

abbrev pub decreases-spaces : goal.decreases-spaces
decreases-spaces l = length l.rest
