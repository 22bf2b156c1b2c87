use Rattle.std.proofs.Common.{◌≡◌, drop, filter, fold, map}
use Rattle.std.specs.Prelude.{bit_or}
use Rattle.cal_model.specs.declared.privilege.Grant.{Grant}
use Rattle.cal_model.specs.Access.Privileges.{granted, fits_user}
use Rattle.cal_model.specs.State.ServerState.{groups_of}
use Rattle.privileges.proofs.grants.granted.Given as goal

abbrev pub invariant-loop-grant : goal.invariant-loop-grant
invariant-loop-grant g l =
    let groups = groups_of (g.V.View.directory l.view) l.who in
    fold bit_or l.set (map (λ (grant : Grant). grant.held.0) (filter (λ (grant : Grant). fits_user groups l.who grant.who) (drop l.grant-index l.grants))) ≡ granted groups l.grants l.who
