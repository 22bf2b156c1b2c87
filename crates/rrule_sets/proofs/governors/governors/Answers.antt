use Rattle.std.proofs.Common.{List, length}
use Rattle.std.specs.Prelude.{All}
use Rattle.std.proofs.lemmas.Result.{IfOk-weaker}
use Rattle.rrule_sets.specs.declared.governors.Governor.{Governor}
use Rattle.rrule_sets.specs.HeldGovernors.{IsMovable}
use Rattle.rrule_sets.proofs.governors.governors.Goals as goal

pub returns-clause-movable : goal.returns-clause-movable
returns-clause-movable c =
    let zones = length c.args.zones.now in
    IfOk-weaker c.put_by_id.result _ (λ (sorted : List Governor). All (IsMovable zones) sorted) (λ sorted kept. kept zones c.in_ok-put_governors.ensures.movable) c.put_by_id.ensures.movable
