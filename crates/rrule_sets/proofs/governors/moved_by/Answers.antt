use Rattle.std.proofs.Common.{[], sym, subst, length}
use Rattle.std.specs.Prelude.{All}
use Rattle.std.proofs.lemmas.List.Elements.{All-head}
use Rattle.rrule_sets.specs.HeldGovernors.{IsMovable}
use Rattle.rrule_sets.proofs.GovernorLemmas.{last_before-holds}
use Rattle.rrule_sets.proofs.governors.moved_by.Goals as goal

pub moved_row-requires-clause-governor : goal.moved_row-requires-clause-governor
moved_row-requires-clause-governor c =
    let zones = length c.args.zones.now in
    All-head (IsMovable zones) c.in-Some.governor [] (subst (All (IsMovable zones)) (sym c.in-Some.ensures) (last_before-holds (IsMovable zones) _ c.args.governors.now c.requires.movable))
