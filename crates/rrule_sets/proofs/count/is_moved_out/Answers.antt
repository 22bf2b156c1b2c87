use Rattle.std.proofs.Common.{rules, length, [], sym, subst, FitsSigned, w64, to_z-of_z}
use Rattle.std.specs.Prelude.{All}
use Rattle.std.proofs.lemmas.List.Elements.{All-head}
use Rattle.rrule_sets.specs.HeldGovernors.{IsMovable}
use Rattle.rrule_sets.proofs.GovernorLemmas.{last_before-holds}
use Rattle.rrule_sets.proofs.count.is_moved_out.Goals as goal

pub moved_digits-requires-clause-governor : goal.moved_digits-requires-clause-governor
moved_digits-requires-clause-governor c =
    let fits : FitsSigned w64 c.args.start = search rules in
    let told = simp to_z-of_z at c.in-Some.ensures in
    let all = last_before-holds (IsMovable (length c.args.zones.now)) c.args.start c.args.governors.now c.requires.movable in
    All-head (IsMovable (length c.args.zones.now)) c.in-Some.governor [] (subst (All (IsMovable (length c.args.zones.now))) (sym told) all)
