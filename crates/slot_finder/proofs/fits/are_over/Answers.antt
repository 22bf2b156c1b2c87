use Rattle.std.proofs.Common.{rules, arith, ◌≡◌, w64, to_z, of_z}
use Rattle.std.specs.Prelude.{◌≤ℤ◌}
use Rattle.std.proofs.lemmas.Int.{ints}
use Rattle.slot_finder.proofs.Guessing.{over_by_last}
use Rattle.slot_finder.proofs.fits.are_over.Goals as goal

pub returns-in-Some : goal.returns-in-Some
returns-in-Some c = λ is.
    let from : to_z w64 (of_z w64 c.args.at) ≡ c.args.at = search rules in
    let over : c.in-Some.last.now.end.0 ≤ℤ c.args.at = grind (arith, ints, is, from) in
    over_by_last c.args.runs.now c.in-Some._rest.now c.in-Some.last.now c.args.at c.requires c.in-Some.ensures.cases.0 over
