use Rattle.std.proofs.Common.{rules, arith, ◌≡◌, w64, to_z, of_z}
use Rattle.std.specs.Prelude.{◌<ℤ◌}
use Rattle.std.proofs.lemmas.Int.{ints}
use Rattle.slot_finder.proofs.Guessing.{behind_by_first}
use Rattle.slot_finder.proofs.fits.end_behind.Goals as goal

pub returns-in-Some : goal.returns-in-Some
returns-in-Some c = λ is.
    let from : to_z w64 (of_z w64 c.args.at) ≡ c.args.at = search rules in
    let later : c.args.at <ℤ c.in-Some.first.now.end.0 = grind (arith, ints, is, from) in
    behind_by_first c.args.runs.now c.in-Some._behind.now c.in-Some.first.now c.args.at c.requires c.in-Some.ensures.cases.0 later
