use Rattle.std.proofs.Common.{◌∙◌, rules, arith, FitsSigned, w32, w64, to_z-of_z}
use Rattle.std.proofs.lemmas.Int.{ints}
use Rattle.rrule_sets.proofs.placed.put_rows_of.Goals as goal

pub returns : goal.returns
returns c =
    let fits : FitsSigned w32 c.args.window = search rules in
    let wide : FitsSigned w64 c.args.window = omega (arith, ints, fits) in
    let rows = c.as_slice.ensures ∙ simp to_z-of_z at c.in_ok-rows.ensures in
    rw rows at c.extend_from_slice.ensures.ok
