use Rattle.std.proofs.Common.{rules, ◌≡◌, w64, to_z, of_z}
use Rattle.std.proofs.lemmas.List.{nil_from_length}
use Rattle.slot_finder.proofs.Fitting.{open_until_run, open_until_limit}
use Rattle.slot_finder.proofs.fits.open_until.Goals as goal

pub returns-in_default : goal.returns-in_default
returns-in_default c =
    let from : to_z w64 (of_z w64 c.args.at) ≡ c.args.at = search rules in
    let limit : to_z w64 (of_z w64 c.args.limit) ≡ c.args.limit = search rules in
    rw limit (open_until_limit c.args.runs.now c.runs_behind.result.now c.args.at c.args.limit (rw from at c.runs_behind.ensures) (nil_from_length c.runs_behind.result.now c.in_default.ensures.cases))

pub returns : goal.returns
returns c =
    let from : to_z w64 (of_z w64 c.args.at) ≡ c.args.at = search rules in
    let limit : to_z w64 (of_z w64 c.args.limit) ≡ c.args.limit = search rules in
    let start : to_z w64 (of_z w64 c.in-Some.run'.now.start.0) ≡ c.in-Some.run'.now.start.0 = search rules in
    let least : to_z w64 (of_z w64 c.min.result) ≡ c.min.result = search (rules, c.min.type_inv) in
    rw least (open_until_run c.args.runs.now c.runs_behind.result.now _ c.in-Some.run'.now c.args.at c.args.limit c.min.result c.requires (rw from at c.runs_behind.ensures) c.in-Some.ensures.cases.0 (rw (start, limit) at c.min.ensures.value))
