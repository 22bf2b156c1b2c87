use Rattle.std.proofs.Common.{rules, ◌≡◌, w64, to_z, of_z}
use Rattle.slot_finder.proofs.Fitting.{ends_of_rest, fit_whole, order_of_rest}
use Rattle.slot_finder.proofs.fits.first_fit.Goals as goal

pub pass_runs-found-requires-clause-order : goal.pass_runs-found-requires-clause-order
pass_runs-found-requires-clause-order c =
    let from : to_z w64 (of_z w64 c.args.at) ≡ c.args.at = search rules in
    order_of_rest c.args.runs.now c.runs_at_guess.result.now c.args.at c.requires (rw from at c.runs_at_guess.ensures)

pub pass_runs-found-requires-clause-ahead : goal.pass_runs-found-requires-clause-ahead
pass_runs-found-requires-clause-ahead c =
    let from : to_z w64 (of_z w64 c.args.at) ≡ c.args.at = search rules in
    rw from (ends_of_rest c.args.runs.now c.runs_at_guess.result.now c.args.at (rw from at c.runs_at_guess.ensures))

pub returns : goal.returns
returns c =
    let from : to_z w64 (of_z w64 c.args.at) ≡ c.args.at = search rules in
    let found : to_z w64 (of_z w64 c.pass_runs-found.result.0) ≡ c.pass_runs-found.result.0 = search (rules, c.pass_runs-found.type_inv) in
    rw found (fit_whole c.args.runs.now c.runs_at_guess.result.now c.args.seconds c.args.at c.pass_runs-found.result.0 (rw from at c.runs_at_guess.ensures) (rw from at c.pass_runs-found.ensures))
