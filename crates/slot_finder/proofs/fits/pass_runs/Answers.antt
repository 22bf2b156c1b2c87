use Rattle.std.proofs.Common.{rules, ◌≡◌, sym, w64, to_z, of_z}
use Rattle.std.proofs.lemmas.List.{nil_from_length}
use Rattle.slot_finder.proofs.Fitting.{fitting_first, fitting_next, fitting_room, fitting_end}
use Rattle.slot_finder.proofs.fits.pass_runs.Goals as goal

pub runs-init : goal.runs-init
runs-init c =
    let from : to_z w64 (of_z w64 c.args.at) ≡ c.args.at = search rules in
    rw from (fitting_first c.args.runs.now c.args.seconds c.args.at c.requires.order c.requires.ahead)

pub runs-preserved : goal.runs-preserved
runs-preserved c =
    let from : to_z w64 (of_z w64 c.args.at) ≡ c.args.at = search rules in
    let start : to_z w64 (of_z w64 c.in-Some.run'.now.start.0) ≡ c.in-Some.run'.now.start.0 = search rules in
    let end : to_z w64 (of_z w64 c.in-Some.run'.now.end.0) ≡ c.in-Some.run'.now.end.0 = search rules in
    let near = rw start at c.if-has_room.ensures in
    rw (from, end)
    (fitting_next c.args.runs.now c.runs.rest.now c.in-Some.behind.now c.in-Some.run'.now c.args.seconds c.args.at _ c.in-Some.ensures.cases.0 (rw from at c.runs.invariant) (sym near))

pub returns-then-has_room : goal.returns-then-has_room
returns-then-has_room c =
    let from : to_z w64 (of_z w64 c.args.at) ≡ c.args.at = search rules in
    let start : to_z w64 (of_z w64 c.in-Some.run'.now.start.0) ≡ c.in-Some.run'.now.start.0 = search rules in
    let room = rw start at c.if-has_room.ensures in
    fitting_room c.args.runs.now c.runs.rest.now c.in-Some.behind.now c.in-Some.run'.now c.args.seconds c.args.at _ c.in-Some.ensures.cases.0 (rw from at c.runs.invariant) (sym room)

pub returns : goal.returns
returns c =
    let from : to_z w64 (of_z w64 c.args.at) ≡ c.args.at = search rules in
    fitting_end c.args.runs.now c.runs.rest.now c.args.seconds c.args.at _ (nil_from_length c.runs.rest.now c.in_default.ensures.cases) (rw from at c.runs.invariant)
