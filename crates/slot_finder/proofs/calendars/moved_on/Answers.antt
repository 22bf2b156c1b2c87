use Rattle.std.proofs.Common.{rules, arith, ◌≡◌, w64, to_z, of_z}
use Rattle.std.proofs.lemmas.List.{nil_from_length}
use Rattle.std.proofs.lemmas.List.Elements.{All-head}
use Rattle.slot_finder.specs.FreeTimes.{AreInOrder}
use Rattle.slot_finder.proofs.Passing.{passing_first, passing_next, passing_end}
use Rattle.slot_finder.proofs.calendars.moved_on.Goals as goal

pub calendars-init : goal.calendars-init
calendars-init c =
    let from : to_z w64 (of_z w64 c.args.at) ≡ c.args.at = search rules in
    record { passing = rw from (passing_first c.args.calendars.now c.args.seconds c.args.at c.requires); within = omega arith }

pub first_fit-found-requires : goal.first_fit-found-requires
first_fit-found-requires c = rw c.as_slice.ensures (All-head AreInOrder c.in-Some.runs.now c.in-Some.behind.now (rw c.in-Some.ensures.cases.0 at c.calendars.invariant.passing.order))

pub calendars-preserved : goal.calendars-preserved
calendars-preserved c =
    let from : to_z w64 (of_z w64 c.args.at) ≡ c.args.at = search rules in
    let next : to_z w64 (of_z w64 c.first_fit-found.result) ≡ c.first_fit-found.result = search (rules, c.first_fit-found.type_inv) in
    let fit = rw c.as_slice.ensures at c.first_fit-found.ensures in
    record { within = omega arith; passing = rw (from, next) (passing_next c.args.calendars.now c.calendars.rest.now c.in-Some.behind.now c.in-Some.runs.now c.args.seconds c.args.at _ c.first_fit-found.result c.in-Some.ensures.cases.0 (rw from at c.calendars.invariant.passing) fit) }

pub returns : goal.returns
returns c =
    let from : to_z w64 (of_z w64 c.args.at) ≡ c.args.at = search rules in
    passing_end c.args.calendars.now c.calendars.rest.now c.args.seconds c.args.at _ (nil_from_length c.calendars.rest.now c.in_default.ensures.cases) (rw from at c.calendars.invariant.passing)
