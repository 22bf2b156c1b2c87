use Rattle.std.proofs.Common.{rules, ◌≡◌, w64, to_z, of_z}
use Rattle.std.proofs.lemmas.List.{nil_from_length}
use Rattle.std.proofs.lemmas.List.Elements.{All-head}
use Rattle.slot_finder.specs.FreeTimes.{AreInOrder}
use Rattle.slot_finder.proofs.Passing.{drawn_first, drawn_next, drawn_end}
use Rattle.slot_finder.proofs.calendars.free_until.Goals as goal

pub calendars-init : goal.calendars-init
calendars-init c =
    let from : to_z w64 (of_z w64 c.args.at) ≡ c.args.at = search rules in
    let limit : to_z w64 (of_z w64 c.args.limit) ≡ c.args.limit = search rules in
    rw (from, limit) (drawn_first c.args.calendars.now c.args.at c.args.limit c.requires)

pub open_until-found-requires : goal.open_until-found-requires
open_until-found-requires c = rw c.as_slice.ensures (All-head AreInOrder c.in-Some.runs.now c.in-Some.behind.now (rw c.in-Some.ensures.cases.0 at c.calendars.invariant.order))

pub calendars-preserved : goal.calendars-preserved
calendars-preserved c =
    let from : to_z w64 (of_z w64 c.args.at) ≡ c.args.at = search rules in
    let limit : to_z w64 (of_z w64 c.args.limit) ≡ c.args.limit = search rules in
    let next : to_z w64 (of_z w64 c.open_until-found.result) ≡ c.open_until-found.result = search (rules, c.open_until-found.type_inv) in
    let until = rw (c.as_slice.ensures, from) at c.open_until-found.ensures in
    rw (from, limit, next) (drawn_next c.args.calendars.now c.calendars.rest.now c.in-Some.behind.now c.in-Some.runs.now c.args.at c.args.limit _ c.open_until-found.result c.in-Some.ensures.cases.0 (rw (from, limit) at c.calendars.invariant) until)

pub returns : goal.returns
returns c =
    let from : to_z w64 (of_z w64 c.args.at) ≡ c.args.at = search rules in
    let limit : to_z w64 (of_z w64 c.args.limit) ≡ c.args.limit = search rules in
    drawn_end c.args.calendars.now c.calendars.rest.now c.args.at c.args.limit _ (nil_from_length c.calendars.rest.now c.in_default.ensures.cases) (rw (from, limit) at c.calendars.invariant)
