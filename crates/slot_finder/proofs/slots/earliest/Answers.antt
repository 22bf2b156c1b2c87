use Rattle.std.proofs.Common.{rules, ◌≡◌, ◌∙◌, sym, ap, w64, to_z, of_z}
use Rattle.std.proofs.lemmas.Int.{of_z-to_z}
use Rattle.slot_finder.specs.FreeTimes.{free_of_runs}
use Rattle.slot_finder.proofs.Searching.{fewer_seconds, search_first, search_found, search_next, search_none}
use Rattle.slot_finder.proofs.slots.earliest.Goals as goal

pub passes-init : goal.passes-init
passes-init c =
    let start : to_z w64 (of_z w64 c.args.range.start.0) ≡ c.args.range.start.0 = search rules in
    rw start (search_first (free_of_runs c.args.runs.now) c.args.range c.args.seconds)

pub moved_on-next-requires : goal.moved_on-next-requires
moved_on-next-requires c = rw c.as_slice.ensures c.requires.order

pub passes-preserved : goal.passes-preserved
passes-preserved c =
    let next : to_z w64 (of_z w64 c.moved_on-next.result) ≡ c.moved_on-next.result = search (rules, c.moved_on-next.type_inv) in
    let moved = rw c.as_slice.ensures at c.moved_on-next.ensures in
    rw next (search_next c.args.runs.now c.args.range c.args.seconds _ c.moved_on-next.result c.requires.order c.requires.some c.passes.invariant moved)

pub passes-smaller : goal.passes-smaller
passes-smaller c =
    let end : to_z w64 (of_z w64 c.args.range.end.0) ≡ c.args.range.end.0 = search rules in
    let next : to_z w64 (of_z w64 c.moved_on-next.result) ≡ c.moved_on-next.result = search (rules, c.moved_on-next.type_inv) in
    let moved = rw c.as_slice.ensures at c.moved_on-next.ensures in
    let room = rw end at c.has_room.ensures in
    let back : of_z w64 (to_z w64 c.passes.at-bits) ≡ c.passes.at-bits = search (rules, of_z-to_z) in
    rw next (fewer_seconds _ c.moved_on-next.result c.args.range.end.0 c.args.seconds c.requires.some moved.later (λ same. c.if-next-at.false (ap (of_z w64) same ∙ back)) (sym room ∙ c.passes-test.true))

pub returns-then-next-at : goal.returns-then-next-at
returns-then-next-at c =
    let next : to_z w64 (of_z w64 c.moved_on-next.result) ≡ c.moved_on-next.result = search (rules, c.moved_on-next.type_inv) in
    let end : to_z w64 (of_z w64 c.args.range.end.0) ≡ c.args.range.end.0 = search rules in
    let moved = rw c.as_slice.ensures at c.moved_on-next.ensures in
    let room = rw end at c.has_room.ensures in
    search_found c.args.runs.now c.args.range c.args.seconds _ c.moved_on-next.result c.passes.invariant (sym room ∙ c.passes-test.true) moved (sym next ∙ ap (to_z w64) c.if-next-at.true)

pub returns : goal.returns
returns c =
    let end : to_z w64 (of_z w64 c.args.range.end.0) ≡ c.args.range.end.0 = search rules in
    let room = rw end at c.has_room.ensures in
    search_none (free_of_runs c.args.runs.now) c.args.range c.args.seconds _ c.passes.invariant (sym room ∙ c.passes-test.false)
