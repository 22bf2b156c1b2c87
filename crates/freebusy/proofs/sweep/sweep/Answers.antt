use Rattle.std.proofs.Common.{rules, arith, ◌≡◌, ap, ◌∙◌, w64, to_z, of_z}
use Rattle.std.proofs.lemmas.Int.{ints}
use Rattle.freebusy.specs.Ends.{open_class}
use Rattle.freebusy.specs.Sweep.{in_order}
use Rattle.freebusy.proofs.Passed.{class_is}
use Rattle.freebusy.proofs.Sweeping.{swept_first, swept_next, swept_last, fewer_seconds}
use Rattle.freebusy.proofs.sweep.sweep.Goals as goal

pub stretches-init : goal.stretches-init
stretches-init c =
    let high : to_z w64 (of_z w64 c.args.range.end.0) ≡ c.args.range.end.0 = search rules in (
      swept_first (open_class c.args.classes.now) c.args.range.start.0 c.args.range.end.0 c.left_before-left.result.upper (in_order c.new-found.result) (c.left_before-left.ensures.upper ∙ high) (ap in_order c.new-found.ensures),
      c.left_before-left.ensures.left,
    )

pub border-from-requires-clause-left : goal.border-from-requires-clause-left
border-from-requires-clause-left c = c.stretches.invariant.1

pub left_back-left-requires-clause-left : goal.left_back-left-requires-clause-left
left_back-left-requires-clause-left c = c.stretches.invariant.1

pub stretches-preserved : goal.stretches-preserved
stretches-preserved c =
    let low : to_z w64 (of_z w64 c.args.range.start.0) ≡ c.args.range.start.0 = search rules in
    let from : to_z w64 (of_z w64 c.border-from.result) ≡ c.border-from.result = search (rules, c.border-from.type_inv) in
    let upper : to_z w64 (of_z w64 c.stretches.left.upper) ≡ c.stretches.left.upper = search rules in
    let longer = rw (c.open_class.ensures, from, upper) at c.in_ok-add_stretch.ensures in
    let so_far = c.stretches.invariant in
    let border = c.border-from.ensures in
    let swept = swept_next (open_class c.args.classes.now) c.args.range.start.0 c.args.range.end.0 c.border-from.result c.stretches.left.upper _ (in_order c.stretches.found) _ so_far.0 (omega (arith, ints, low, border.least)) border.before
    (λ t above before. class_is c.args.classes.now c.stretches.left c.border-from.result t so_far.1 border.last above before) longer in
    (rw (c.left_back-left.ensures.upper, from) swept, c.left_back-left.ensures.left)

pub stretches-smaller : goal.stretches-smaller
stretches-smaller c =
    let low : to_z w64 (of_z w64 c.args.range.start.0) ≡ c.args.range.start.0 = search rules in
    let from : to_z w64 (of_z w64 c.border-from.result) ≡ c.border-from.result = search (rules, c.border-from.type_inv) in
    rw (c.left_back-left.ensures.upper, from) (fewer_seconds c.args.range.start.0 c.border-from.result c.stretches.left.upper (omega (arith, ints, low, c.border-from.ensures.least)) c.border-from.ensures.before)

pub returns : goal.returns
returns c =
    let low : to_z w64 (of_z w64 c.args.range.start.0) ≡ c.args.range.start.0 = search rules in
    let upper : to_z w64 (of_z w64 c.stretches.left.upper) ≡ c.stretches.left.upper = search rules in
    swept_last (open_class c.args.classes.now) c.args.range.start.0 c.args.range.end.0 c.stretches.left.upper (in_order c.stretches.found) c.stretches.invariant.0 (omega (arith, ints, low, upper, c.stretches-test.false))
