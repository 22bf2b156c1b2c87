use Rattle.std.proofs.Common.{◌-◌, ◌*◌, arith, ℤ, ◌-ℤ◌, to_z, of_z}
use Rattle.std.specs.Int.{w128}
use Rattle.std.proofs.lemmas.Int.{ints}
use Rattle.overlap_rules.proofs.Reaching.{beyond_more, reaches_by, reaches_later}
use Rattle.overlap_rules.proofs.next.first_below.Goals as goal

pub returns-then-number-from : goal.returns-then-number-from
returns-then-number-from c =
    let gaps = c.from-then-number-from.result in
    let fewer = c.gaps_over-number.ensures.least gaps (omega arith) in
    let at : ℤ = to_z w128 (of_z w128 (to_z w128 (of_z w128 c.args.low) -ℤ to_z w128 (gaps * c.args.gap))) in
    reaches_later c.args.gap c.args.repeat gaps c.args.low c.args.high c.args.from at (omega (arith, ints)) (omega arith) c.requires.some (omega (arith, ints)) (λ k more few. absurd (omega arith))

pub returns-then-from-number : goal.returns-then-from-number
returns-then-from-number c =
    let covers = c.gaps_over-number.ensures.covers in
    reaches_by c.args.gap c.args.repeat c.gaps_over-number.result c.args.low c.args.high c.args.from (to_z w128 (of_z w128 c.args.from)) (omega (arith, ints)) (omega arith) (omega (arith, ints)) (omega (arith, ints))

pub overflow_sub-result-3 : goal.overflow_sub-result-3
overflow_sub-result-3 c =
    let fewer = c.gaps_over-number.ensures.least (c.gaps_over-number.result - 1) (omega arith) in
    omega (arith, ints)

pub returns : goal.returns
returns c =
    let number = c.gaps_over-number.result in
    let fewer = c.gaps_over-number.ensures.least (number - 1) (omega arith) in
    let at : ℤ = to_z w128 (of_z w128 (to_z w128 (of_z w128 c.args.low) -ℤ to_z w128 ((number - 1) * c.args.gap))) in
    reaches_later c.args.gap c.args.repeat (number - 1) c.args.low c.args.high c.args.from at (omega (arith, ints)) (omega arith) c.requires.some (omega (arith, ints))
    (λ k more few. beyond_more c.args.gap number k c.args.high c.args.from (omega arith) (omega (arith, ints)))
