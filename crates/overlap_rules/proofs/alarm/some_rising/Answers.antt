use Rattle.std.proofs.Common.{ℕ, ◌*◌, ◌<◌, pos, ◌+ℤ◌, ◌<ℤ◌, arith}
use Rattle.std.proofs.lemmas.Int.{ints}
use Rattle.overlap_rules.proofs.Covering.{first_before_end}
use Rattle.overlap_rules.proofs.alarm.some_rising.Goals as goal

pub returns-then-number-from-clause-met : goal.returns-then-number-from-clause-met
returns-then-number-from-clause-met c =
    let covers = c.gaps_over-number.ensures.covers in
    λ is. (c.gaps_over-number.result, omega arith, record { from_low = omega (arith, ints); before_high = grind (arith, ints) })

pub returns-then-number-from-clause-all : goal.returns-then-number-from-clause-all
returns-then-number-from-clause-all c =
    let below : (j : ℕ) → j < c.gaps_over-number.result → (c.args.first +ℤ pos (j * c.args.gap)) <ℤ c.args.low = λ j less.
    (let least = c.gaps_over-number.ensures.least j less in omega (arith, ints)) in
    λ k few inside.
    let before = first_before_end c.args.first c.args.low c.args.high c.args.gap c.gaps_over-number.result k below inside in
    grind (arith, ints)
