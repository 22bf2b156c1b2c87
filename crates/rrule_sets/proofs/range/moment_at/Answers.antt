use Rattle.std.proofs.Common.{rules, arith, pos, neg_ℤ, ◌<ℤ◌, FitsSigned, w64, to_z-of_z}
use Rattle.std.proofs.lemmas.Int.{ints}
use Rattle.rrule_sets.proofs.DigitLemmas.{written_digits, cut_from, cut_before}
use Rattle.rrule_sets.proofs.range.moment_at.Goals as goal

pub returns-else-digits-ge-END_DIGITS-clause-written : goal.returns-else-digits-ge-END_DIGITS-clause-written
returns-else-digits-ge-END_DIGITS-clause-written c =
    let fits : FitsSigned w64 c.args.digits = search rules in
    let late : neg_ℤ (pos 62_135_596_800) <ℤ c.args.digits = omega (arith, ints) in
    let early : c.args.digits <ℤ pos 4_165_516_800 = omega (arith, ints) in
    written_digits c.local_of.result c.args.digits (simp to_z-of_z at c.local_of.ensures.value) c.local_of.ensures.second late early

pub returns-else-digits-ge-END_DIGITS-clause-from : goal.returns-else-digits-ge-END_DIGITS-clause-from
returns-else-digits-ge-END_DIGITS-clause-from c =
    let fits : FitsSigned w64 c.args.digits = search rules in
    let late : neg_ℤ (pos 62_135_596_800) <ℤ c.args.digits = omega (arith, ints) in
    let early : c.args.digits <ℤ pos 4_165_516_800 = omega (arith, ints) in
    let value = simp to_z-of_z at c.local_of.ensures.value in
    let written = written_digits c.local_of.result c.args.digits value c.local_of.ensures.second late early in
    λ m from before. cut_from c.local_of.result c.args.digits m written value

pub returns-else-digits-ge-END_DIGITS-clause-before : goal.returns-else-digits-ge-END_DIGITS-clause-before
returns-else-digits-ge-END_DIGITS-clause-before c =
    let fits : FitsSigned w64 c.args.digits = search rules in
    let late : neg_ℤ (pos 62_135_596_800) <ℤ c.args.digits = omega (arith, ints) in
    let early : c.args.digits <ℤ pos 4_165_516_800 = omega (arith, ints) in
    let value = simp to_z-of_z at c.local_of.ensures.value in
    let written = written_digits c.local_of.result c.args.digits value c.local_of.ensures.second late early in
    λ m from before. cut_before c.local_of.result c.args.digits m written value
