use Rattle.std.proofs.Common.{◌≡◌, ◌+◌, ◌*◌, ◌++◌, List, ℤ, pos, neg_ℤ, ◌<ℤ◌, ◌≤ℤ◌, arith, rules, sym, ap, ◌∙◌, subst, FitsSigned, w64, to_z-of_z}
use Rattle.std.specs.Prelude.{OnOk}
use Rattle.std.proofs.lemmas.Int.{ints}
use Rattle.std.proofs.lemmas.List.{append-nil}
use Rattle.cal_model.specs.Recurrence.RecurrenceSet.{Reading}
use Rattle.cal_model.specs.Values.LocalTimes.{moment_of_local}
use Rattle.cal_model.specs.Walks.Clocks.{reading_by}
use Rattle.override_merge.specs.Conversions.{tables_of}
use Rattle.rrule_sets.proofs.CostLemmas.{rules_counted}
use Rattle.rrule_sets.proofs.DigitLemmas.{IsCutBy, dated-is, rules_between}
use Rattle.rrule_sets.proofs.NearLemmas.{none_early}
use Rattle.rrule_sets.proofs.later.put_later_starts.Goals as goal

pub returns-then-range-le-FIRST_DIGITS-clause-starts : goal.returns-then-range-le-FIRST_DIGITS-clause-starts
returns-then-range-le-FIRST_DIGITS-clause-starts g c =
    let test = c.if-range-le-FIRST_DIGITS.true in
    let early : c.args.range.high ≤ℤ neg_ℤ (pos 62_135_596_800) = omega (arith, ints, test) in
    sym (append-nil c.args.out.now) ∙ ap (λ (xs : List ℤ). c.args.out.now ++ xs) (sym (none_early (tables_of c.args.zones.now) c.args.stamp c.args.range early c.args.rules.now))

pub returns-clause-steps : goal.returns-clause-steps
returns-clause-steps g c =
    let fits : FitsSigned w64 c.args.range.high = search rules in
    let by = simp to_z-of_z at c.moment_at-high.ensures.by in
    let test = c.if-range-le-FIRST_DIGITS.false in
    let late : neg_ℤ (pos 62_135_596_800) <ℤ c.args.range.high = omega (arith, ints, test) in
    let dated = ap (λ (reading : Reading). reading.dated) c.clock_beside-clock.ensures.reading ∙ dated-is (tables_of c.args.zones.now) c.args.stamp in
    let steps = c.put_rules.ensures.steps in
    λ day ends.
    let high = by (86400 * (day + 1)) late ends in
    let most = rules_counted c.args.rules.now c.args.stamp (reading_by c.clock_beside-clock.result).dated (moment_of_local c.start_moment-start.result) (moment_of_local c.moment_at-high.result) day c.start_moment-start.ensures.value dated high in
    omega (arith, most, steps)

pub returns-clause-starts : goal.returns-clause-starts
returns-clause-starts g c =
    let low_fits : FitsSigned w64 c.args.range.low = search rules in
    let high_fits : FitsSigned w64 c.args.range.high = search rules in
    let cut : IsCutBy c.args.range (moment_of_local c.moment_at-low.result) (moment_of_local c.moment_at-high.result) = record { from = simp to_z-of_z at c.moment_at-low.ensures.from; before = simp to_z-of_z at c.moment_at-high.ensures.before } in
    subst (λ (xs : List ℤ). OnOk c.put_rules.result (c.put_rules.new.out ≡ c.args.out.now ++ xs))
    (rules_between (tables_of c.args.zones.now) c.args.stamp c.args.range (moment_of_local c.moment_at-low.result) (moment_of_local c.moment_at-high.result) (moment_of_local c.start_moment-start.result) (reading_by c.clock_beside-clock.result)
    cut c.start_moment-start.ensures.value c.clock_beside-clock.ensures.reading c.args.rules.now)
    c.put_rules.ensures.starts
