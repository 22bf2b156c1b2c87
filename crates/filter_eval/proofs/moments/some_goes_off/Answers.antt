use Rattle.std.proofs.Common.{arith, rules, ◌≡◌, List, ℤ, drop, ap, sym, subst, ◌∙◌, FitsSigned, w64, to_z-of_z}
use Rattle.std.specs.Int.{w128}
use Rattle.std.specs.List.{list_any}
use Rattle.std.specs.List.Sorted.{IsSorted}
use Rattle.std.specs.Ordering.{int_cmp}
use Rattle.std.proofs.lemmas.Int.{ints}
use Rattle.overlap_rules.specs.NextMoments.{goes_off}
use Rattle.filter_eval.proofs.MomentSearch.{behind_in_order, rest_in_order, goes_on, ends_with, ends_without}
use Rattle.filter_eval.proofs.moments.some_goes_off.Goals as goal

pub returns-in_default-next_moment : goal.returns-in_default-next_moment
returns-in_default-next_moment c =
    let e = c.in-Some.ensures.cases.0 in
    let test = goes_off c.args.alarm.now c.args.after c.args.range in
    let up = subst (λ (xs : List ℤ). IsSorted int_cmp xs) e c.search.invariant.rising in
    let fits : FitsSigned w64 c.in-Some.moment.now = search rules in
    let none = simp to_z-of_z at c.in_default-next_moment.ensures in
    sym (ends_without test c.in-Some.moment.now c.in-Some.behind.now up none) ∙ (ap (list_any test) (sym e) ∙ c.search.invariant.same)

pub returns-then-next-moment : goal.returns-then-next-moment
returns-then-next-moment c =
    let e = c.in-Some.ensures.cases.0 in
    let test = goes_off c.args.alarm.now c.args.after c.args.range in
    let fits : FitsSigned w64 c.in-Some.moment.now = search rules in
    let first = simp to_z-of_z at c.in-Some-next_moment.ensures in
    sym (ends_with test c.in-Some.moment.now c.in-Some-next_moment.next c.in-Some.behind.now first (omega (arith, ints))) ∙ (ap (list_any test) (sym e) ∙ c.search.invariant.same)

pub skipped-count-requires : goal.skipped-count-requires
skipped-count-requires c =
    behind_in_order c.in-Some.moment.now c.in-Some.behind.now (subst (λ (xs : List ℤ). IsSorted int_cmp xs) c.in-Some.ensures.cases.0 c.search.invariant.rising)

pub search-preserved : goal.search-preserved
search-preserved c =
    let e = c.in-Some.ensures.cases.0 in
    let test = goes_off c.args.alarm.now c.args.after c.args.range in
    let up = subst (λ (xs : List ℤ). IsSorted int_cmp xs) e c.search.invariant.rising in
    let fits : FitsSigned w64 c.in-Some.moment.now = search rules in
    let first = simp to_z-of_z at c.in-Some-next_moment.ensures in
    let next_fits : FitsSigned w128 c.in-Some-next_moment.next = search rules in
    let before = simp to_z-of_z at c.skipped-count.ensures.before in
    let left : drop c.skipped-count.result c.in-Some.behind.now ≡ c.split_at.result.1.now = sym c.split_at.ensures.back in
    record {
      rising = subst (λ (xs : List ℤ). IsSorted int_cmp xs) left (rest_in_order c.in-Some.moment.now c.in-Some.behind.now c.skipped-count.result up);
      same =
          ap (list_any test) (sym left)
          ∙ (goes_on test c.in-Some.moment.now c.in-Some-next_moment.next c.in-Some.behind.now c.skipped-count.result up first (omega (arith, ints)) c.skipped-count.ensures.bound before
          ∙ (ap (list_any test) (sym e) ∙ c.search.invariant.same));
    }
