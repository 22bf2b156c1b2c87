-- What is counted while the rows of a window are found, beside the cost of an object.
use Rattle.std.proofs.Common.{◌≡◌, ℕ, ◌+◌, ◌-◌, ◌*◌, ◌≤◌, List, [], ◌∷◌, length, map, arith, Bool, true, false, ℤ, inl, inr}
use Rattle.std.specs.Prelude.{count_by, sum, nat_le, option_to_list, is_some, Option, Some, None, ◌&&◌, if◌then◌else◌}
use Rattle.std.proofs.lemmas.Bool.{cases_Bool, leb-true}
use Rattle.cal_moment.specs.declared.stamp.Stamp.{Stamp}
use Rattle.cal_model.specs.declared.object.Component.{Component}
use Rattle.cal_model.specs.declared.object.Object.{Object}
use Rattle.cal_model.specs.declared.rule.Rule.{Rule}
use Rattle.cal_model.specs.Instances.Alignment.{written_moment}
use Rattle.cal_model.specs.Instances.Starts.{is_date}
use Rattle.cal_model.specs.Instances.Rows.{Numbered}
use Rattle.cal_model.specs.Ranges.Cost.{component_cost, cost, dates_of, last_day, passing_up_to, rule_cost}
use Rattle.cal_model.specs.Recurrence.RecurrenceSet.{every_moment}
use Rattle.cal_model.specs.Walks.Budgets.{last_period, passes_by}
use Rattle.cal_model.specs.Walks.KeptMoments.{number_of}
use Rattle.cal_model.proofs.Recurrence.Periods.{count_one, count_zero}
use Rattle.cal_model.proofs.Recurrence.Rising.{period_number-le}
use Rattle.cal_model.proofs.Walks.BudgetLemmas.{passing_up_to-counted}
use Rattle.rrule_sets.specs.MasterRows.{masters_cost, masters_from}
use Rattle.rrule_sets.specs.NeededDigits.{overrides_in}
use Rattle.rrule_sets.proofs.AskedLemmas.{sum-cons}

pub sum_each : {X : Type 0} (f g : X → ℕ) → ((x : X) → f x ≤ g x) → (xs : List X) → sum (map f xs) ≤ sum (map g xs)
sum_each f g le [] = omega arith
sum_each f g le (x ∷ xs) =
    let first = le x in
    let rest = sum_each f g le xs in
    let a = sum-cons (f x) (map f xs) in
    let b = sum-cons (g x) (map g xs) in
    omega (arith, first, rest, a, b)

count_each : (p q : ℕ → Bool) → ((m : ℕ) → p m ≡ true → q m ≡ true) → (xs : List ℕ) → count_by p xs ≤ count_by q xs
count_each p q h [] = omega arith
count_each p q h (x ∷ xs) =
    let rest = count_each p q h xs in
    elim (cases_Bool (p x)) [
      | inl w ↦ (let v = h x w in let a = count_one p x xs w in let b = count_one q x xs v in omega (arith, rest, a, b))
      | inr w ↦ elim (cases_Bool (q x)) [
        | inl v ↦ (let a = count_zero p x xs w in let b = count_one q x xs v in omega (arith, rest, a, b))
        | inr v ↦ (let a = count_zero p x xs w in let b = count_zero q x xs v in omega (arith, rest, a, b))
      ]
    ]

-- Rules.

-- an earlier end has no more moments
earlier_end : (rule : Rule) (start : ℕ) (dated : Bool) (high end : ℕ) → high ≤ end →
    count_by (passes_by rule start dated (last_period rule high)) every_moment ≤ count_by (passes_by rule start dated (last_period rule end)) every_moment
earlier_end rule start dated high end le =
    let less : high - 1 ≤ end - 1 = omega (arith, le) in
    let up = period_number-le rule.freq rule.week_start (high - 1) (end - 1) less in
    count_each (passes_by rule start dated (last_period rule high)) (passes_by rule start dated (last_period rule end)) (λ m h. narrower (number_of rule m) (last_period rule high) (last_period rule end) _ up h) every_moment
  where
    narrower : (n low high : ℕ) (b : Bool) → low ≤ high → (b && nat_le n low) ≡ true → (b && nat_le n high) ≡ true
    narrower n low high true le h = let n_low = leb-true n low h in grind (arith, le, n_low)
    narrower n low high false le h = absurd cc

-- a walk through rules up to the end of a day
pub rules_counted : (rules : List Rule) (s : Stamp) (dated : Bool) (start high day : ℕ) → start ≡ written_moment s → dated ≡ is_date s → high ≤ 86400 * (day + 1) →
    sum (map (λ (rule : Rule). 1 + count_by (passes_by rule start dated (last_period rule high)) every_moment) rules) ≤ sum (map (λ (rule : Rule). 1 + passing_up_to every_moment rule s day) rules)
rules_counted rules s dated start high day e d le =
    rw (e, d)
    (sum_each (λ (rule : Rule). 1 + count_by (passes_by rule (written_moment s) (is_date s) (last_period rule high)) every_moment) (λ (rule : Rule). 1 + passing_up_to every_moment rule s day)
    (λ rule. let less = earlier_end rule (written_moment s) (is_date s) high (86400 * (day + 1)) le in let same = passing_up_to-counted every_moment rule s day in omega (arith, less, same)) rules)

rules_within : (rules : List Rule) (s : Stamp) (day : ℕ) → sum (map (λ (rule : Rule). 1 + passing_up_to every_moment rule s day) rules) ≤ sum (map (rule_cost every_moment (Some s) day) rules)
rules_within rules s day = sum_each (λ (rule : Rule). 1 + passing_up_to every_moment rule s day) (rule_cost every_moment (Some s) day) (λ rule. omega arith) rules

-- what a component that recurs is asked for
pub component_counted : (c : Component) (s : Stamp) (day before rules dates periods : ℕ) → c.start ≡ Some s →
    rules ≤ before + sum (map (λ (rule : Rule). 1 + passing_up_to every_moment rule s day) c.rules) → dates ≤ rules + length c.dates → periods ≤ dates + length c.periods → periods ≤ before + component_cost every_moment day c
component_counted c s day before rules dates periods e a b d =
    let within = rules_within c.rules s day in
    rw e (omega (arith, a, b, d, within))

pub rules_only : (c : Component) (s : Stamp) (day before rules : ℕ) → c.start ≡ Some s →
    rules ≤ before + sum (map (λ (rule : Rule). 1 + passing_up_to every_moment rule s day) c.rules) → rules ≤ before + component_cost every_moment day c
rules_only c s day before rules e a =
    let within = rules_within c.rules s day in
    rw e (omega (arith, a, within))

pub dates_only : (c : Component) (s : Stamp) (day before rules dates : ℕ) → c.start ≡ Some s →
    rules ≤ before + sum (map (λ (rule : Rule). 1 + passing_up_to every_moment rule s day) c.rules) → dates ≤ rules + length c.dates → dates ≤ before + component_cost every_moment day c
dates_only c s day before rules dates e a b =
    let within = rules_within c.rules s day in
    rw e (omega (arith, a, b, within))

-- Components.

ids_within : (day : ℕ) (c : Component) → (if is_some c.recurrence_id then 1 else 0) ≤ component_cost every_moment day c
ids_within day c = of_id c.recurrence_id
  where
    of_id : (id : Option Stamp) → (if is_some id then 1 else 0) ≤ dates_of c + (length (option_to_list id) + sum (map (rule_cost every_moment c.start day) c.rules))
    of_id None = omega arith
    of_id (Some x) = omega arith

-- the overrides and the masters
pub parts_cost : (day number : ℕ) (cs : List Component) → overrides_in cs + masters_cost day (masters_from number cs) ≤ sum (map (component_cost every_moment day) cs)
parts_cost day number [] = omega arith
parts_cost day number (c ∷ cs) =
    let rest = parts_cost day (number + 1) cs in
    let all = sum-cons (component_cost every_moment day c) (map (component_cost every_moment day) cs) in
    elim (cases_Bool (is_some c.recurrence_id)) [
      | inl w ↦ rw w (let id : 1 ≤ component_cost every_moment day c = rw w at (ids_within day c) in omega (arith, rest, all, id))
      | inr w ↦ rw w (let more = sum-cons (component_cost every_moment day c) (map (λ (n : Numbered). component_cost every_moment day n.component) (masters_from (number + 1) cs)) in omega (arith, rest, all, more))
    ]

-- the overrides that were looked at, and what the master took
pub window_counted : (object : Object) (window : ℤ) (before looked made : ℕ) → looked ≡ before + overrides_in object.components → made ≤ looked + masters_cost (last_day every_moment object window) (masters_from 0 object.components) → made + 1 ≤ before + cost object window
window_counted object window before looked made a b = let parts = parts_cost (last_day every_moment object window) 0 object.components in omega (arith, a, b, parts)
