use Rattle.std.proofs.Common.{◌≡◌, ℕ, ◌≤◌, ◌==◌, false, take, slice_index_or}
use Rattle.std.specs.List.{list_any}
use Rattle.cal_model.specs.Values.RuleTexts.{distinct}
use Rattle.ical_values.proofs.rule_bound.distinct.Given as goal

-- the numbers so far are those that are marked, and so many differ
abbrev pub invariant-numbers : goal.invariant-numbers
invariant-numbers l = record {
  count : l.count ≡ distinct (take l.number-index l.numbers);
  within : l.count ≤ l.number-index;
  seen : (other : ℕ) → slice_index_or l.seen other false ≡ list_any (λ one. one == other) (take l.number-index l.numbers);
}
