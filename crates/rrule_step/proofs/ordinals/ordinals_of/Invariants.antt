use Rattle.std.proofs.Common.{◌≡◌, ℕ, ◌<◌, take}
use Rattle.std.specs.List.{list_any}
use Rattle.rrule_step.specs.Ordinals.{at_back, at_front, marks}
use Rattle.rrule_step.proofs.ordinals.ordinals_of.Given as goal

-- the ordinals of the values so far
abbrev pub invariant-loop-part : goal.invariant-loop-part
invariant-loop-part l = record {
  front : (k i : ℕ) → k < 7 → i < 64 → marks l.front k i ≡ list_any (at_front k i) (take l.part-index l.part-items);
  back : (k i : ℕ) → k < 7 → i < 64 → marks l.back k i ≡ list_any (at_back k i) (take l.part-index l.part-items);
}
