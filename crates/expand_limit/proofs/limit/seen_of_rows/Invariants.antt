use Rattle.std.proofs.Common.{◌≡◌, ℕ, ◌<◌, length, get_or}
use Rattle.std.specs.Prelude.{All}
use Rattle.expand_limit.specs.InstanceLines.{IsShownRow}
use Rattle.expand_limit.specs.SeenRows.{nothing_seen, seen_over}
use Rattle.expand_limit.proofs.limit.seen_of_rows.Given as goal

-- what is seen so far, with what is left, is what all rows say
abbrev pub invariant-rows : goal.invariant-rows
invariant-rows l = record {
  shown : All IsShownRow l.rest;
  size : length l.seen ≡ length l.initial.seen;
  same : (number : ℕ) → number < length l.initial.seen → seen_over l.limit number l.rest (get_or l.seen number nothing_seen) ≡ seen_over l.limit number l.fn.rows (get_or l.initial.seen number nothing_seen);
}

abbrev pub decreases-rows : goal.decreases-rows
decreases-rows l = length l.rest
