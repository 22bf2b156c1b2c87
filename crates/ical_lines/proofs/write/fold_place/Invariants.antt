use Rattle.std.proofs.Common.{ℕ, ◌<◌, ◌≤◌, get_or}
use Rattle.ical_lines.proofs.write.fold_place.Given as goal

-- the octets behind the place, as far as the room goes, begin no character
abbrev pub invariant-back : goal.invariant-back
invariant-back l = record {
  fits : l.place ≤ l.room;
  inside : (k : ℕ) → l.place < k → k ≤ l.room → (128 ≤ get_or l.text k 0) × (get_or l.text k 0 < 192);
}

abbrev pub decreases-back : goal.decreases-back
decreases-back l = l.place
