use Rattle.std.proofs.Common.{◌≡◌, ℕ, ◌<◌, ◌==◌, false, get_or}
use Rattle.cal_model.proofs.cuts.octets_before.Given as goal

-- none of the octets so far is of the kind
abbrev pub invariant-octets : goal.invariant-octets
invariant-octets l = (k : ℕ) → k < l.place → (get_or l.text k 0 == l.octet) ≡ false
