use Rattle.std.proofs.Common.{◌≡◌, map, take}
use Rattle.cal_model.specs.Conversions.LocalSpans.{span_at, best, value_at}
use Rattle.cal_model.proofs.local_span.joined_at.Given as goal

-- a span for each border so far
abbrev pub invariant-loop-p : goal.invariant-loop-p
invariant-loop-p l = l.spans ≡ map (span_at (λ p. best (value_at l.first p) (value_at l.second p))) (take l.p-index l.borders)
