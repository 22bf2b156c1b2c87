use Rattle.std.proofs.Common.{◌≡◌, map, take}
use Rattle.cal_model.specs.Conversions.LocalSpans.{span_at, found_in}
use Rattle.cal_model.proofs.local_span.stretch_at.Given as goal

-- a span for each border so far
abbrev pub invariant-loop-p : goal.invariant-loop-p
invariant-loop-p l = l.spans ≡ map (span_at (λ p. found_in l.table p l.k)) (take l.p-index l.borders)
