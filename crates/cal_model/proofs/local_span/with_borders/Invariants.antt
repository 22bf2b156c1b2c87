use Rattle.std.proofs.Common.{◌≡◌, ◌++◌, map, take}
use Rattle.cal_model.specs.declared.local_span.Span.{Span}
use Rattle.cal_model.proofs.local_span.with_borders.Given as goal

-- the borders of the spans so far behind the others
abbrev pub invariant-loop-p : goal.invariant-loop-p
invariant-loop-p l = l.all ≡ l.initial.all ++ map (λ (p : Span). p.from) (take l.p-index l.spans)
