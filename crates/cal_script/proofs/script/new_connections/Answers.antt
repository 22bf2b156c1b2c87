use Rattle.std.proofs.Common.{◌∷◌, [], replicate, length, length-append, ap, arith, subst, sym}
use Rattle.std.specs.List.{AllZip}
use Rattle.cal_script.specs.Readings.{Rests}
use Rattle.cal_script.proofs.ScriptLemmas.{side_more}
use Rattle.cal_script.proofs.script.new_connections.Goals as goal

pub opening-preserved : goal.opening-preserved
opening-preserved c = record {
  side = subst (λ xs. AllZip Rests (replicate (length xs) []) xs) (sym c.in_ok-push.ensures.ok) (side_more _ _ c.opening.invariant.side c.new.ensures);
  within = omega (arith, ap length c.in_ok-push.ensures.ok, length-append c.opening.connections (c.new.result ∷ []), c.opening-test.true);
}
