use Rattle.std.proofs.Common.{sym, ap, length, length-drop, arith}
use Rattle.std.proofs.lemmas.Grind.{common_steps}
use Rattle.http_wire.proofs.Searching.{left_next, left_found, left_nothing}
use Rattle.http_wire.proofs.search.head_end.Goals as goal

pub returns-in-Some-clause-end : goal.returns-in-Some-clause-end
returns-in-Some-clause-end c =
    left_found c.args.octets.now c.search.rest.now c.in-Some.n (grind (arith, common_steps)) c.search.invariant.found (rw (← c.behind-next.ensures) (sym c.in-Some.ensures.end))

pub search-preserved : goal.search-preserved
search-preserved c = record {
  found = rw c.behind-next.ensures (left_next c.args.octets.now c.search.rest.now (grind (arith, common_steps)) c.search.invariant.within c.search.invariant.found (rw (← c.behind-next.ensures) (sym c.in-None.ensures.end)));
  within = omega (arith, ap length c.behind-next.ensures, length-drop 1 c.search.rest.now, c.search.invariant.within);
}

pub returns-clause-end : goal.returns-clause-end
returns-clause-end c = left_nothing c.args.octets.now c.search.rest.now (grind (arith, common_steps)) c.search.invariant.found
