use Rattle.std.proofs.Common.{sym, ap, ◌∙◌, length, length-drop, arith}
use Rattle.cal_model.specs.Streams.Heads.{without_empty_lines}
use Rattle.http_wire.proofs.Searching.{skip_one, skip_none}
use Rattle.http_wire.proofs.search.behind_empty_lines.Goals as goal

pub skip-preserved : goal.skip-preserved
skip-preserved c = record {
  same = c.skip.invariant.same ∙ skip_one c.skip.rest.now c.in-Some.n (sym c.in-Some.ensures.line) ∙ ap without_empty_lines (sym c.behind-rest.ensures);
  within = omega (arith, ap length c.behind-rest.ensures, length-drop c.in-Some.n c.skip.rest.now, c.skip.invariant.within);
}

pub returns-in-None-clause-behind : goal.returns-in-None-clause-behind
returns-in-None-clause-behind c = sym (skip_none c.skip.rest.now (sym c.in-None.ensures.line)) ∙ sym c.skip.invariant.same
