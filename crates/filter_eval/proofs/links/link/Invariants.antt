use Rattle.std.proofs.Common.{◌≡◌, ◌≤◌, length}
use Rattle.filter_eval.specs.Links.{AreLinked}
use Rattle.filter_eval.proofs.links.link.Given as goal

-- the items from a place on are linked
abbrev pub invariant-items : goal.invariant-items
invariant-items l = record {
  within : l.from ≤ length l.keys;
  size : length l.nexts ≡ length l.keys;
  linked : AreLinked l.keys l.firsts l.nexts l.from;
}

abbrev pub decreases-items : goal.decreases-items
decreases-items l = l.from
