use Rattle.std.proofs.Common.{◌≡◌, map, take}
use Rattle.filter_eval.specs.ReadyTexts.{node_of}
use Rattle.filter_eval.proofs.ready.+ready_node.Given as goal

-- each component so far made ready
abbrev pub invariant-children : goal.invariant-children
invariant-children l = map node_of l.children ≡ take l.child-index l.child-items
