use Rattle.std.proofs.Common.{◌≡◌, ℕ, List}
use Rattle.std.specs.Vec.Iter.{into_iter_items}
use Rattle.cal_base.specs.Xml.XmlScopes.{space_of}
use Rattle.dav_body.proofs.Lookups.{found_by}
use Rattle.dav_body.proofs.bindings.indexed.Given as goal

-- what is not found yet is found among the rest
abbrev pub invariant-bindings : goal.invariant-bindings
invariant-bindings l = record {
  can_next : (goal.iterator-bindings).can_next l.binding-iterator;
  is_finite : (goal.iterator-bindings).is_finite l.binding-iterator;
  rest : (prefix : List ℕ) → found_by l.spaces (into_iter_items l.binding-iterator) prefix ≡ space_of l.fn.bindings prefix;
}
