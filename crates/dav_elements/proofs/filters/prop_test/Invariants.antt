use Rattle.std.proofs.Common.{◌≡◌, [], take}
use Rattle.std.specs.Prelude.{filter, flat_map}
use Rattle.cal_model.specs.Bodies.ElementParts.{item_elements}
use Rattle.cal_model.specs.Bodies.FilterElements.{is_prop_test}
use Rattle.dav_elements.proofs.filters.prop_test.Given as goal

-- no item so far is a test
abbrev pub invariant-items : goal.invariant-items
invariant-items l = filter is_prop_test (flat_map item_elements (take l.item-index l.item-items)) ≡ []
