use Rattle.std.proofs.Common.{◌≡◌, false, take}
use Rattle.std.specs.Prelude.{filter, flat_map, codes}
use Rattle.std.specs.List.{list_any}
use Rattle.cal_model.specs.Words.Namespaces.{dav}
use Rattle.cal_model.specs.Bodies.ElementParts.{children, has_name, item_elements}
use Rattle.cal_model.specs.Words.Lists.{is_empty}
use Rattle.dav_elements.proofs.aces.has_empty.Given as goal

-- no privilege so far is empty
abbrev pub invariant-items : goal.invariant-items
invariant-items l = list_any (λ privilege. is_empty (children privilege)) (filter (has_name dav (codes "privilege")) (flat_map item_elements (take l.item-index l.items))) ≡ false
