use Rattle.std.proofs.Common.{◌≡◌, false, take}
use Rattle.std.specs.Prelude.{filter, flat_map, codes}
use Rattle.std.specs.List.{list_any}
use Rattle.cal_model.specs.Words.Namespaces.{dav}
use Rattle.cal_model.specs.Bodies.ElementParts.{has_name, item_elements}
use Rattle.cal_model.specs.Bodies.AclBodies.{is_kept, lacks_part}
use Rattle.dav_elements.proofs.acl.lack_parts.Given as goal

-- no ace so far lacks a part
abbrev pub invariant-items : goal.invariant-items
invariant-items l = list_any lacks_part (filter is_kept (filter (has_name dav (codes "ace")) (flat_map item_elements (take l.item-index l.items)))) ≡ false
