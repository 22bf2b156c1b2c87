use Rattle.std.proofs.Common.{◌≡◌, map, take}
use Rattle.std.specs.Prelude.{filter, flat_map, codes}
use Rattle.cal_model.specs.Words.Namespaces.{dav}
use Rattle.cal_model.specs.Bodies.ElementParts.{has_name, item_elements}
use Rattle.cal_model.specs.Bodies.ElementParts.{own_text}
use Rattle.dav_elements.proofs.reports.read_hrefs.Given as goal

-- those of the items so far are read
abbrev pub invariant-items : goal.invariant-items
invariant-items l = l.hrefs ≡ map own_text (filter (has_name dav (codes "href")) (flat_map item_elements (take l.item-index l.items)))
