use Rattle.std.proofs.Common.{◌≡◌, map, take}
use Rattle.std.specs.Prelude.{filter, flat_map, codes}
use Rattle.std.specs.List.{join_with_byte}
use Rattle.cal_base.specs.Texts.Octets.{comma}
use Rattle.cal_model.specs.Words.Lists.{is_empty}
use Rattle.cal_model.specs.Words.Namespaces.{caldav}
use Rattle.cal_model.specs.Bodies.ElementParts.{has_name, item_elements, name_of}
use Rattle.dav_elements.proofs.settings.read_component_names.Given as goal

-- the names of the components so far, and whether there is none
abbrev pub invariant-items : goal.invariant-items
invariant-items l =
    let those = filter (has_name caldav (codes "comp")) (flat_map item_elements (take l.item-index l.items)) in record {
      joined : l.names ≡ join_with_byte comma (map name_of those);
      none : l.first ≡ is_empty those;
    }
