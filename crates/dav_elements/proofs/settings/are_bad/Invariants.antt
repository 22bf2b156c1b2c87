use Rattle.std.proofs.Common.{◌≡◌, false, not, take}
use Rattle.std.specs.Prelude.{filter, flat_map}
use Rattle.std.specs.List.{list_any}
use Rattle.cal_model.specs.Words.Lists.{is_empty}
use Rattle.cal_model.specs.Bodies.ElementParts.{item_elements}
use Rattle.cal_model.specs.Bodies.PropertyBodies.{is_instruction, lacks_prop, has_nameless}
use Rattle.dav_elements.proofs.settings.are_bad.Given as goal

-- whether there is one among the items so far, of which none is bad
abbrev pub invariant-items : goal.invariant-items
invariant-items l =
    let those = filter is_instruction (flat_map item_elements (take l.item-index l.items)) in record {
      some : not l.some ≡ is_empty those;
      with_prop : list_any lacks_prop those ≡ false;
      with_names : list_any has_nameless those ≡ false;
    }
