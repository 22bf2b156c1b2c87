use Rattle.std.proofs.Common.{◌≡◌, take}
use Rattle.std.specs.Prelude.{filter, flat_map}
use Rattle.cal_model.specs.Bodies.ElementParts.{item_elements}
use Rattle.cal_model.specs.Bodies.PropertyBodies.{is_instruction, settings_of}
use Rattle.dav_elements.proofs.settings.read_settings.Given as goal

-- those of the items so far are read
abbrev pub invariant-items : goal.invariant-items
invariant-items l = l.settings ≡ flat_map settings_of (filter is_instruction (flat_map item_elements (take l.item-index l.items)))
