use Rattle.std.proofs.Common.{◌≡◌, None, take}
use Rattle.std.specs.Prelude.{find}
use Rattle.cal_model.specs.Bodies.ElementParts.{is_attribute}
use Rattle.dav_elements.proofs.parts.attribute.Given as goal

-- no attribute so far has the name
abbrev pub invariant-attrs : goal.invariant-attrs
invariant-attrs l = find (is_attribute l.name) (take l.attr-index l.attr-items) ≡ None
