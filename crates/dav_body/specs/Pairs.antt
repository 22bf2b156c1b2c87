-- Two texts as one text, so that no other two make the same.
use Rattle.std.specs.Prelude.{ℕ, List, [], ◌∷◌}
use Rattle.cal_base.specs.declared.element.Attr.{Attr}
use Rattle.cal_base.specs.Xml.XmlMarkup.{WrittenAttribute}

-- each octet of the first behind a 1, and the second behind a 0
abbrev pub pair_key : List ℕ → List ℕ → List ℕ
pair_key [] second = 0 ∷ second
pair_key (octet ∷ first) second = 1 ∷ octet ∷ pair_key first second

-- the name of an attribute as it is written
abbrev pub written_key : WrittenAttribute → List ℕ
written_key attribute = pair_key attribute.name.prefix attribute.name.local

-- what an attribute names
abbrev pub attribute_key : Attr → List ℕ
attribute_key attr = pair_key attr.name attr.space
