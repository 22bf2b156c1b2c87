-- A body read from the front: the elements that are open at a place, with what they hold so far, and what the levels to come make
-- of them. That this is the element of the body is shown in the proofs.
use Rattle.std.specs.Prelude.{ℕ, List, [], ◌∷◌, ◌++◌, Option, None, unwrap_or}
use Rattle.cal_base.specs.declared.element.Attr.{Attr}
use Rattle.cal_base.specs.declared.element.Element.{Element}
use Rattle.cal_base.specs.declared.element.Item.{Item}
use Rattle.cal_base.specs.declared.element.Item.TheVariants.{Element as InnerElement}
use Rattle.cal_base.specs.Xml.XmlMarkup.{Tag}
use Rattle.cal_base.specs.Xml.XmlScopes.{Scope, declarations, space_of, attributes_in, outer_scope}
use Rattle.cal_base.specs.Xml.XmlBodies.{Part, held, Level, text_items, items_behind, with_part, outermost}

-- an element that is open, with what stands in it so far: its items, and the text behind them
pub record OpenPart : Type 0 where
  pub tag : Tag
  pub space : List ℕ
  pub name : List ℕ
  pub attrs : List Attr
  pub items : List Item
  pub text : List ℕ

-- an open element with the rest of its level
abbrev pub whole : OpenPart → List Part → Element
whole open_one rest = record { space = open_one.space; name = open_one.name; attrs = open_one.attrs; items = open_one.items ++ items_behind open_one.text rest }

-- what the prefixes stand for in the innermost
abbrev pub scope_of : List OpenPart → Scope
scope_of [] = outer_scope
scope_of (open_one ∷ around) = declarations open_one.tag ++ scope_of around

-- the element of a tag, as it opens within others
abbrev pub opened : Tag → List OpenPart → OpenPart
opened tag around =
    let scope = declarations tag ++ scope_of around in
    record { tag = tag; space = unwrap_or (space_of scope tag.name.prefix) []; name = tag.name.local; attrs = attributes_in scope tag; items = []; text = [] }

-- an open element with one more element in it
abbrev pub with_child : OpenPart → Element → OpenPart
with_child open_one element = record open_one { items = open_one.items ++ text_items open_one.text ++ InnerElement element ∷ []; text = [] }

-- the element of all, from the levels of what comes behind
abbrev pub finished : List OpenPart → List Level → Option Element
finished [] levels = outermost levels
finished (open_one ∷ around) [] = None
finished (open_one ∷ around) (level ∷ levels) = finished around (with_part (λ scope. held (whole open_one (level (scope_of (open_one ∷ around))))) levels)

-- the same where an element has just ended
abbrev pub finished_behind : Element → List OpenPart → List Level → Option Element
finished_behind element [] levels = outermost (with_part (λ scope. held element) levels)
finished_behind element (outer ∷ around) levels = finished (with_child outer element ∷ around) levels
