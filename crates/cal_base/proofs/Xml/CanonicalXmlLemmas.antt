-- The canonical text of an element, one level at a time.
use Rattle.std.specs.Prelude.{◌≡◌, ℕ, List, [], map}
use Rattle.std.proofs.Common.{ap, sym, ◌∙◌}
use denote.Hole.Carrier as H
use Rattle.cal_base.specs.declared.element.Element.{Element}
use Rattle.cal_base.specs.declared.element.Item.{Item, Item-F}
use Rattle.cal_base.specs.declared.element.Item as I
use Rattle.cal_base.specs.declared.element.Item.TheFolds.{fold-Item, fold-roll-Item, fold_out-Element, fold_out-Item}
use Rattle.cal_base.specs.declared.element.Item.TheVariants.{Element as Inner, Text, rolls-Element}
use Rattle.cal_base.specs.Xml.CanonicalXml.{xml_text, item_step, element_step, written_element}

-- the text of an item
abbrev pub written_item : Item → List ℕ
written_item = fold-Item (List ℕ) (List ℕ → List ℕ) item_step element_step

-- one level of the written text
pub written_element-out : (element : Element) (declarations : List ℕ) → written_element element declarations ≡ element_step (record { space = element.space; name = element.name; attrs = element.attrs; items = map written_item element.items }) declarations
unfolding H.out
written_element-out element declarations = ap (λ (f : List ℕ → List ℕ). f declarations) (fold_out-Element (List ℕ) (List ℕ → List ℕ) item_step element_step element)

-- text is escaped
pub written_item-Text : (text : List ℕ) → written_item (Text text) ≡ xml_text text
unfolding I.out-Item I.roll-Item H.out H.roll
written_item-Text text = fold_out-Item (List ℕ) (List ℕ → List ℕ) item_step element_step (Text text)

-- an element within declares nothing first
pub written_item-Element : (element : Element) → written_item (Inner element) ≡ written_element element []
written_item-Element element = ap written_item (sym (rolls-Element element)) ∙ fold-roll-Item (List ℕ) (List ℕ → List ℕ) item_step element_step (Item-F.Element element)
