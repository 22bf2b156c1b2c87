-- Parts that make the same items, and texts that spell them, one behind the other.
use Rattle.std.proofs.Common.{◌≡◌, ℕ, true, List, [], ◌∷◌, ◌++◌, map, refl, sym, ap, ◌∙◌, subst, append_assoc}
use Rattle.std.specs.List.{concat}
use Rattle.std.proofs.lemmas.List.{append-nil}
use Rattle.cal_base.specs.declared.element.Item.{Item}
use Rattle.cal_base.specs.declared.element.Item.TheVariants.{Element as Inner, Text}
use Rattle.cal_base.specs.Xml.XmlMarkup.{Tag}
use Rattle.cal_base.specs.Xml.XmlBodies.{Part, said, held, text_items, items_behind}
use Rattle.cal_base.specs.Xml.CanonicalXml.{xml_text, written_element}
use Rattle.cal_base.proofs.Xml.CanonicalXmlLemmas.{written_item, written_item-Text, written_item-Element}
use Rattle.dav_write.proofs.ReadBack.Spelling.{NoFault, levels_of, scope_in, NoEnd, Alike, Spells, written_parts}

pub alike_join : (one other new old : List Part) → Alike one other → Alike new old → Alike (one ++ new) (other ++ old)
alike_join one other new old a b text more =
    ap (items_behind text) (append_assoc one new more) ∙ a text (new ++ more)
    ∙ behind other text
    ∙ ap (items_behind text) (sym (append_assoc other old more))
  where
    behind : (front : List Part) (t : List ℕ) → items_behind t (front ++ (new ++ more)) ≡ items_behind t (front ++ (old ++ more))
    behind [] t = b t more
    behind (said s ∷ front) t = behind front (t ++ s)
    behind (held element ∷ front) t = ap (λ (items : List Item). text_items t ++ Inner element ∷ items) (behind front [])

-- texts that spell parts, one behind the other
pub spells_join : (around : List Tag) (text more : List ℕ) (parts others : List Part) (rest : List ℕ) → Spells around text parts (more ++ rest) → Spells around more others rest → Spells around (text ++ more) (parts ++ others) rest
spells_join around text more parts others rest a b = record {
  no_end = subst NoEnd (sym (append_assoc text more rest)) a.no_end;
  sound = λ h. subst (NoFault around true) (sym (append_assoc text more rest)) (a.sound (b.sound h));
  grows = λ level levels e.
      let g = b.grows level levels e in
      let f = a.grows g.first levels g.is in
      record {
        first = f.first;
        is = ap levels_of (append_assoc text more rest) ∙ f.is;
        new = f.new ++ g.new;
        parts_of_first = f.parts_of_first ∙ ap (λ (behind : List Part). f.new ++ behind) g.parts_of_first ∙ sym (append_assoc f.new g.new (level (scope_in around)));
        alike = alike_join f.new parts g.new others f.alike g.alike;
      };
}

pub spells_none : (around : List Tag) (rest : List ℕ) → NoEnd rest → Spells around [] [] rest
spells_none around rest n = record {
  no_end = n;
  sound = λ h. h;
  grows = λ level levels e. record { first = level; is = e; new = []; parts_of_first = refl; alike = λ text more. refl };
}

-- The text of the items that parts make is the text of the parts

pub xml_text-append : (text more : List ℕ) → xml_text (text ++ more) ≡ xml_text text ++ xml_text more
unfolding xml_text
xml_text-append [] more = refl
xml_text-append (octet ∷ text) more = ap (λ rest. Rattle.cal_base.specs.Xml.CanonicalXml.text_octet octet ++ rest) (xml_text-append text more) ∙ sym (append_assoc (Rattle.cal_base.specs.Xml.CanonicalXml.text_octet octet) (xml_text text) (xml_text more))

xml_text-nil : xml_text [] ≡ []
unfolding xml_text
xml_text-nil = refl

text_items-written : (text : List ℕ) (items : List Item) → concat (map written_item (text_items text ++ items)) ≡ xml_text text ++ concat (map written_item items)
text_items-written [] items = ap (λ (front : List ℕ). front ++ concat (map written_item items)) (sym xml_text-nil)
text_items-written (octet ∷ text) items = ap (λ (front : List ℕ). front ++ concat (map written_item items)) (written_item-Text (octet ∷ text))

items_behind-nil : (text : List ℕ) → concat (map written_item (text_items text)) ≡ xml_text text
items_behind-nil [] = sym xml_text-nil
items_behind-nil (octet ∷ text) = append-nil (written_item (Text (octet ∷ text))) ∙ written_item-Text (octet ∷ text)

pub items_behind-written : (text : List ℕ) (parts : List Part) → concat (map written_item (items_behind text parts)) ≡ xml_text text ++ written_parts parts
items_behind-written text [] = items_behind-nil text ∙ sym (append-nil (xml_text text))
items_behind-written text (said more ∷ parts) = items_behind-written (text ++ more) parts ∙ ap (λ (front : List ℕ). front ++ written_parts parts) (xml_text-append text more) ∙ append_assoc (xml_text text) (xml_text more) (written_parts parts)
items_behind-written text (held element ∷ parts) =
    text_items-written text (Inner element ∷ items_behind [] parts)
    ∙ ap (λ (behind : List ℕ). xml_text text ++ behind)
    (ap (λ (front : List ℕ). front ++ concat (map written_item (items_behind [] parts))) (written_item-Element element)
    ∙ ap (λ (behind : List ℕ). written_element element [] ++ behind) (items_behind-written [] parts ∙ ap (λ (front : List ℕ). front ++ written_parts parts) xml_text-nil))
