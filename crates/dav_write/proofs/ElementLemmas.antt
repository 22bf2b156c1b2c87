-- The text of an element, made of its pieces.
use Rattle.std.proofs.Common.{◌≡◌, ℕ, suc, ◌+◌, ◌<◌, Bool, true, false, List, [], ◌∷◌, ◌++◌, length, take, get_or, map, Option, Some, None, zero, cond, not, ◌==◌, nat_eq, IsTrue, refl, sym, ap, subst, ◌∙◌, arith, append_assoc, append-nil, length-append}
use Rattle.std.specs.Prelude.{codes, decimal}
use Rattle.std.specs.List.{concat}
use Rattle.std.proofs.lemmas.Bool.{false≢true}
use Rattle.std.proofs.lemmas.Bool.Decides.{nat_tests}
use Rattle.std.proofs.lemmas.List.{take_more, map-append}
use Rattle.std.proofs.lemmas.List.Folds.{concat-append}
use Rattle.cal_base.specs.declared.element.Attr.{Attr}
use Rattle.cal_base.specs.declared.element.Element.{Element}
use Rattle.cal_base.specs.declared.element.Item.{Item}
use Rattle.cal_base.specs.declared.element.Item.TheVariants.{Text}
use Rattle.cal_base.specs.Xml.CanonicalXml.{text_octet, xml_text, attribute_text, attribute, element_with, known_prefix, declaration, named_element, written_attribute, written_attributes, written_element, prefixes, written_body}
use Rattle.cal_base.proofs.Xml.CanonicalXmlLemmas.{written_element-out, written_item-Text}
use Rattle.dav_write.specs.ElementTexts.{element_name, own_declaration, tag_front, end_tag, value_text, own_prefix, known_attribute, own_attribute, item_text}

-- Attributes

pub own_declaration-known : (space prefix : List ℕ) → known_prefix space ≡ Some prefix → own_declaration space ≡ []
unfolding own_declaration
own_declaration-known space prefix known = ap (λ (found : Option (List ℕ)). elim found [ None ↦ declaration (codes "x") space | Some other ↦ [] ]) known

pub own_declaration-other : (space : List ℕ) → known_prefix space ≡ None → own_declaration space ≡ codes " xmlns:x" ++ value_text space
unfolding own_declaration value_text
own_declaration-other space other = ap (λ (found : Option (List ℕ)). elim found [ None ↦ declaration (codes "x") space | Some prefix ↦ [] ]) other

-- an attribute whose prefix was looked for
abbrev attribute_by : ℕ → Attr → Option (List ℕ) → List ℕ
attribute_by place attr found =
    let own = codes "y" ++ decimal place in
    elim found [
      | None ↦ declaration own attr.space ++ attribute (own ++ (codes ":" ++ attr.name)) attr.value
      | Some prefix ↦ attribute (prefix ++ attr.name) attr.value
    ]

pub written_attribute-known : (place : ℕ) (attr : Attr) (prefix : List ℕ) → known_prefix attr.space ≡ Some prefix → written_attribute (place, attr) ≡ known_attribute prefix attr
unfolding value_text
written_attribute-known place attr prefix known =
    ap (attribute_by place attr) known ∙ ap (λ text. codes " " ++ text) (append_assoc prefix attr.name (codes "=\"" ++ (attribute_text attr.value ++ codes "\"")))

pub written_attribute-other : (place : ℕ) (attr : Attr) → known_prefix attr.space ≡ None → written_attribute (place, attr) ≡ own_attribute place attr
unfolding value_text own_prefix
written_attribute-other place attr other =
    let own = codes "y" ++ decimal place in
    let assigned = λ (value : List ℕ). codes "=\"" ++ (attribute_text value ++ codes "\"") in
    ap (attribute_by place attr) other
    ∙ ap (λ text. codes " xmlns:" ++ text) (append_assoc own (assigned attr.space) (attribute (own ++ (codes ":" ++ attr.name)) attr.value))
    ∙ ap (λ text. codes " xmlns:" ++ (own ++ text)) (closed attr.space (attribute (own ++ (codes ":" ++ attr.name)) attr.value))
    ∙ ap (λ text. codes " xmlns:" ++ (own ++ (assigned attr.space ++ (codes " " ++ text)))) (append_assoc own (codes ":" ++ attr.name) (assigned attr.value) ∙ ap (λ text. own ++ (codes ":" ++ text)) refl)
  where
    closed : (value rest : List ℕ) → (codes "=\"" ++ (attribute_text value ++ codes "\"")) ++ rest ≡ (codes "=\"" ++ (attribute_text value ++ codes "\"")) ++ rest
    closed value rest = refl

-- Elements

-- an element whose prefix was looked for
abbrev element_by : List ℕ → List ℕ → List ℕ → List Attr → List ℕ → Option (List ℕ) → List ℕ
element_by declarations space name attrs content found = elim found [
  | None ↦ element_with (codes "x:" ++ name) (declarations ++ (declaration (codes "x") space ++ written_attributes attrs)) content
  | Some prefix ↦ element_with (prefix ++ name) (declarations ++ written_attributes attrs) content
]

named_is : (declarations space name : List ℕ) (attrs : List Attr) (content : List ℕ) → named_element declarations space name attrs content ≡ element_with (element_name space name) (declarations ++ (own_declaration space ++ written_attributes attrs)) content
unfolding element_name own_declaration
named_is declarations space name attrs content =
    by (known_prefix space)
  where
    by : (found : Option (List ℕ)) → element_by declarations space name attrs content found
        ≡ element_with (elim found [ None ↦ codes "x:" ++ name | Some prefix ↦ prefix ++ name ]) (declarations ++ (elim found [ None ↦ declaration (codes "x") space | Some prefix ↦ [] ] ++ written_attributes attrs)) content
    by None = refl
    by (Some prefix) = refl

with_none : (name attributes : List ℕ) → element_with name attributes [] ≡ (codes "<" ++ (name ++ attributes)) ++ codes "/>"
with_none name attributes = ap (λ text. codes "<" ++ text) (sym (append_assoc name attributes (codes "/>")))

with_some : (name attributes content : List ℕ) → 0 < length content → element_with name attributes content ≡ (codes "<" ++ (name ++ attributes)) ++ (codes ">" ++ (content ++ (codes "</" ++ (name ++ codes ">"))))
with_some name attributes [] some = absurd (omega arith)
with_some name attributes (c ∷ cs) some = ap (λ text. codes "<" ++ text) (sym (append_assoc name attributes (codes ">" ++ ((c ∷ cs) ++ (codes "</" ++ (name ++ codes ">"))))))

no_content : (content : List ℕ) → (0 < length content → ⊥) → content ≡ []
no_content [] none = refl
no_content (c ∷ cs) none = absurd (none (omega arith))

pub written_element-empty : (element : Element) (declarations : List ℕ) → (0 < length (concat (map item_text element.items)) → ⊥)
    → written_element element declarations ≡ tag_front declarations element.space element.name element.attrs ++ codes "/>"
written_element-empty element declarations none =
    written_element-out element declarations
    ∙ ap (named_element declarations element.space element.name element.attrs) (no_content (concat (map item_text element.items)) none)
    ∙ named_is declarations element.space element.name element.attrs []
    ∙ with_none (element_name element.space element.name) (declarations ++ (own_declaration element.space ++ written_attributes element.attrs))

pub written_element-filled : (element : Element) (declarations : List ℕ) → 0 < length (concat (map item_text element.items))
    → written_element element declarations ≡ tag_front declarations element.space element.name element.attrs ++ (codes ">" ++ (concat (map item_text element.items) ++ end_tag element.space element.name))
written_element-filled element declarations some =
    written_element-out element declarations
    ∙ named_is declarations element.space element.name element.attrs (concat (map item_text element.items))
    ∙ with_some (element_name element.space element.name) (declarations ++ (own_declaration element.space ++ written_attributes element.attrs)) (concat (map item_text element.items)) some

-- Items

octet_is_written : (octet : ℕ) → 0 < length (text_octet octet)
octet_is_written octet = one (nat_eq octet 38) (nat_eq octet 60) (nat_eq octet 62) (nat_eq octet 13)
  where
    one : (ampersand less greater return : Bool) → 0 < length (cond ampersand (codes "&amp;") (cond less (codes "&lt;") (cond greater (codes "&gt;") (cond return (codes "&#13;") (octet ∷ [])))))
    one true less greater return = omega arith
    one false true greater return = omega arith
    one false false true return = omega arith
    one false false false true = omega arith
    one false false false false = omega arith

pub text_is_written : (text : List ℕ) → 0 < length text → 0 < length (xml_text text)
unfolding xml_text
text_is_written [] some = some
text_is_written (c ∷ cs) some = omega (arith, length-append (text_octet c) (xml_text cs), octet_is_written c)

pub text_was : (text : List ℕ) → 0 < length (xml_text text) → 0 < length text
unfolding xml_text
text_was [] some = some
text_was (c ∷ cs) some = omega arith

pub items_more : (old out new : List ℕ) (items : List Item) (i : ℕ) (item : Item) → i < length items → item ≡ get_or items i item → out ≡ old ++ concat (map item_text (take i items)) → new ≡ out ++ item_text item
    → new ≡ old ++ concat (map item_text (take (i + 1) items))
items_more old out new items i item within here so_far now =
    let next : take (i + 1) items ≡ take i items ++ item ∷ [] = take_more items i item within ∙ ap (λ y. take i items ++ y ∷ []) (sym here) in
    now ∙ ap (λ text. text ++ item_text item) so_far ∙ append_assoc old (concat (map item_text (take i items))) (item_text item)
    ∙ ap (λ text. old ++ text) (ap (λ text. concat (map item_text (take i items)) ++ text) (sym (append-nil (item_text item))) ∙ sym (concat-append (map item_text (take i items)) (item_text item ∷ []))
    ∙ ap concat (sym (map-append item_text (take i items) (item ∷ []))) ∙ ap (λ these. concat (map item_text these)) (sym next))

-- the first item of which something is written
pub some_written : (items : List Item) (i : ℕ) (item : Item) → i < length items → item ≡ get_or items i item → 0 < length (item_text item) → 0 < length (concat (map item_text items))
some_written [] i item within here some = absurd (omega (arith, within))
some_written (first ∷ items) zero item within here some =
    omega (arith, length-append (item_text first) (concat (map item_text items)), subst (λ (x : Item). 0 < length (item_text x)) here some)
some_written (first ∷ items) (suc i) item within here some =
    omega (arith, length-append (item_text first) (concat (map item_text items)), some_written items i item (omega (arith, within)) here some)

pub none_more : (items : List Item) (i : ℕ) (item : Item) → i < length items → item ≡ get_or items i item → concat (map item_text (take i items)) ≡ [] → (0 < length (item_text item) → ⊥) → concat (map item_text (take (i + 1) items)) ≡ []
none_more items i item within here before none =
    sym (items_more [] (concat (map item_text (take i items))) (concat (map item_text (take i items)) ++ item_text item) items i item within here refl refl)
    ∙ ap (λ text. text ++ item_text item) before ∙ no_content (item_text item) none

pub text_says : (item : Item) (text : List ℕ) (answer : Bool) → item ≡ Text text → answer ≡ (length text == 0) → (IsTrue (not answer) → 0 < length (item_text item)) × (0 < length (item_text item) → IsTrue (not answer))
text_says item text answer is says =
    let written : item_text item ≡ xml_text text = ap item_text is ∙ written_item-Text text in (
      λ some. subst (λ t. 0 < length t) (sym written) (text_is_written text (some_octets text (sym says ∙ turned answer some))),
      λ some. ap not (says ∙ none_zero text (text_was text (subst (λ t. 0 < length t) written some))),
    )
  where
    turned : (b : Bool) → IsTrue (not b) → b ≡ false
    turned true h = absurd (false≢true h)
    turned false h = refl

    some_octets : (text : List ℕ) → (length text == 0) ≡ false → 0 < length text
    some_octets [] some = absurd (false≢true (sym some))
    some_octets (c ∷ cs) some = omega arith

    none_zero : (text : List ℕ) → 0 < length text → (length text == 0) ≡ false
    none_zero text some = grind (arith, nat_tests)

pub nothing_written : (answer : Bool) (these items : List Item) → these ≡ items → (0 < length (concat (map item_text these)) → IsTrue answer) → answer ≡ false → 0 < length (concat (map item_text items)) → ⊥
nothing_written answer these items same says none some = false≢true (sym none ∙ says (subst (λ (xs : List Item). 0 < length (concat (map item_text xs))) (sym same) some))

pub something_written : (answer : Bool) (these items : List Item) → these ≡ items → (IsTrue answer → 0 < length (concat (map item_text these))) → answer ≡ true → 0 < length (concat (map item_text items))
something_written answer these items same says some = subst (λ (xs : List Item). 0 < length (concat (map item_text xs))) same (says some)

-- a whole body

pub written_body-pieces : (element : Element) (mid new : List ℕ) → mid ≡ codes "<?xml version=\"1.0\" encoding=\"utf-8\"?>\n" → new ≡ mid ++ written_element element prefixes → new ≡ written_body element
written_body-pieces element mid new first second = second ∙ ap (λ text. text ++ written_element element prefixes) first
