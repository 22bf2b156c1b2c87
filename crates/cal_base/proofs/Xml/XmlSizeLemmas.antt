-- An element that a body spells holds no more than the body has octets.
use Rattle.std.specs.Prelude.{◌≡◌, ℕ, suc, ◌+◌, ◌≤◌, Bool, true, false, not, ◌==◌, if◌then◌else◌, List, [], ◌∷◌, ◌++◌, length, drop, sum_by, filter, filter_map, flat_map, find, codes, encode_utf8, Option, Some, None, option_map, option_and_then, unwrap_or}
use Rattle.std.specs.List.{concat, list_all, take_while, prefix_len, cons_option}
use Rattle.std.specs.Str.{bytes_eq}
use Rattle.std.proofs.Common.{inl, inr, arith, refl, sym, ap, subst, ◌∙◌}
use Rattle.std.proofs.lemmas.Bool.{cases_Bool, eqb-true}
use Rattle.std.proofs.lemmas.List.{length-append, length-drop}
use Rattle.std.proofs.lemmas.List.Sums.{sum-map, sum_by-cons, sum_by-append}
use Rattle.std.proofs.lemmas.Str.{length-encode, len_utf8_bounds}
use denote.Hole.Carrier as H
use Rattle.cal_base.specs.declared.element.Element.{Element}
use Rattle.cal_base.specs.declared.element.Item.{Item, Item-F}
use Rattle.cal_base.specs.declared.element.Item as I
use Rattle.cal_base.specs.declared.element.Item.TheFolds.{fold-Item, fold-roll-Item, fold_out-Element, fold_out-Item}
use Rattle.cal_base.specs.declared.element.Item.TheVariants.{Element as Inner, Text, rolls-Element}
use Rattle.cal_base.specs.Texts.Octets.{line_feed, carriage_return}
use Rattle.cal_base.specs.Lines.ContentLines.{onto_first}
use Rattle.cal_base.specs.Xml.XmlNames.{QName, qname_of, are_blanks, is_xml_text, is_xml_character}
use Rattle.cal_base.specs.Xml.XmlMarkup.{Tag, WrittenAttribute, Markup, opening, closing, character, section, reference, skipped, is_quote, quoted_pieces, attribute_of, attributes_of, attribute_name, holds, begins, ends, inside, tag_of, opening_of, closing_of, comment_of, section_of, instruction_of, reference_of, markup_of, is_target, is_reference, is_not_blank, without_last_blanks, number_of_digits, referenced_number, entities, entity_octets, character_octets, referenced, markups}
use Rattle.cal_base.specs.Xml.XmlScopes.{Scope, outer_scope, piece_octets, value_octets, attribute_space, attribute_in, declarations, is_no_declaration}
use Rattle.std.proofs.lemmas.Option.{same_Some}
use Rattle.cal_base.specs.Xml.XmlFaults.{is_declaration, mark_size}
use Rattle.cal_base.specs.Xml.XmlBodies.{Part, said, held, text_items, items_behind, with_line_feeds, Level, element_of_tag, with_part, with_opening, with_tag, levels_before, first_element, outermost, without_declaration, IsBody}
use Rattle.cal_base.specs.Xml.XmlSizes.{value_size, item_size_step, element_size_step, element_size}
use Rattle.cal_base.proofs.Xml.XmlNameLemmas.{both_true, qname_of-nil}
use Rattle.cal_base.proofs.Xml.XmlTagLemmas.{pick, skip, given, bind_is, map_is, take_drop_length, shape}
use Rattle.cal_base.proofs.Xml.XmlMarkupLemmas.{concat-markups}

-- One level at a time

abbrev item_size : Item → ℕ
item_size = fold-Item ℕ ℕ item_size_step element_size_step

element_size-out : (element : Element) → element_size element ≡ 4 + sum_by value_size element.attrs + sum_by item_size element.items
unfolding H.out
element_size-out element = fold_out-Element ℕ ℕ item_size_step element_size_step element ∙ ap (λ items. 4 + sum_by value_size element.attrs + items) (sum-map item_size element.items)

item_size-Text : (text : List ℕ) → item_size (Text text) ≡ length text
unfolding I.out-Item I.roll-Item H.out H.roll
item_size-Text text = fold_out-Item ℕ ℕ item_size_step element_size_step (Text text)

item_size-Element : (element : Element) → item_size (Inner element) ≡ element_size element
item_size-Element element = ap item_size (sym (rolls-Element element)) ∙ fold-roll-Item ℕ ℕ item_size_step element_size_step (Item-F.Element element)

-- Parts

part_size : Part → ℕ
part_size (said text) = length text
part_size (held element) = element_size element

parts_size : List Part → ℕ
parts_size [] = 0
parts_size (part ∷ parts) = part_size part + parts_size parts

text_items-size : (text : List ℕ) → sum_by item_size (text_items text) ≡ length text
text_items-size [] = refl
text_items-size (octet ∷ text) = omega (arith, sum_by-cons item_size (Text (octet ∷ text)) [], item_size-Text (octet ∷ text))

-- items hold what the parts hold that they were made of
items_behind-size : (text : List ℕ) (parts : List Part) → sum_by item_size (items_behind text parts) ≡ length text + parts_size parts
unfolding parts_size part_size
items_behind-size text [] = text_items-size text ∙ omega arith
items_behind-size text (said more ∷ parts) = items_behind-size (text ++ more) parts ∙ omega (arith, length-append text more)
items_behind-size text (held element ∷ parts) =
    sum_by-append item_size (text_items text) (Inner element ∷ items_behind [] parts)
    ∙ omega (arith, text_items-size text, sum_by-cons item_size (Inner element) (items_behind [] parts), item_size-Element element, items_behind-size [] parts)

-- Markups

written_size : WrittenAttribute → ℕ
written_size attribute = length attribute.value

-- what a markup brings: an element's four are those of its end tag, where it has one
markup_weight : Markup → ℕ
markup_weight (opening tag) = sum_by written_size tag.attributes + (if tag.is_empty then 4 else 0)
markup_weight (closing name) = 4
markup_weight (character text) = length text
markup_weight (section text) = length text
markup_weight (reference name) = length name + 2
markup_weight skipped = 0

parts_length : List (List ℕ) → ℕ
parts_length [] = 0
parts_length (part ∷ parts) = length part + parts_length parts

onto_first-length : (octet : ℕ) (parts : List (List ℕ)) → parts_length (onto_first octet parts) ≡ suc (parts_length parts)
unfolding parts_length
onto_first-length octet [] = omega arith
onto_first-length octet (part ∷ parts) = omega arith

quoted_pieces-length : (quote : Option ℕ) (text : List ℕ) → parts_length (quoted_pieces quote text) ≤ length text
unfolding parts_length
quoted_pieces-length quote [] = omega arith
quoted_pieces-length None (octet ∷ text) = elim (is_quote octet) as (λ test. parts_length (elim test [ true ↦ [] ∷ quoted_pieces (Some octet) text | false ↦ onto_first octet (quoted_pieces None text) ]) ≤ suc (length text)) [
  | true ↦ omega (arith, quoted_pieces-length (Some octet) text)
  | false ↦ omega (arith, quoted_pieces-length None text, onto_first-length octet (quoted_pieces None text))
]
quoted_pieces-length (Some quote) (octet ∷ text) = elim (octet == quote) as (λ test. parts_length (elim test [ true ↦ [] ∷ quoted_pieces None text | false ↦ onto_first octet (quoted_pieces (Some quote) text) ]) ≤ suc (length text)) [
  | true ↦ omega (arith, quoted_pieces-length None text)
  | false ↦ omega (arith, quoted_pieces-length (Some quote) text, onto_first-length octet (quoted_pieces (Some quote) text))
]

both_of : (found : Option WrittenAttribute) (others : Option (List WrittenAttribute)) (attributes : List WrittenAttribute) →
    option_and_then (λ attribute. option_map (λ more. attribute ∷ more) others) found ≡ Some attributes →
    (attribute : WrittenAttribute) × (more : List WrittenAttribute) × (found ≡ Some attribute) × (others ≡ Some more) × (attributes ≡ attribute ∷ more)
both_of None others attributes e = absurd cc
both_of (Some attribute) None attributes e = absurd cc
both_of (Some attribute) (Some more) attributes e = (attribute, more, refl, refl, same_Some attributes (attribute ∷ more) (sym e))

attribute_of-length : (before value : List ℕ) (attribute : WrittenAttribute) → attribute_of before value ≡ Some attribute → written_size attribute ≡ length value
unfolding written_size
attribute_of-length before value attribute e = by_test (holds (codes "<") value) (attribute_name before) e
  where
    by_test : (test : Bool) (name : Option QName) → (if test then None else option_map (λ found. record { name = found; value = value }) name) ≡ Some attribute → length attribute.value ≡ length value
    by_test true name h = absurd cc
    by_test false None h = absurd cc
    by_test false (Some name) h = let same : record { name = name; value = value } ≡ attribute = same_Some _ attribute h in ap (λ (found : WrittenAttribute). length found.value) (sym same)

attributes_of-length : (parts : List (List ℕ)) (attributes : List WrittenAttribute) → attributes_of parts ≡ Some attributes → sum_by written_size attributes ≤ parts_length parts
unfolding parts_length
attributes_of-length [] attributes e = absurd cc
attributes_of-length (last ∷ []) attributes e = none (are_blanks last) e
  where
    none : (test : Bool) → ◌≡◌ {A = Option (List WrittenAttribute)} (if test then Some [] else None) (Some attributes) → sum_by written_size attributes ≤ length last + 0
    none true h = let same : [] ≡ attributes = same_Some [] attributes h in subst (λ (those : List WrittenAttribute). sum_by written_size those ≤ length last + 0) same (omega arith)
    none false h = absurd cc
attributes_of-length (before ∷ value ∷ parts) attributes e =
    let (attribute, more, found, others, same) = both_of (attribute_of before value) (attributes_of parts) attributes e in
    subst (λ (those : List WrittenAttribute). sum_by written_size those ≤ length before + (length value + parts_length parts)) (sym same)
    (omega (arith, sum_by-cons written_size attribute more, attribute_of-length before value attribute found, attributes_of-length parts more others))

-- What each markup brings, it has in octets

qname_of-length : (name : List ℕ) (qname : QName) → qname_of name ≡ Some qname → 1 ≤ length name
qname_of-length [] qname e = absurd (qname_of-nil qname e)
qname_of-length (octet ∷ name) qname e = omega arith

last_blanks-length : (name : List ℕ) (qname : QName) → qname_of (without_last_blanks name) ≡ Some qname → 1 ≤ length name
last_blanks-length [] qname e = absurd (qname_of-nil qname e)
last_blanks-length (octet ∷ name) qname e = omega arith

shape-length : (front end text found : List ℕ) → begins text front ≡ true → inside (length front) end text ≡ Some found → length text ≡ length front + (length found + length end)
shape-length front end text found b e = ap (λ (octets : List ℕ). length octets) (shape front end text found b e) ∙ omega (arith, length-append front (found ++ end), length-append found end)

closing-weight : (text : List ℕ) (markup : Markup) → begins text (codes "</") ≡ true → closing_of text ≡ Some markup → markup_weight markup ≤ length text
unfolding markup_weight
closing-weight text markup b e =
    let (name, found, next) = bind_is _ (inside 2 (codes ">") text) markup e in
    let (qname, named, same) = map_is closing (qname_of (without_last_blanks name)) markup next in
    subst (λ (those : Markup). markup_weight those ≤ length text) same
    (omega (arith, shape-length (codes "</") (codes ">") text name b found, last_blanks-length name qname named))

tag_weight : (is_empty : Bool) (attributes : List WrittenAttribute) (name rest inner : ℕ) → sum_by written_size attributes ≤ rest → 1 ≤ name → name + rest ≡ inner →
    sum_by written_size attributes + (if is_empty then 4 else 0) ≤ inner + (if is_empty then 3 else 0)
tag_weight true attributes name rest inner h k e = omega arith
tag_weight false attributes name rest inner h k e = omega arith

inner-weight : (is_empty : Bool) (inner : List ℕ) (markup : Markup) → tag_of is_empty inner ≡ Some markup → markup_weight markup ≤ length inner + (if is_empty then 3 else 0)
unfolding markup_weight
inner-weight is_empty inner markup e =
    let name = take_while is_not_blank inner in
    let rest = drop (length name) inner in
    let (qname, named, next) = bind_is _ (qname_of name) markup e in
    let (attributes, found, same) = map_is _ (attributes_of (quoted_pieces None rest)) markup next in
    let pieces_fit : sum_by written_size attributes ≤ parts_length (quoted_pieces None rest) = attributes_of-length (quoted_pieces None rest) attributes found in
    let fits : sum_by written_size attributes ≤ length rest = omega (arith, pieces_fit, quoted_pieces-length None rest) in
    let whole : length name + length rest ≡ length inner = sym (length-append name rest) ∙ ap (λ (octets : List ℕ). length octets) (take_drop_length (prefix_len is_not_blank inner) inner) in
    subst (λ (those : Markup). markup_weight those ≤ length inner + (if is_empty then 3 else 0)) same
    (tag_weight is_empty attributes (length name) (length rest) (length inner) fits (qname_of-length name qname named) whole)

opening-weight : (text : List ℕ) (markup : Markup) → begins text (codes "<") ≡ true → opening_of text ≡ Some markup → markup_weight markup ≤ length text
opening-weight text markup b e = by_end (ends text (codes "/>")) e
  where
    by_end : (test : Bool) → (if test then option_and_then (tag_of true) (inside 1 (codes "/>") text) else option_and_then (tag_of false) (inside 1 (codes ">") text)) ≡ Some markup → markup_weight markup ≤ length text
    by_end true h =
        let (inner, found, made) = bind_is (tag_of true) (inside 1 (codes "/>") text) markup h in
        omega (arith, shape-length (codes "<") (codes "/>") text inner b found, inner-weight true inner markup made)
    by_end false h =
        let (inner, found, made) = bind_is (tag_of false) (inside 1 (codes ">") text) markup h in
        omega (arith, shape-length (codes "<") (codes ">") text inner b found, inner-weight false inner markup made)

section-weight : (text : List ℕ) (markup : Markup) → begins text (codes "<![CDATA[") ≡ true → section_of text ≡ Some markup → markup_weight markup ≤ length text
unfolding markup_weight
section-weight text markup b e =
    let (found, there, same) = map_is section (inside 9 (codes "]]>") text) markup e in
    subst (λ (those : Markup). markup_weight those ≤ length text) same (omega (arith, shape-length (codes "<![CDATA[") (codes "]]>") text found b there))

skipped_unless : (test : Bool) (markup : Markup) (size : ℕ) → (if test then None else Some skipped) ≡ Some markup → markup_weight markup ≤ size
unfolding markup_weight
skipped_unless true markup size e = absurd cc
skipped_unless false markup size e = subst (λ (those : Markup). markup_weight those ≤ size) (same_Some skipped markup e) (omega arith)

skipped_where : (test : Bool) (markup : Markup) (size : ℕ) → (if test then Some skipped else None) ≡ Some markup → markup_weight markup ≤ size
unfolding markup_weight
skipped_where true markup size e = subst (λ (those : Markup). markup_weight those ≤ size) (same_Some skipped markup e) (omega arith)
skipped_where false markup size e = absurd cc

comment-weight : (text : List ℕ) (markup : Markup) → comment_of text ≡ Some markup → markup_weight markup ≤ length text
comment-weight text markup e =
    let (comment, there, next) = bind_is _ (inside 4 (codes "-->") text) markup e in
    skipped_unless (holds (codes "--") (comment ++ codes "-")) markup (length text) next

instruction-weight : (text : List ℕ) (markup : Markup) → instruction_of text ≡ Some markup → markup_weight markup ≤ length text
instruction-weight text markup e =
    let (instruction, there, next) = bind_is _ (inside 2 (codes "?>") text) markup e in
    skipped_where (is_target (take_while is_not_blank instruction)) markup (length text) next

reference-weight : (text : List ℕ) (markup : Markup) → begins text (codes "&") ≡ true → reference_of text ≡ Some markup → markup_weight markup ≤ length text
unfolding markup_weight
reference-weight text markup b e =
    let (name, there, next) = bind_is _ (inside 1 (codes ";") text) markup e in
    let (test, same) = given (is_reference name) (reference name) markup next in
    subst (λ (those : Markup). markup_weight those ≤ length text) same (omega (arith, shape-length (codes "&") (codes ";") text name b there))

markup-weight : (text : List ℕ) (markup : Markup) → markup_of text ≡ Some markup → markup_weight markup ≤ length text
unfolding markup_weight
markup-weight text markup e = elim (cases_Bool (is_xml_text text)) [
  | inr other ↦ let none : None ≡ Some markup = sym (pick _ _ _ (ap not other)) ∙ e in absurd cc
  | inl characters ↦
      let e0 = sym (skip _ _ _ (ap not characters)) ∙ e in
      elim (cases_Bool (begins text (codes "<!--"))) [
        | inl comment ↦ comment-weight text markup (sym (pick _ _ _ comment) ∙ e0)
        | inr no_comment ↦
            let e1 = sym (skip _ _ _ no_comment) ∙ e0 in
            elim (cases_Bool (begins text (codes "<![CDATA["))) [
              | inl sections ↦ section-weight text markup sections (sym (pick _ _ _ sections) ∙ e1)
              | inr no_section ↦
                  let e2 = sym (skip _ _ _ no_section) ∙ e1 in
                  elim (cases_Bool (begins text (codes "<?"))) [
                    | inl instruction ↦ instruction-weight text markup (sym (pick _ _ _ instruction) ∙ e2)
                    | inr no_instruction ↦
                        let e3 = sym (skip _ _ _ no_instruction) ∙ e2 in
                        elim (cases_Bool (begins text (codes "</"))) [
                          | inl closes ↦ closing-weight text markup closes (sym (pick _ _ _ closes) ∙ e3)
                          | inr no_closing ↦
                              let e4 = sym (skip _ _ _ no_closing) ∙ e3 in
                              elim (cases_Bool (begins text (codes "<"))) [
                                | inl opens ↦ opening-weight text markup opens (sym (pick _ _ _ opens) ∙ e4)
                                | inr no_opening ↦
                                    let e5 = sym (skip _ _ _ no_opening) ∙ e4 in
                                    elim (cases_Bool (begins text (codes "&"))) [
                                      | inl refers ↦ reference-weight text markup refers (sym (pick _ _ _ refers) ∙ e5)
                                      | inr no_reference ↦
                                          let e6 = sym (skip _ _ _ no_reference) ∙ e5 in
                                          elim (cases_Bool (begins text (codes "]]>"))) [
                                            | inl stray ↦ let none : None ≡ Some markup = sym (pick _ _ _ stray) ∙ e6 in absurd cc
                                            | inr plain ↦
                                                let same : character text ≡ markup = same_Some _ markup (sym (skip _ _ _ plain) ∙ e6) in
                                                subst (λ (those : Markup). markup_weight those ≤ length text) same (omega arith)
                                          ]
                                    ]
                              ]
                        ]
                  ]
            ]
      ]
]

-- Values

number_of_digits-length : (base : ℕ) (digits : List ℕ) (number : ℕ) → number_of_digits base digits ≡ Some number → 1 ≤ length digits
number_of_digits-length base [] number e = absurd cc
number_of_digits-length base (digit ∷ digits) number e = omega arith

referenced_number-length : (name : List ℕ) (number : ℕ) → referenced_number name ≡ Some number → 2 ≤ length name
referenced_number-length name number e = elim (cases_Bool (begins name (codes "#x"))) [
  | inl hexadecimal ↦ omega (arith, length-drop 2 name, number_of_digits-length 16 (drop 2 name) number (sym (pick _ _ _ hexadecimal) ∙ e))
  | inr other ↦
      let e1 = sym (skip _ _ _ other) ∙ e in
      elim (cases_Bool (begins name (codes "#"))) [
        | inl decimal ↦ omega (arith, length-drop 1 name, number_of_digits-length 10 (drop 1 name) number (sym (pick _ _ _ decimal) ∙ e1))
        | inr none ↦ let no : None ≡ Some number = sym (skip _ _ _ none) ∙ e1 in absurd cc
      ]
]

find_passes : {X : Type 0} (test other : X → Bool) (xs : List X) (x : X) → list_all other xs ≡ true → find test xs ≡ Some x → other x ≡ true
find_passes test other [] x h e = absurd cc
find_passes test other (first ∷ xs) x h e =
    let each = both_true (other first) _ h in
    elim (cases_Bool (test first)) [
      | inl here ↦ let same : first ≡ x = same_Some first x (sym (pick _ _ _ here) ∙ e) in subst (λ those. other those ≡ true) same each.0
      | inr later ↦ find_passes test other xs x each.1 (sym (skip _ _ _ later) ∙ e)
    ]

is_one_octet : List ℕ × List ℕ → Bool
is_one_octet entity = length entity.1 == 1

entity_octets-length : (name octets : List ℕ) → entity_octets name ≡ Some octets → length octets ≡ 1
unfolding is_one_octet
entity_octets-length name octets e =
    let (entity, found, same) = map_is _ (find (λ (entity : List ℕ × List ℕ). bytes_eq entity.0 name) entities) octets e in
    let single : is_one_octet entity ≡ true = find_passes (λ (entry : List ℕ × List ℕ). bytes_eq entry.0 name) is_one_octet entities entity refl found in
    ap (λ (text : List ℕ). length text) (sym same) ∙ eqb-true (length entity.1) 1 single

referenced-length : (name octets : List ℕ) → referenced name ≡ Some octets → length octets ≤ length name + 2
referenced-length name octets e = by_number (referenced_number name) refl e
  where
    by_number : (number : Option ℕ) → referenced_number name ≡ number → elim number [ None ↦ entity_octets name | Some found ↦ character_octets found ] ≡ Some octets → length octets ≤ length name + 2
    by_number None n h = omega (arith, entity_octets-length name octets h)
    by_number (Some number) n h =
        let (test, same) = given (is_xml_character number) (encode_utf8 number) octets h in
        let size : length octets ≡ length (encode_utf8 number) = ap (λ (text : List ℕ). length text) (sym same) in
        omega (arith, size, length-encode number, (len_utf8_bounds number).1, referenced_number-length name number n)

unwrapped-length : (found : Option (List ℕ)) (other : List ℕ) (size : ℕ) → ((octets : List ℕ) → found ≡ Some octets → length octets ≤ size) → length other ≤ size → length (unwrap_or found other) ≤ size
unwrapped-length None other size h k = k
unwrapped-length (Some octets) other size h k = h octets refl

piece_octets-length : (piece : List ℕ) → length (piece_octets piece) ≤ length piece
unfolding markup_weight
piece_octets-length piece = by_markup (markup_of piece) refl
  where
    weight : (markup : Markup) → markup_of piece ≡ Some markup → markup_weight markup ≤ length piece
    weight markup e = markup-weight piece markup e

    by_markup : (found : Option Markup) → markup_of piece ≡ found → length {A = ℕ} (elim found [
      | None ↦ piece
      | Some (opening tag) ↦ piece
      | Some (closing name) ↦ piece
      | Some (character text) ↦ piece
      | Some (section text) ↦ piece
      | Some (reference name) ↦ unwrap_or (referenced name) piece
      | Some skipped ↦ piece
    ]) ≤ length piece
    by_markup None e = omega arith
    by_markup (Some (opening tag)) e = omega arith
    by_markup (Some (closing name)) e = omega arith
    by_markup (Some (character text)) e = omega arith
    by_markup (Some (section text)) e = omega arith
    by_markup (Some (reference name)) e =
        let size : length name + 2 ≤ length piece = weight (reference name) e in
        unwrapped-length (referenced name) piece (length piece) (λ octets h. omega (arith, size, referenced-length name octets h)) (omega arith)
    by_markup (Some skipped) e = omega arith

pieces_octets-length : (pieces : List (List ℕ)) → length (flat_map piece_octets pieces) ≤ length (concat pieces)
pieces_octets-length [] = omega arith
pieces_octets-length (piece ∷ pieces) =
    omega (arith, length-append (piece_octets piece) (flat_map piece_octets pieces), length-append piece (concat pieces), piece_octets-length piece, pieces_octets-length pieces)

value_octets-length : (value : List ℕ) → length (value_octets value) ≤ length value
value_octets-length value = omega (arith, pieces_octets-length (markups value), ap (λ (octets : List ℕ). length octets) (concat-markups value))

filtered-size : (test : WrittenAttribute → Bool) (attributes : List WrittenAttribute) → sum_by written_size (filter test attributes) ≤ sum_by written_size attributes
filtered-size test [] = omega arith
filtered-size test (attribute ∷ attributes) = elim (cases_Bool (test attribute)) [
  | inl kept ↦ rw (pick (test attribute) (attribute ∷ filter test attributes) (filter test attributes) kept)
      (omega (arith, sum_by-cons written_size attribute (filter test attributes), sum_by-cons written_size attribute attributes, filtered-size test attributes))
  | inr left ↦ rw (skip (test attribute) (attribute ∷ filter test attributes) (filter test attributes) left)
      (omega (arith, sum_by-cons written_size attribute attributes, filtered-size test attributes))
]

resolved_one : (scope : Scope) (attribute : WrittenAttribute) (attributes : List WrittenAttribute) → sum_by value_size (filter_map (attribute_in scope) attributes) ≤ sum_by written_size attributes → (space : Option (List ℕ)) →
    sum_by value_size (cons_option (option_map (λ found. record { space = found; name = attribute.name.local; value = value_octets attribute.value }) space) (filter_map (attribute_in scope) attributes)) ≤ sum_by written_size (attribute ∷ attributes)
unfolding written_size
resolved_one scope attribute attributes more None = omega (arith, sum_by-cons written_size attribute attributes, more)
resolved_one scope attribute attributes more (Some space) = omega (
  arith,
  sum_by-cons written_size attribute attributes,
  more,
  value_octets-length attribute.value,
  sum_by-cons value_size (record { space = space; name = attribute.name.local; value = value_octets attribute.value }) (filter_map (attribute_in scope) attributes),
)

resolved-size : (scope : Scope) (attributes : List WrittenAttribute) → sum_by value_size (filter_map (attribute_in scope) attributes) ≤ sum_by written_size attributes
resolved-size scope [] = omega arith
resolved-size scope (attribute ∷ attributes) = resolved_one scope attribute attributes (resolved-size scope attributes) (attribute_space scope attribute.name)

-- Levels

with_line_feeds-length : (text : List ℕ) → length (with_line_feeds text) ≤ length text
with_line_feeds-length [] = omega arith
with_line_feeds-length (octet ∷ []) = elim (octet == carriage_return) as (λ test. length (if test then line_feed ∷ [] else octet ∷ []) ≤ 1) [
  | true ↦ omega arith
  | false ↦ omega arith
]
with_line_feeds-length (octet ∷ next ∷ text) =
    let one : length (if octet == carriage_return then (if next == line_feed then [] else line_feed ∷ []) else octet ∷ []) ≤ 1 = by_tests (octet == carriage_return) (next == line_feed) in
    omega (arith, length-append (if octet == carriage_return then (if next == line_feed then [] else line_feed ∷ []) else octet ∷ []) (with_line_feeds (next ∷ text)), one, with_line_feeds-length (next ∷ text))
  where
    by_tests : (returns feeds : Bool) → length (if returns then (if feeds then [] else line_feed ∷ []) else octet ∷ []) ≤ 1
    by_tests true true = omega arith
    by_tests true false = omega arith
    by_tests false feeds = omega arith

-- whatever the scopes, the levels hold no more than so many, with four for each
Fits : List Level → ℕ → Type 0
Fits [] size = Unit {0}
Fits (level ∷ levels) size = (own rest : ℕ) × ((scope : Scope) → parts_size (level scope) ≤ own) × (4 + own + rest ≤ size) × Fits levels rest

Fits-more : (levels : List Level) (size more : ℕ) → size ≤ more → Fits levels size → Fits levels more
unfolding Fits
Fits-more [] size more h f = tt
Fits-more (level ∷ levels) size more h (own, rest, held_in, fits, behind) = (own, rest, held_in, omega (arith, h, fits), behind)

Fits-with_part : (part : Scope → Part) (levels : List Level) (size more : ℕ) → ((scope : Scope) → part_size (part scope) ≤ more) → Fits levels size → Fits (with_part part levels) (more + size)
unfolding Fits parts_size
Fits-with_part part [] size more h f = tt
Fits-with_part part (level ∷ levels) size more h (own, rest, held_in, fits, behind) =
    (more + own, rest, (λ scope. omega (arith, h scope, held_in scope)), omega (arith, fits), behind)

-- an element holds what its tag brings, what its level holds, and four
element_of_tag-size : (tag : Tag) (level : Level) (around : Scope) (own : ℕ) → ((scope : Scope) → parts_size (level scope) ≤ own) → element_size (element_of_tag tag level around) ≤ 4 + (sum_by written_size tag.attributes + own)
element_of_tag-size tag level around own h =
    let scope = declarations tag ++ around in
    omega (
      arith,
      element_size-out (element_of_tag tag level around),
      items_behind-size [] (level scope),
      h scope,
      resolved-size scope (filter is_no_declaration tag.attributes),
      filtered-size is_no_declaration tag.attributes,
    )

-- the weights of some markup
weights : List Markup → ℕ
weights [] = 0
weights (markup ∷ more) = markup_weight markup + weights more

opened : (tag : Tag) (levels : List Level) (size : ℕ) → Fits levels size → Fits (with_tag tag levels) (markup_weight (opening tag) + size)
unfolding Fits markup_weight parts_size part_size
opened tag levels size f = by_test tag.is_empty levels f
  where
    around_tag : (level : Level) (own : ℕ) → ((scope : Scope) → parts_size (level scope) ≤ own) → (scope : Scope) → element_size (element_of_tag tag level scope) ≤ 4 + (sum_by written_size tag.attributes + own)
    around_tag level own h scope = element_of_tag-size tag level scope own h

    by_test : (empty : Bool) (those : List Level) → Fits those size → Fits (with_opening tag (if empty then (λ scope. []) ∷ those else those)) (sum_by written_size tag.attributes + (if empty then 4 else 0) + size)
    by_test true those g =
        Fits-more (with_opening tag ((λ scope. []) ∷ those)) (4 + (sum_by written_size tag.attributes + 0) + size) _ (omega arith)
        (Fits-with_part (λ scope. held (element_of_tag tag (λ inner. []) scope)) those size (4 + (sum_by written_size tag.attributes + 0)) (around_tag (λ inner. []) 0 (λ scope. omega arith)) g)
    by_test false [] g = tt
    by_test false (level ∷ those) (own, rest, held_in, fits, behind) =
        Fits-more (with_opening tag (level ∷ those)) (4 + (sum_by written_size tag.attributes + own) + rest) _ (omega (arith, fits))
        (Fits-with_part (λ scope. held (element_of_tag tag level scope)) those rest (4 + (sum_by written_size tag.attributes + own)) (around_tag level own held_in) behind)

fits_markup : (markup : Markup) (more : List Markup) (size : ℕ) → Fits (levels_before more) size → ((name : List ℕ) → markup ≡ reference name → length (unwrap_or (referenced name) []) ≤ length name + 2) → Fits (levels_before (markup ∷ more)) (markup_weight markup + size)
unfolding Fits markup_weight parts_size part_size
fits_markup (opening tag) more size f r = opened tag (levels_before more) size f
fits_markup (closing name) more size f r = (0, size, (λ scope. omega arith), omega arith, f)
fits_markup (character text) more size f r = Fits-with_part (λ scope. said (with_line_feeds text)) (levels_before more) size (length text) (λ scope. with_line_feeds-length text) f
fits_markup (section text) more size f r = Fits-with_part (λ scope. said (with_line_feeds text)) (levels_before more) size (length text) (λ scope. with_line_feeds-length text) f
fits_markup (reference name) more size f r = Fits-with_part (λ scope. said (unwrap_or (referenced name) [])) (levels_before more) size (length name + 2) (λ scope. r name refl) f
fits_markup skipped more size f r = Fits-more (levels_before more) size (0 + size) (omega arith) f

fits_all : (markup : List Markup) → Fits (levels_before markup) (weights markup + 4)
unfolding weights Fits parts_size
fits_all [] = (0, 0, (λ scope. omega arith), omega arith, tt)
fits_all (first ∷ more) =
    Fits-more (levels_before (first ∷ more)) (markup_weight first + (weights more + 4)) _ (omega arith)
    (fits_markup first more (weights more + 4) (fits_all more) (λ name e. unwrapped-length (referenced name) [] (length name + 2) (referenced-length name) (omega arith)))

first_element-size : (parts : List Part) (element : Element) → first_element parts ≡ Some element → element_size element ≤ parts_size parts
unfolding parts_size part_size
first_element-size [] element e = absurd cc
first_element-size (said text ∷ parts) element e = omega (arith, first_element-size parts element e)
first_element-size (held first ∷ parts) element e = subst (λ (those : Element). element_size those ≤ element_size first + parts_size parts) (same_Some first element e) (omega arith)

outermost-size : (levels : List Level) (size : ℕ) (element : Element) → Fits levels (size + 4) → outermost levels ≡ Some element → element_size element ≤ size
unfolding Fits
outermost-size [] size element f e = absurd cc
outermost-size (level ∷ levels) size element (own, rest, held_in, fits, behind) e =
    omega (arith, first_element-size (level outer_scope) element e, held_in outer_scope, fits)

-- what the markups bring, they have in octets

one_more_text : (text : List ℕ) (texts : List (List ℕ)) (found : Option Markup) → markup_of text ≡ found → weights (filter_map markup_of texts) ≤ length (concat texts) →
    weights (cons_option found (filter_map markup_of texts)) ≤ length (text ++ concat texts)
unfolding weights
one_more_text text texts None e h = omega (arith, h, length-append text (concat texts))
one_more_text text texts (Some markup) e h = omega (arith, h, length-append text (concat texts), markup-weight text markup e)

weights-length : (texts : List (List ℕ)) → weights (filter_map markup_of texts) ≤ length (concat texts)
unfolding weights
weights-length [] = omega arith
weights-length (text ∷ texts) = one_more_text text texts (markup_of text) refl (weights-length texts)

without_declaration-length : (texts : List (List ℕ)) → length (concat (without_declaration texts)) ≤ length (concat texts)
without_declaration-length [] = omega arith
without_declaration-length (text ∷ texts) = by_test (is_declaration text)
  where
    by_test : (test : Bool) → length (concat (if test then texts else text ∷ texts)) ≤ length (text ++ concat texts)
    by_test true = omega (arith, length-append text (concat texts))
    by_test false = omega arith

-- four for each element, the octets of text and those of values of attributes come to at most the octets of the body
pub IsBody-size : (octets : List ℕ) (element : Element) → IsBody octets element → element_size element ≤ length octets
IsBody-size octets element body =
    let rest = drop (mark_size octets) octets in
    let texts = without_declaration (markups rest) in
    let holds_all : element_size element ≤ weights (filter_map markup_of texts) =
    outermost-size (levels_before (filter_map markup_of texts)) (weights (filter_map markup_of texts)) element (fits_all (filter_map markup_of texts)) body.spelled in
    let whole : length (concat (markups rest)) ≡ length rest = ap (λ (those : List ℕ). length those) (concat-markups rest) in
    omega (arith, holds_all, weights-length texts, without_declaration-length (markups rest), whole, length-drop (mark_size octets) octets)
