-- What was read of a tag: its name is a name, and the values of its attributes are XML text.
use Rattle.std.proofs.Common.{◌≡◌, ℕ, suc, ◌<◌, ◌≤◌, Bool, true, false, List, [], ◌∷◌, ◌++◌, length, take, drop, Option, Some, None, inl, inr, arith, sym, ap, ◌∙◌, append_assoc, length-append}
use Rattle.std.specs.Prelude.{not, ◌==◌, codes, option_and_then, if◌then◌else◌}
use Rattle.std.specs.List.{take_while, prefix_len}
use Rattle.std.proofs.lemmas.Bool.{cases_Bool}
use Rattle.std.proofs.lemmas.Option.{same_Some}
use Rattle.cal_base.specs.Lines.ContentLines.{onto_first}
use Rattle.cal_base.specs.Xml.XmlNames.{qname_of, is_plain_name, is_xml_text}
use Rattle.cal_base.specs.Xml.XmlMarkup.{WrittenAttribute, Tag, Markup, opening, closing, character, section, skipped, begins, ends, inside, markup_of, comment_of, section_of, instruction_of, closing_of, opening_of, reference_of, tag_of, quoted_pieces, attribute_of, attributes_of, is_quote, is_not_blank, without_last_blanks}
use Rattle.cal_base.specs.Xml.XmlFaults.{is_opening}
use Rattle.cal_base.proofs.Xml.XmlTagLemmas.{pick, skip, given, bind_is, map_is, inside_is, take_drop_length}
use Rattle.dav_write.proofs.ReadBack.SaidTexts.{ascii_split}
use Rattle.dav_write.proofs.ReadBack.Pieces.{local_plain, values_fine}
use Rattle.dav_write.proofs.ReadBack.TagShape.{attributes_fine}
use Rattle.dav_write.proofs.ReadBack.TagFacts.{TagParts}
use Rattle.dav_write.proofs.ReadBack.ReferencedValues.{value_fine}

-- Only a tag that opens is read as one

skipped_if : (test : Bool) (markup : Markup) → (if test then Some skipped else None) ≡ Some markup → is_opening markup ≡ false
skipped_if true markup e = ap is_opening (sym (same_Some skipped markup e))
skipped_if false markup e = absurd cc

skipped_unless : (test : Bool) (markup : Markup) → (if test then None else Some skipped) ≡ Some markup → is_opening markup ≡ false
skipped_unless false markup e = ap is_opening (sym (same_Some skipped markup e))
skipped_unless true markup e = absurd cc

comment_no : (text : List ℕ) (markup : Markup) → comment_of text ≡ Some markup → is_opening markup ≡ false
comment_no text markup e =
    let (comment, found, next) = bind_is _ (inside 4 (codes "-->") text) markup e in
    skipped_unless _ markup next

instruction_no : (text : List ℕ) (markup : Markup) → instruction_of text ≡ Some markup → is_opening markup ≡ false
instruction_no text markup e =
    let (instruction, found, next) = bind_is _ (inside 2 (codes "?>") text) markup e in
    skipped_if _ markup next

closing_no : (text : List ℕ) (markup : Markup) → closing_of text ≡ Some markup → is_opening markup ≡ false
closing_no text markup e =
    let (name, found, next) = bind_is _ (inside 2 (codes ">") text) markup e in
    let (qname, named, same) = map_is closing (qname_of (without_last_blanks name)) markup next in
    ap is_opening (sym same)

section_no : (text : List ℕ) (markup : Markup) → section_of text ≡ Some markup → is_opening markup ≡ false
section_no text markup e =
    let (content, found, same) = map_is section (inside 9 (codes "]]>") text) markup e in
    ap is_opening (sym same)

reference_no : (text : List ℕ) (markup : Markup) → reference_of text ≡ Some markup → is_opening markup ≡ false
reference_no text markup e =
    let (name, found, next) = bind_is _ (inside 1 (codes ";") text) markup e in
    let (test, same) = given _ _ markup next in
    ap is_opening (sym same)

character_no : (text : List ℕ) (test : Bool) (markup : Markup) → (if test then None else Some (character text)) ≡ Some markup → is_opening markup ≡ false
character_no text true markup e = absurd cc
character_no text false markup e = ap is_opening (sym (same_Some (character text) markup e))

no_tag : (tag : Tag) → is_opening (opening tag) ≡ false → ⊥
no_tag tag e = cc

pub opening_is : (text : List ℕ) (tag : Tag) → markup_of text ≡ Some (opening tag) → (is_xml_text text ≡ true) × (opening_of text ≡ Some (opening tag))
opening_is text tag e = elim (cases_Bool (is_xml_text text)) [
  | inr other ↦ let none : None ≡ Some (opening tag) = sym (pick _ _ _ (ap not other)) ∙ e in absurd cc
  | inl fine ↦
      let e0 = sym (skip _ _ _ (ap not fine)) ∙ e in
      elim (cases_Bool (begins text (codes "<!--"))) [
        | inl comment ↦ absurd (no_tag tag (comment_no text (opening tag) (sym (pick _ _ _ comment) ∙ e0)))
        | inr no_comment ↦
            let e1 = sym (skip _ _ _ no_comment) ∙ e0 in
            elim (cases_Bool (begins text (codes "<![CDATA["))) [
              | inl in_section ↦ absurd (no_tag tag (section_no text (opening tag) (sym (pick _ _ _ in_section) ∙ e1)))
              | inr no_section ↦
                  let e2 = sym (skip _ _ _ no_section) ∙ e1 in
                  elim (cases_Bool (begins text (codes "<?"))) [
                    | inl instruction ↦ absurd (no_tag tag (instruction_no text (opening tag) (sym (pick _ _ _ instruction) ∙ e2)))
                    | inr no_instruction ↦
                        let e3 = sym (skip _ _ _ no_instruction) ∙ e2 in
                        elim (cases_Bool (begins text (codes "</"))) [
                          | inl closes ↦ absurd (no_tag tag (closing_no text (opening tag) (sym (pick _ _ _ closes) ∙ e3)))
                          | inr no_closing ↦
                              let e4 = sym (skip _ _ _ no_closing) ∙ e3 in
                              elim (cases_Bool (begins text (codes "<"))) [
                                | inl opens ↦ (fine, sym (pick _ _ _ opens) ∙ e4)
                                | inr no_opening ↦
                                    let e5 = sym (skip _ _ _ no_opening) ∙ e4 in
                                    elim (cases_Bool (begins text (codes "&"))) [
                                      | inl refers ↦ absurd (no_tag tag (reference_no text (opening tag) (sym (pick _ _ _ refers) ∙ e5)))
                                      | inr no_reference ↦ absurd (no_tag tag (character_no text (begins text (codes "]]>")) (opening tag) (sym (skip _ _ _ no_reference) ∙ e5)))
                                    ]
                              ]
                        ]
                  ]
            ]
      ]
]

-- How many attributes a tag has

onto_count : (octet : ℕ) (parts : List (List ℕ)) → length (onto_first octet parts) ≤ suc (length parts)
onto_count octet [] = omega arith
onto_count octet (part ∷ parts) = omega arith

pieces_count : (quote : Option ℕ) (text : List ℕ) → length (quoted_pieces quote text) ≤ suc (length text)
pieces_count None [] = omega arith
pieces_count (Some quote) [] = omega arith
pieces_count None (octet ∷ text) = by (is_quote octet) (pieces_count (Some octet) text) (pieces_count None text)
  where
    by : (test : Bool) → length (quoted_pieces (Some octet) text) ≤ suc (length text) → length (quoted_pieces None text) ≤ suc (length text)
        → length {A = List ℕ} (elim test [ true ↦ [] ∷ quoted_pieces (Some octet) text | false ↦ onto_first octet (quoted_pieces None text) ]) ≤ suc (length (octet ∷ text))
    by true inner outer = omega arith
    by false inner outer = omega (arith, onto_count octet (quoted_pieces None text))
pieces_count (Some quote) (octet ∷ text) = by (octet == quote) (pieces_count (Some quote) text) (pieces_count None text)
  where
    by : (test : Bool) → length (quoted_pieces (Some quote) text) ≤ suc (length text) → length (quoted_pieces None text) ≤ suc (length text)
        → length {A = List ℕ} (elim test [ true ↦ [] ∷ quoted_pieces None text | false ↦ onto_first octet (quoted_pieces (Some quote) text) ]) ≤ suc (length (octet ∷ text))
    by true inner outer = omega arith
    by false inner outer = omega (arith, onto_count octet (quoted_pieces (Some quote) text))

attributes_count : (parts : List (List ℕ)) (attributes : List WrittenAttribute) → attributes_of parts ≡ Some attributes → length attributes ≤ length parts
attributes_count [] attributes e = absurd cc
attributes_count (last ∷ []) [] e = omega arith
attributes_count (last ∷ []) (attribute ∷ attributes) e = absurd (no_more _ e)
  where
    no_more : (test : Bool) → (if test then Some [] else None) ≡ Some (attribute ∷ attributes) → ⊥
    no_more true h = cc
    no_more false h = cc
attributes_count (before ∷ value ∷ more) attributes e =
    let (attribute, found, next) = bind_is _ (attribute_of before value) attributes e in
    let (others, found_others, same) = map_is (λ others. attribute ∷ others) (attributes_of more) attributes next in
    omega (arith, ap (λ (these : List WrittenAttribute). length these) same, attributes_count more others found_others)

-- The parts of a tag

record Parts (tag : Tag) (text : List ℕ) : Type 0 where
  name_plain : is_plain_name tag.name.local ≡ true
  front : List ℕ
  rest : List ℕ
  last : ℕ
  end : List ℕ
  small : last < 128
  is : text ≡ (front ++ rest) ++ last ∷ end
  attributes_are : attributes_of (quoted_pieces None rest) ≡ Some tag.attributes

within : (is_empty : Bool) (inner text first : List ℕ) (tag : Tag) (last : ℕ) (end : List ℕ) → last < 128 → text ≡ first ++ (inner ++ last ∷ end) → tag_of is_empty inner ≡ Some (opening tag) → Parts tag text
within is_empty inner text first tag last end small is made =
    let name = take_while is_not_blank inner in
    let rest = drop (length name) inner in
    let (qname, named, next) = bind_is _ (qname_of name) (opening tag) made in
    let (attributes, found, same) = map_is (λ attributes. opening (record { name = qname; attributes = attributes; is_empty = is_empty })) (attributes_of (quoted_pieces None rest)) (opening tag) next in
    let equal = same_tag (record { name = qname; attributes = attributes; is_empty = is_empty }) tag same in
    let joined : name ++ rest ≡ inner = take_drop_length (prefix_len is_not_blank inner) inner in
    record {
      name_plain = ap (λ (t : Tag). is_plain_name t.name.local) (sym equal) ∙ local_plain name qname named;
      front = first ++ name;
      rest = rest;
      last = last;
      end = end;
      small = small;
      is = is ∙ ap (λ (t : List ℕ). first ++ (t ++ last ∷ end)) (sym joined) ∙ sym (append_assoc first (name ++ rest) (last ∷ end)) ∙ ap (λ (t : List ℕ). t ++ last ∷ end) (sym (append_assoc first name rest));
      attributes_are = found ∙ ap (λ (t : Tag). Some t.attributes) equal;
    }
  where
    same_tag : (one other : Tag) → opening one ≡ opening other → one ≡ other
    same_tag one other e = cc

parts_of : (text : List ℕ) (tag : Tag) → opening_of text ≡ Some (opening tag) → Parts tag text
parts_of text tag e = by_end (ends text (codes "/>")) e
  where
    by_end : (test : Bool) → (if test then option_and_then (tag_of true) (inside 1 (codes "/>") text) else option_and_then (tag_of false) (inside 1 (codes ">") text)) ≡ Some (opening tag) → Parts tag text
    by_end true h = let (inner, found, made) = bind_is (tag_of true) (inside 1 (codes "/>") text) (opening tag) h in within true inner text (take 1 text) tag 47 (62 ∷ []) (omega arith) (inside_is 1 (codes "/>") text inner found) made
    by_end false h = let (inner, found, made) = bind_is (tag_of false) (inside 1 (codes ">") text) (opening tag) h in within false inner text (take 1 text) tag 62 [] (omega arith) (inside_is 1 (codes ">") text inner found) made

pub tag_parts : TagParts
tag_parts text tag e =
    let (fine, opens) = opening_is text tag e in
    let p = parts_of text tag opens in
    let split = ascii_split (p.front ++ p.rest) p.end p.last p.small (ap is_xml_text (sym p.is) ∙ fine) in
    let outside = values_fine p.front p.rest split.0 in
    let few : length tag.attributes ≤ length text =
    omega (arith, attributes_count (quoted_pieces None p.rest) tag.attributes p.attributes_are, pieces_count None p.rest, length-append (p.front ++ p.rest) (p.last ∷ p.end), length-append p.front p.rest, ap (λ (t : List ℕ). length t) p.is) in
    (p.name_plain, (attributes_fine value_fine (quoted_pieces None p.rest) tag.attributes p.attributes_are outside, few))
