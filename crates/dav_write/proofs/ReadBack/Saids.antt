-- What each markup brings to the text of an element is of characters of XML.
use Rattle.std.proofs.Common.{◌≡◌, ℕ, ◌<◌, ◌≤◌, Bool, true, false, List, [], ◌∷◌, ◌++◌, length, take, drop, Option, Some, None, inl, inr, arith, refl, sym, ap, subst, ◌∙◌}
use Rattle.std.specs.Prelude.{⊤, not, ◌&&◌, ◌||◌, nat_le, nat_lt, if◌then◌else◌, codes, find, option_map, option_and_then, unwrap_or}
use Rattle.std.specs.List.{list_all, take_while}
use Rattle.std.specs.Str.{is_utf8, chars, bytes_eq}
use lib.Utf8.{scalar, encode}
use Rattle.std.proofs.lemmas.Bool.{leb-true, ltb-true, lt-ltb, le-leb, cases_Bool}
use Rattle.std.proofs.lemmas.Option.{same_Some}
use Rattle.std.proofs.lemmas.List.{append-nil}
use Rattle.cal_base.specs.Xml.XmlNames.{qname_of, is_among, is_xml_character, is_xml_text}
use Rattle.cal_base.specs.Xml.XmlMarkup.{Markup, opening, closing, character, section, skipped, begins, ends, inside, comment_of, section_of, instruction_of, closing_of, opening_of, reference_of, tag_of, quoted_pieces, attributes_of, is_not_blank, without_last_blanks, referenced, referenced_number, entities, entity_octets, character_octets}
use Rattle.cal_base.proofs.Xml.XmlNameLemmas.{both_true}
use Rattle.cal_base.proofs.Xml.XmlTagLemmas.{pick, skip, given, bind_is, map_is, begins_is, inside_is}
use Rattle.dav_write.proofs.ReadBack.Characters.{text_of}
use Rattle.dav_write.proofs.ReadBack.SaidTexts.{ascii_split, behind_ascii, line_feeds_fine}
use Rattle.dav_write.proofs.ReadBack.Given.{SaidFine, SaidGiven}

-- A character of XML is a scalar value

abbrev scalar_range : (ℕ × ℕ) → Bool
scalar_range range = nat_lt range.1 55296 || nat_le 57344 range.0 && nat_lt range.1 1114112

scalar_low : (code : ℕ) → code < 55296 → scalar code ≡ true
scalar_low code h = rw (lt-ltb code 55296 h) refl

scalar_high : (code : ℕ) → 57344 ≤ code → code < 1114112 → scalar code ≡ true
scalar_high code low high = elim (cases_Bool (nat_lt code 55296)) [
  | inl below ↦ rw (below) refl
  | inr above ↦ rw (above, le-leb 57344 code low, lt-ltb code 1114112 high) refl
]

scalar_in : (range : ℕ × ℕ) (code : ℕ) → scalar_range range ≡ true → range.0 ≤ code → code ≤ range.1 → scalar code ≡ true
scalar_in range code h low high = elim (cases_Bool (nat_lt range.1 55296)) [
  | inl below ↦ scalar_low code (omega (arith, ltb-true range.1 55296 below, high))
  | inr above ↦
      let rest : (nat_le 57344 range.0 && nat_lt range.1 1114112) ≡ true = sym (ap (λ (test : Bool). test || (nat_le 57344 range.0 && nat_lt range.1 1114112)) above) ∙ h in
      let each = both_true (nat_le 57344 range.0) _ rest in
      scalar_high code (omega (arith, leb-true 57344 range.0 each.0, low)) (omega (arith, ltb-true range.1 1114112 each.1, high))
]

scalar_among : (ranges : List (ℕ × ℕ)) → list_all scalar_range ranges ≡ true → (code : ℕ) → is_among ranges code ≡ true → scalar code ≡ true
scalar_among [] t code h = absurd cc
scalar_among (range ∷ ranges) t code h =
    let tests = both_true (scalar_range range) _ t in
    elim (cases_Bool (nat_le range.0 code && nat_le code range.1)) [
      | inl here ↦ let each = both_true (nat_le range.0 code) _ here in scalar_in range code tests.0 (leb-true range.0 code each.0) (leb-true code range.1 each.1)
      | inr other ↦ scalar_among ranges tests.1 code (subst (λ (test : Bool). (test || is_among ranges code) ≡ true) other h)
    ]

character_fine : (code : ℕ) → is_xml_character code ≡ true → is_xml_text (encode code) ≡ true
character_fine code h =
    let value : scalar code ≡ true = scalar_among ((0x9, 0xA) ∷ (0xD, 0xD) ∷ (0x20, 0xD7FF) ∷ (0xE000, 0xFFFD) ∷ (0x10000, 0x10FFFF) ∷ []) refl code h in
    ap is_xml_text (sym (append-nil (encode code))) ∙ text_of (code ∷ []) (record { scalar_values = rw (value) refl; of_xml = rw (h) refl })

-- References

nil_fine : is_xml_text [] ≡ true
unfolding is_utf8 chars
nil_fine = refl

abbrev AllFine : List (List ℕ × List ℕ) → Type 0
AllFine [] = ⊤
AllFine (entry ∷ entries) = (is_xml_text entry.1 ≡ true) × AllFine entries

found_fine : (name : List ℕ) (table : List (List ℕ × List ℕ)) → AllFine table → is_xml_text (unwrap_or (option_map (λ (entity : List ℕ × List ℕ). entity.1) (find (λ (entity : List ℕ × List ℕ). bytes_eq entity.0 name) table)) []) ≡ true
found_fine name [] all = nil_fine
found_fine name (entry ∷ table) (fine, all) = elim (cases_Bool (bytes_eq entry.0 name)) [
  | inl same ↦ rw (same) fine
  | inr other ↦ rw (other) (found_fine name table all)
]

entities_fine : AllFine entities
unfolding is_utf8 chars encode
entities_fine = (refl, (refl, (refl, (refl, (refl, tt)))))

number_fine : (number : ℕ) → is_xml_text (unwrap_or (character_octets number) []) ≡ true
number_fine number = elim (cases_Bool (is_xml_character number)) [
  | inl good ↦ rw (good) (character_fine number good)
  | inr other ↦ rw (other) nil_fine
]

pub referenced_fine : (name : List ℕ) → is_xml_text (unwrap_or (referenced name) []) ≡ true
referenced_fine name = by_number (referenced_number name)
  where
    by_number : (found : Option ℕ) → is_xml_text (unwrap_or (elim found [ None ↦ entity_octets name | Some number ↦ character_octets number ]) []) ≡ true
    by_number None = found_fine name entities entities_fine
    by_number (Some number) = number_fine number

-- Each kind of markup

skipped_if : (test : Bool) (markup : Markup) → (if test then Some skipped else None) ≡ Some markup → SaidFine markup
skipped_if true markup e = subst SaidFine (same_Some skipped markup e) tt
skipped_if false markup e = absurd cc

skipped_unless : (test : Bool) (markup : Markup) → (if test then None else Some skipped) ≡ Some markup → SaidFine markup
skipped_unless false markup e = subst SaidFine (same_Some skipped markup e) tt
skipped_unless true markup e = absurd cc

comment_said : (text : List ℕ) (markup : Markup) → comment_of text ≡ Some markup → SaidFine markup
comment_said text markup e =
    let (comment, found, next) = bind_is _ (inside 4 (codes "-->") text) markup e in
    skipped_unless _ markup next

instruction_said : (text : List ℕ) (markup : Markup) → instruction_of text ≡ Some markup → SaidFine markup
instruction_said text markup e =
    let (instruction, found, next) = bind_is _ (inside 2 (codes "?>") text) markup e in
    skipped_if _ markup next

closing_said : (text : List ℕ) (markup : Markup) → closing_of text ≡ Some markup → SaidFine markup
closing_said text markup e =
    let (name, found, next) = bind_is _ (inside 2 (codes ">") text) markup e in
    let (qname, named, same) = map_is closing (qname_of (without_last_blanks name)) markup next in
    subst SaidFine same tt

tag_said : (is_empty : Bool) (text : List ℕ) (markup : Markup) → tag_of is_empty text ≡ Some markup → SaidFine markup
tag_said is_empty text markup e =
    let name = take_while is_not_blank text in
    let (qname, named, next) = bind_is _ (qname_of name) markup e in
    let (attributes, found, same) = map_is (λ attributes. opening (record { name = qname; attributes = attributes; is_empty = is_empty })) (attributes_of (quoted_pieces None (drop (length name) text))) markup next in
    subst SaidFine same tt

opening_said : (text : List ℕ) (markup : Markup) → opening_of text ≡ Some markup → SaidFine markup
opening_said text markup e = by_end (ends text (codes "/>")) e
  where
    by_end : (test : Bool) → (if test then option_and_then (tag_of true) (inside 1 (codes "/>") text) else option_and_then (tag_of false) (inside 1 (codes ">") text)) ≡ Some markup → SaidFine markup
    by_end true h = let (inner, found, made) = bind_is (tag_of true) (inside 1 (codes "/>") text) markup h in tag_said true inner markup made
    by_end false h = let (inner, found, made) = bind_is (tag_of false) (inside 1 (codes ">") text) markup h in tag_said false inner markup made

reference_said : (text : List ℕ) (markup : Markup) → reference_of text ≡ Some markup → SaidFine markup
reference_said text markup e =
    let (name, found, next) = bind_is _ (inside 1 (codes ";") text) markup e in
    let (test, same) = given _ _ markup next in
    subst SaidFine same (referenced_fine name)

section_said : (text : List ℕ) (markup : Markup) → is_xml_text text ≡ true → begins text (codes "<![CDATA[") ≡ true → section_of text ≡ Some markup → SaidFine markup
section_said text markup fine b e =
    let (content, found, same) = map_is section (inside 9 (codes "]]>") text) markup e in
    let front : codes "<![CDATA[" ≡ take 9 text = begins_is (codes "<![CDATA[") text b in
    let is : text ≡ codes "<![CDATA" ++ 91 ∷ (content ++ 93 ∷ codes "]>") = inside_is 9 (codes "]]>") text content found ∙ ap (λ (start : List ℕ). start ++ (content ++ codes "]]>")) (sym front) in
    let split = ascii_split (codes "<![CDATA") (content ++ 93 ∷ codes "]>") 91 (omega arith) (ap is_xml_text (sym is) ∙ fine) in
    let behind = behind_ascii (content ++ 93 ∷ codes "]>") 91 (omega arith) split.1 in
    subst SaidFine same (line_feeds_fine content (ascii_split content (codes "]>") 93 (omega arith) behind.1).0)

pub said_given : SaidGiven
said_given text markup e = elim (cases_Bool (is_xml_text text)) [
  | inr other ↦ let none : None ≡ Some markup = sym (pick _ _ _ (ap not other)) ∙ e in absurd cc
  | inl fine ↦
      let e0 = sym (skip _ _ _ (ap not fine)) ∙ e in
      elim (cases_Bool (begins text (codes "<!--"))) [
        | inl comment ↦ comment_said text markup (sym (pick _ _ _ comment) ∙ e0)
        | inr no_comment ↦
            let e1 = sym (skip _ _ _ no_comment) ∙ e0 in
            elim (cases_Bool (begins text (codes "<![CDATA["))) [
              | inl in_section ↦ section_said text markup fine in_section (sym (pick _ _ _ in_section) ∙ e1)
              | inr no_section ↦
                  let e2 = sym (skip _ _ _ no_section) ∙ e1 in
                  elim (cases_Bool (begins text (codes "<?"))) [
                    | inl instruction ↦ instruction_said text markup (sym (pick _ _ _ instruction) ∙ e2)
                    | inr no_instruction ↦
                        let e3 = sym (skip _ _ _ no_instruction) ∙ e2 in
                        elim (cases_Bool (begins text (codes "</"))) [
                          | inl closes ↦ closing_said text markup (sym (pick _ _ _ closes) ∙ e3)
                          | inr no_closing ↦
                              let e4 = sym (skip _ _ _ no_closing) ∙ e3 in
                              elim (cases_Bool (begins text (codes "<"))) [
                                | inl opens ↦ opening_said text markup (sym (pick _ _ _ opens) ∙ e4)
                                | inr no_opening ↦
                                    let e5 = sym (skip _ _ _ no_opening) ∙ e4 in
                                    elim (cases_Bool (begins text (codes "&"))) [
                                      | inl refers ↦ reference_said text markup (sym (pick _ _ _ refers) ∙ e5)
                                      | inr no_reference ↦ character_said fine (begins text (codes "]]>")) (sym (skip _ _ _ no_reference) ∙ e5)
                                    ]
                              ]
                        ]
                  ]
            ]
      ]
]
  where
    character_said : is_xml_text text ≡ true → (test : Bool) → (if test then None else Some (character text)) ≡ Some markup → SaidFine markup
    character_said fine true h = absurd cc
    character_said fine false h = subst SaidFine (same_Some (character text) markup h) (line_feeds_fine text fine)
