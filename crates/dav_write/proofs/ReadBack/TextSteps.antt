-- The canonical text of text is read as that text, character by character.
use Rattle.std.proofs.Common.{◌≡◌, ℕ, ◌+◌, ◌/◌, ◌≤◌, ◌<◌, true, false, List, [], ◌∷◌, ◌++◌, Option, Some, None, inl, inr, arith, refl, sym, ap, subst, ◌∙◌, append_assoc}
use Rattle.std.specs.Prelude.{not, ◌==◌, nat_eq, nat_lt, codes, if◌then◌else◌, unwrap_or}
use Rattle.std.specs.List.{list_any}
use Rattle.std.specs.Str.{is_utf8, chars}
use lib.Utf8.{encode, encodes, next}
use Rattle.std.proofs.lemmas.Bool.{eqb-true, eqb-false, ltb-true, cases_Bool}
use Rattle.cal_base.specs.Texts.Octets.{carriage_return}
use Rattle.cal_base.specs.Xml.XmlNames.{is_xml_text}
use Rattle.cal_base.specs.Xml.XmlMarkup.{Tag, begins, markup_size, markup_of, character, reference, referenced}
use Rattle.cal_base.specs.Xml.XmlFaults.{Fault, is_within, references_fault, markup_fault}
use Rattle.cal_base.specs.Xml.XmlBodies.{Part, said, items_behind, Level, with_part, with_line_feeds}
use Rattle.cal_base.specs.Xml.CanonicalXml.{text_octet, xml_text}
use Rattle.cal_base.proofs.Xml.XmlMarkupLemmas.{markups-append}
use Rattle.cal_base.proofs.Xml.XmlNameLemmas.{both_false}
use Rattle.cal_base.proofs.Xml.XmlTagLemmas.{skip, markups-marked}
use Rattle.cal_base.proofs.Xml.XmlEscapeLemmas.{Plain, markups-character, differ, high_plain}
use Rattle.dav_write.proofs.ReadBack.Spelling.{IsMarkup, levels_of, scope_in, NoEnd, Alike, Grown, Spells}
use Rattle.dav_write.proofs.ReadBack.Characters.{AreCharacters, characters_of, characters_same, one_text, behind_one}
use Rattle.dav_write.proofs.ReadBack.Alikes.{spells_join, xml_text-append}
use Rattle.dav_write.proofs.ReadBack.Steps.{sound_step, levels_step}
use Rattle.dav_write.proofs.ReadBack.Frame.{TextStep}

-- an octet that is written as it is
pub record Unescaped (octet : ℕ) : Type 0 where
  refers : nat_eq octet 38 ≡ false
  opens : nat_eq octet 60 ≡ false
  closes : nat_eq octet 62 ≡ false
  return : nat_eq octet 13 ≡ false

unescaped_octet : (octet : ℕ) → Unescaped octet → text_octet octet ≡ octet ∷ []
unescaped_octet octet u = skip _ _ _ (u.refers) ∙ (skip _ _ _ (u.opens) ∙ (skip _ _ _ (u.closes) ∙ skip _ _ _ (u.return)))

high_octet : (octet : ℕ) → 128 ≤ octet → text_octet octet ≡ octet ∷ []
high_octet octet h = unescaped_octet octet (record {
  refers = differ octet 38 (λ e. omega arith);
  opens = differ octet 60 (λ e. omega arith);
  closes = differ octet 62 (λ e. omega arith);
  return = differ octet 13 (λ e. omega arith);
})

-- of the octets of a character only ASCII is escaped
pub unescaped_character : (code : ℕ) → (code < 128 → Unescaped code) → xml_text (encode code) ≡ encode code
unfolding encode xml_text
unescaped_character code u = elim (cases_Bool (nat_lt code 128)) [
  | inl one ↦ rw one (ap (λ text. text ++ []) (unescaped_octet code (u (ltb-true code 128 one))))
  | inr more ↦ elim (cases_Bool (nat_lt code 2048)) [
    | inl two ↦ rw (more, two) (rw (high_octet (192 + code / 64) (omega arith), high_octet (next code) (omega arith)) refl)
    | inr further ↦ elim (cases_Bool (nat_lt code 65536)) [
      | inl three ↦ rw (more, further, three) (rw (high_octet (224 + code / 4096) (omega arith), high_octet (next (code / 64)) (omega arith), high_octet (next code) (omega arith)) refl)
      | inr four ↦ rw (more, further, four) (rw (high_octet (240 + code / 262144) (omega arith), high_octet (next (code / 4096)) (omega arith), high_octet (next (code / 64)) (omega arith), high_octet (next code) (omega arith)) refl)
    ]
  ]
]

-- What a character is written as, and what that is read as

-- a character that is written as a reference
pub record Escape (code : ℕ) : Type 0 where
  pub name : List ℕ
  pub text : List ℕ
  pub written : xml_text (encode code) ≡ text
  pub cut_off : (rest : List ℕ) → IsMarkup text (reference name) rest
  pub no_end : (rest : List ℕ) → NoEnd (text ++ rest)
  pub fine : is_xml_text text ≡ true
  pub stands_for : referenced name ≡ Some (encode code)

escape_and : Escape 38
unfolding encode xml_text is_utf8 chars
escape_and = record { name = codes "amp"; text = codes "&amp;"; written = refl; cut_off = λ rest. record { cut_off = markups-marked (codes "&amp;") rest (inr refl) refl; is = refl; sound = λ place. refl }; no_end = λ rest. record { one = refl; two = refl }; fine = refl; stands_for = refl }

escape_less : Escape 60
unfolding encode xml_text is_utf8 chars
escape_less = record { name = codes "lt"; text = codes "&lt;"; written = refl; cut_off = λ rest. record { cut_off = markups-marked (codes "&lt;") rest (inr refl) refl; is = refl; sound = λ place. refl }; no_end = λ rest. record { one = refl; two = refl }; fine = refl; stands_for = refl }

escape_greater : Escape 62
unfolding encode xml_text is_utf8 chars
escape_greater = record { name = codes "gt"; text = codes "&gt;"; written = refl; cut_off = λ rest. record { cut_off = markups-marked (codes "&gt;") rest (inr refl) refl; is = refl; sound = λ place. refl }; no_end = λ rest. record { one = refl; two = refl }; fine = refl; stands_for = refl }

escape_return : Escape 13
unfolding encode xml_text is_utf8 chars
escape_return = record { name = codes "#13"; text = codes "&#13;"; written = refl; cut_off = λ rest. record { cut_off = markups-marked (codes "&#13;") rest (inr refl) refl; is = refl; sound = λ place. refl }; no_end = λ rest. record { one = refl; two = refl }; fine = refl; stands_for = refl }

-- a character is a `]`, is written as a reference, or is written as it is
pub data Kind (code : ℕ) : Type 0 where
  bracketed : code ≡ 93 → Kind code
  escaped : Escape code → Kind code
  unchanged : Plain code → Unescaped code → Kind code

pub kind_of : (code : ℕ) → Kind code
kind_of code = elim (cases_Bool (nat_eq code 93)) [
  | inl same ↦ bracketed (eqb-true code 93 same)
  | inr bracket ↦ elim (cases_Bool (nat_eq code 38)) [
    | inl same ↦ escaped (subst Escape (sym (eqb-true code 38 same)) escape_and)
    | inr refers ↦ elim (cases_Bool (nat_eq code 60)) [
      | inl same ↦ escaped (subst Escape (sym (eqb-true code 60 same)) escape_less)
      | inr opens ↦ elim (cases_Bool (nat_eq code 62)) [
        | inl same ↦ escaped (subst Escape (sym (eqb-true code 62 same)) escape_greater)
        | inr closes ↦ elim (cases_Bool (nat_eq code 13)) [
          | inl same ↦ escaped (subst Escape (sym (eqb-true code 13 same)) escape_return)
          | inr returns ↦ unchanged
              (record {
                tag = differ 60 code (λ e. eqb-false code 60 opens (sym e));
                refers = differ 38 code (λ e. eqb-false code 38 refers (sym e));
                bracket = differ 93 code (λ e. eqb-false code 93 bracket (sym e));
                return = differ 13 code (λ e. eqb-false code 13 returns (sym e));
              })
              (record { refers = refers; opens = opens; closes = closes; return = returns })
        ]
      ]
    ]
  ]
]

-- the first octet of a character that is written as it is
record First (code : ℕ) : Type 0 where
  octet : ℕ
  more : List ℕ
  is : encode code ≡ octet ∷ more
  plain : Plain octet
  no_end : nat_eq 62 octet ≡ false

first_of : (code : ℕ) → Plain code → Unescaped code → First code
unfolding encode
first_of code plain u = elim (cases_Bool (nat_lt code 128)) [
  | inl one ↦ record { octet = code; more = []; is = rw one refl; plain = plain; no_end = differ 62 code (λ e. eqb-false code 62 u.closes (sym e)) }
  | inr longer ↦ elim (cases_Bool (nat_lt code 2048)) [
    | inl two ↦ record { octet = 192 + code / 64; more = next code ∷ []; is = rw (longer, two) refl; plain = high_plain (192 + code / 64) (omega arith); no_end = differ 62 (192 + code / 64) (λ e. omega arith) }
    | inr further ↦ elim (cases_Bool (nat_lt code 65536)) [
      | inl three ↦ record { octet = 224 + code / 4096; more = next (code / 64) ∷ next code ∷ []; is = rw (longer, further, three) refl; plain = high_plain (224 + code / 4096) (omega arith); no_end = differ 62 (224 + code / 4096) (λ e. omega arith) }
      | inr four ↦ record { octet = 240 + code / 262144; more = next (code / 4096) ∷ next (code / 64) ∷ next code ∷ []; is = rw (longer, further, four) refl; plain = high_plain (240 + code / 262144) (omega arith); no_end = differ 62 (240 + code / 262144) (λ e. omega arith) }
    ]
  ]
]

-- A character that is text by itself

is_character : (octet : ℕ) (text : List ℕ) → nat_eq 60 octet ≡ false → nat_eq 38 octet ≡ false → begins (octet ∷ text) (codes "]]>") ≡ false → is_xml_text (octet ∷ text) ≡ true → markup_of (octet ∷ text) ≡ Some (character (octet ∷ text))
is_character octet text tag and_sign bracket fine =
    skip _ _ _ (ap not fine) ∙ (skip _ _ _ comment ∙ (skip _ _ _ section_test ∙ (skip _ _ _ instruction ∙ (skip _ _ _ ends_tag ∙ (skip _ _ _ opens ∙ (skip _ _ _ refers ∙ skip _ _ _ bracket))))))
  where
    comment : begins (octet ∷ text) (codes "<!--") ≡ false
    comment = rw (tag) refl

    section_test : begins (octet ∷ text) (codes "<![CDATA[") ≡ false
    section_test = rw (tag) refl

    instruction : begins (octet ∷ text) (codes "<?") ≡ false
    instruction = rw (tag) refl

    ends_tag : begins (octet ∷ text) (codes "</") ≡ false
    ends_tag = rw (tag) refl

    opens : begins (octet ∷ text) (codes "<") ≡ false
    opens = rw (tag) refl

    refers : begins (octet ∷ text) (codes "&") ≡ false
    refers = rw (and_sign) refl

no_references : (octet : ℕ) (text : List ℕ) → nat_eq 60 octet ≡ false → (place : ℕ) → ◌≡◌ {A = Option Fault} (references_fault place (octet ∷ text)) None
no_references octet text tag place = rw (tag) refl

-- Line ends: none in text without CR

without_return : (text : List ℕ) → list_any (λ octet. octet == carriage_return) text ≡ false → with_line_feeds text ≡ text
without_return [] e = refl
without_return (octet ∷ []) e =
    let each = both_false (octet == carriage_return) _ e in
    rw (each.0) refl
without_return (octet ∷ next ∷ text) e =
    let each = both_false (octet == carriage_return) _ e in
    rw (each.0) (ap (λ (more : List ℕ). octet ∷ more) (without_return (next ∷ text) each.1))

high_return : (octet : ℕ) → 128 ≤ octet → nat_eq octet 13 ≡ false
high_return octet h = differ octet 13 (λ e. omega arith)

encode_return : (code : ℕ) → (code < 128 → nat_eq code 13 ≡ false) → list_any (λ octet. octet == carriage_return) (encode code) ≡ false
unfolding encode
encode_return code u = elim (cases_Bool (nat_lt code 128)) [
  | inl one ↦ rw one (rw (u (ltb-true code 128 one)) refl)
  | inr more ↦ elim (cases_Bool (nat_lt code 2048)) [
    | inl two ↦ rw (more, two) (rw (high_return (192 + code / 64) (omega arith), high_return (next code) (omega arith)) refl)
    | inr further ↦ elim (cases_Bool (nat_lt code 65536)) [
      | inl three ↦ rw (more, further, three) (rw (high_return (224 + code / 4096) (omega arith), high_return (next (code / 64)) (omega arith), high_return (next code) (omega arith)) refl)
      | inr four ↦ rw (more, further, four) (rw (high_return (240 + code / 262144) (omega arith), high_return (next (code / 4096)) (omega arith), high_return (next (code / 64)) (omega arith), high_return (next code) (omega arith)) refl)
    ]
  ]
]

-- One markup of text

grown_by : (around : List Tag) (said_text : List ℕ) (level : Level) (levels grown : List Level) → grown ≡ with_part (λ scope. said said_text) (level ∷ levels) → Grown (scope_in around) (said said_text ∷ []) level levels grown
grown_by around said_text level levels grown e = record { first = λ scope. said said_text ∷ level scope; is = e; new = said said_text ∷ []; parts_of_first = refl; alike = λ text more. refl }

stands_character : (around : List Tag) (text : List ℕ) → is_within around ≡ true → markup_fault around true (character text) ≡ None
stands_character around text within = rw (within) refl

stands_reference : (around : List Tag) (name octets : List ℕ) → is_within around ≡ true → referenced name ≡ Some octets → markup_fault around true (reference name) ≡ None
stands_reference around name octets within is = rw (within) (by_found (referenced name) is)
  where
    by_found : (found : Option (List ℕ)) → found ≡ Some octets → (if Rattle.std.specs.Prelude.is_some found then None else Some Rattle.cal_base.specs.Xml.XmlFaults.entity) ≡ None
    by_found None e = absurd cc
    by_found (Some x) e = refl

spells_character : (around : List Tag) (text octets rest : List ℕ) → is_within around ≡ true → IsMarkup text (character text) rest → with_line_feeds text ≡ octets → NoEnd (text ++ rest) → Spells around text (said octets ∷ []) rest
spells_character around text octets rest within m same n = record {
  no_end = n;
  sound = λ h. sound_step around true text (character text) rest m (stands_character around text within) h;
  grows = λ level levels l. grown_by around octets level levels (levels_of (text ++ rest)) (levels_step text (character text) rest m ∙ ap (λ octets. with_part (λ scope. said octets) (levels_of rest)) same ∙ ap (with_part (λ scope. said octets)) l);
}

spells_reference : (around : List Tag) (text name octets rest : List ℕ) → is_within around ≡ true → IsMarkup text (reference name) rest → referenced name ≡ Some octets → NoEnd (text ++ rest) → Spells around text (said octets ∷ []) rest
spells_reference around text name octets rest within m same n = record {
  no_end = n;
  sound = λ h. sound_step around true text (reference name) rest m (stands_reference around name octets within same) h;
  grows = λ level levels l. grown_by around octets level levels (levels_of (text ++ rest)) (levels_step text (reference name) rest m ∙ ap (λ found. with_part (λ scope. said (unwrap_or found [])) (levels_of rest)) same ∙ ap (with_part (λ scope. said octets)) l);
}

-- One character

bracket_size : (rest : List ℕ) → begins rest (codes "]>") ≡ false → markup_size (93 ∷ rest) ≡ 1
bracket_size rest h = skip (begins (93 ∷ rest) (codes "]]>")) _ _ h

written_bracket : (xml_text (93 ∷ []) ≡ 93 ∷ []) × (encode 93 ≡ 93 ∷ [])
unfolding encode xml_text
written_bracket = (refl, refl)

bracket_markup : (rest : List ℕ) → NoEnd rest → IsMarkup (93 ∷ []) (character (93 ∷ [])) rest
unfolding is_utf8 chars encode
bracket_markup rest n = record { cut_off = markups-append 93 [] rest (bracket_size rest n.two); is = refl; sound = λ place. refl }

bracket_no_end : (rest : List ℕ) → NoEnd rest → NoEnd (93 ∷ rest)
bracket_no_end rest n = record { one = refl; two = n.one }

spells_one : (around : List Tag) (code : ℕ) (rest : List ℕ) → is_within around ≡ true → is_xml_text (encode code) ≡ true → NoEnd rest → Kind code → Spells around (xml_text (encode code)) (said (encode code) ∷ []) rest
spells_one around code rest within fine n (bracketed same) =
    let as_bracket : encode code ≡ 93 ∷ [] = ap encode same ∙ written_bracket.1 in
    subst (λ (octets : List ℕ). Spells around (xml_text octets) (said octets ∷ []) rest) (sym as_bracket)
    (subst (λ (text : List ℕ). Spells around text (said (93 ∷ []) ∷ []) rest) (sym written_bracket.0)
    (spells_character around (93 ∷ []) (93 ∷ []) rest within (bracket_markup rest n) refl (bracket_no_end rest n)))
spells_one around code rest within fine n (escaped e) =
    subst (λ (text : List ℕ). Spells around text (said (encode code) ∷ []) rest) (sym e.written)
    (spells_reference around e.text e.name (encode code) rest within (e.cut_off rest) e.stands_for (e.no_end rest))
spells_one around code rest within fine n (unchanged plain u) =
    let first = first_of code plain u in
    let p = first.plain in
    let bracket : begins (first.octet ∷ first.more) (codes "]]>") ≡ false = rw (p.bracket) refl in
    let fine_first : is_xml_text (first.octet ∷ first.more) ≡ true = subst (λ (text : List ℕ). is_xml_text text ≡ true) first.is fine in
    let is : markup_of (encode code) ≡ Some (character (encode code)) = subst (λ (text : List ℕ). markup_of text ≡ Some (character text)) (sym first.is) (is_character first.octet first.more p.tag p.refers bracket fine_first) in
    let sound : (place : ℕ) → ◌≡◌ {A = Option Fault} (references_fault place (encode code)) None = λ place. subst (λ (text : List ℕ). ◌≡◌ {A = Option Fault} (references_fault place text) None) (sym first.is) (no_references first.octet first.more p.tag place) in
    let no_end : NoEnd (first.octet ∷ (first.more ++ rest)) = record { one = rw (first.no_end) refl; two = rw (p.bracket) refl } in
    subst (λ (text : List ℕ). Spells around text (said (encode code) ∷ []) rest) (sym (unescaped_character code (λ small. u)))
    (spells_character around (encode code) (encode code) rest within
    (record { cut_off = markups-character code rest (λ small. plain); is = is; sound = sound })
    (without_return (encode code) (encode_return code (λ small. u.return)))
    (subst (λ (text : List ℕ). NoEnd (text ++ rest)) (sym first.is) no_end))

-- Texts

spells_as : (around : List Tag) (text : List ℕ) (parts others : List Part) (rest : List ℕ) → Alike parts others → Spells around text parts rest → Spells around text others rest
spells_as around text parts others rest a s = record {
  no_end = s.no_end;
  sound = s.sound;
  grows = λ level levels l.
      let g = s.grows level levels l in
      record { first = g.first; is = g.is; new = g.new; parts_of_first = g.parts_of_first; alike = λ t more. g.alike t more ∙ a t more };
}

spells_nothing : (around : List Tag) (rest : List ℕ) → NoEnd rest → Spells around (xml_text []) (said [] ∷ []) rest
unfolding xml_text
spells_nothing around rest n = record {
  no_end = n;
  sound = λ h. h;
  grows = λ level levels l. record { first = level; is = l; new = []; parts_of_first = refl; alike = λ text more. ap (λ (t : List ℕ). items_behind t more) (sym (append_nil text)) };
}
  where
    append_nil : (text : List ℕ) → text ++ [] ≡ text
    append_nil [] = refl
    append_nil (octet ∷ text) = ap (λ (more : List ℕ). octet ∷ more) (append_nil text)

spells_characters : (around : List Tag) (characters rest : List ℕ) → is_within around ≡ true → AreCharacters characters → NoEnd rest → Spells around (xml_text (encodes characters)) (said (encodes characters) ∷ []) rest
spells_characters around [] rest within are n = spells_nothing around rest n
spells_characters around (code ∷ characters) rest within are n =
    let more = spells_characters around characters rest within (behind_one code characters are) n in
    let one = spells_one around code (xml_text (encodes characters) ++ rest) within (one_text code characters are) more.no_end (kind_of code) in
    subst (λ (text : List ℕ). Spells around text (said (encode code ++ encodes characters) ∷ []) rest) (sym (xml_text-append (encode code) (encodes characters)))
    (spells_as around _ _ _ rest (λ text behind. ap (λ (t : List ℕ). items_behind t behind) (append_assoc text (encode code) (encodes characters)))
    (spells_join around (xml_text (encode code)) (xml_text (encodes characters)) (said (encode code) ∷ []) (said (encodes characters) ∷ []) rest one more))

pub text_step : TextStep
text_step around text rest within fine n =
    subst (λ (octets : List ℕ). Spells around (xml_text octets) (said octets ∷ []) rest) (characters_same text fine)
    (spells_characters around (chars text) rest within (characters_of text fine) n)
