-- Characters of text are cut off one by one, and an escaped value stands for the value.
use Rattle.std.specs.Prelude.{◌≡◌, ℕ, suc, ◌+◌, ◌/◌, ◌≤◌, ◌<◌, Bool, true, false, not, nat_eq, nat_lt, List, [], ◌∷◌, ◌++◌, flat_map, codes, Option, Some, None, ◌⊎◌}
use Rattle.std.specs.Str.{continuation_len, is_utf8, chars, IsUtf8}
use lib.Utf8.{encode, encodes, next}
use Rattle.std.proofs.Common.{inl, inr, arith, refl, sym, ap, subst, ◌∙◌}
use Rattle.std.proofs.lemmas.Bool.{cases_Bool, eqb-true, eqb-false, ltb-true, ltb-false}
use Rattle.std.proofs.lemmas.List.{append_assoc}
use Rattle.cal_base.specs.Xml.XmlNames.{is_xml_text}
use Rattle.cal_base.specs.Xml.XmlMarkup.{begins, markup_size, markups, markup_of, Markup, character}
use Rattle.cal_base.specs.Xml.XmlScopes.{piece_octets, value_octets}
use Rattle.cal_base.specs.Xml.CanonicalXml.{value_octet, attribute_text}
use Rattle.cal_base.proofs.Xml.XmlMarkupLemmas.{markups-append}
use Rattle.cal_base.proofs.Xml.XmlTagLemmas.{pick, skip, markups-marked}

-- Tests of numbers

pub differ : (a b : ℕ) → (a ≡ b → ⊥) → nat_eq a b ≡ false
differ a b h = elim (cases_Bool (nat_eq a b)) [
  | inl same ↦ absurd (h (eqb-true a b same))
  | inr apart ↦ apart
]

pub less : (a b : ℕ) → a < b → nat_lt a b ≡ true
less a b h = elim (cases_Bool (nat_lt a b)) [
  | inl so ↦ so
  | inr other ↦ absurd (omega (arith, h, ltb-false a b other))
]

pub not_less : (a b : ℕ) → b ≤ a → nat_lt a b ≡ false
not_less a b h = elim (cases_Bool (nat_lt a b)) [
  | inl so ↦ absurd (omega (arith, h, ltb-true a b so))
  | inr other ↦ other
]

-- An octet that begins no other markup

-- it is no `<`, `&`, `]` and no CR
pub record Plain (octet : ℕ) : Type 0 where
  pub tag : nat_eq 60 octet ≡ false
  pub refers : nat_eq 38 octet ≡ false
  pub bracket : nat_eq 93 octet ≡ false
  pub return : nat_eq 13 octet ≡ false

pub plain_size : (octet : ℕ) (text : List ℕ) → Plain octet → markup_size (octet ∷ text) ≡ suc (continuation_len octet)
plain_size octet text plain =
    let comment : begins (octet ∷ text) (codes "<!--") ≡ false = rw (plain.tag) refl in
    let section : begins (octet ∷ text) (codes "<![CDATA[") ≡ false = rw (plain.tag) refl in
    let instruction : begins (octet ∷ text) (codes "<?") ≡ false = rw (plain.tag) refl in
    let opens : begins (octet ∷ text) (codes "<") ≡ false = rw (plain.tag) refl in
    let refers : begins (octet ∷ text) (codes "&") ≡ false = rw (plain.refers) refl in
    let bracket : begins (octet ∷ text) (codes "]]>") ≡ false = rw (plain.bracket) refl in
    let returns : begins (octet ∷ text) (codes "\r\n") ≡ false = rw (plain.return) refl in
    skip _ _ _ comment ∙ (skip _ _ _ section ∙ (skip _ _ _ instruction ∙ (skip _ _ _ opens ∙ (skip _ _ _ refers ∙ (skip _ _ _ bracket ∙ skip _ _ _ returns)))))

pub high_plain : (octet : ℕ) → 128 ≤ octet → Plain octet
high_plain octet h = record {
  tag = differ 60 octet (λ e. omega arith);
  refers = differ 38 octet (λ e. omega arith);
  bracket = differ 93 octet (λ e. omega arith);
  return = differ 13 octet (λ e. omega arith);
}

-- a character but `<`, `&`, `]` and CR is cut off, whatever stands behind it
pub markups-character : (code : ℕ) (rest : List ℕ) → (code < 128 → Plain code) → markups (encode code ++ rest) ≡ encode code ∷ markups rest
unfolding encode
markups-character code rest plain = elim (cases_Bool (nat_lt code 128)) [
  | inl one ↦
      let size : markup_size (code ∷ rest) ≡ 1 = plain_size code rest (plain (ltb-true code 128 one)) ∙ rw one refl in
      rw one (markups-append code [] rest size)
  | inr more ↦ elim (cases_Bool (nat_lt code 2048)) [
    | inl two ↦
        let first = 192 + code / 64 in
        let small : first < 224 = omega (arith, ltb-true code 2048 two) in
        let size : (text : List ℕ) → markup_size (first ∷ text) ≡ 2 = λ text. plain_size first text (high_plain first (omega arith)) ∙ rw (not_less first 128 (omega arith), less first 224 small) refl in
        rw (more, two) (markups-append first _ rest (size (next code ∷ rest)))
    | inr further ↦ elim (cases_Bool (nat_lt code 65536)) [
      | inl three ↦
          let first = 224 + code / 4096 in
          let small : first < 240 = omega (arith, ltb-true code 65536 three) in
          let size : (text : List ℕ) → markup_size (first ∷ text) ≡ 3 = λ text. plain_size first text (high_plain first (omega arith)) ∙ rw (not_less first 128 (omega arith), not_less first 224 (omega arith), less first 240 small) refl in
          rw (more, further, three) (markups-append first _ rest (size (next (code / 64) ∷ next code ∷ rest)))
      | inr four ↦
          let first = 240 + code / 262144 in
          let size : (text : List ℕ) → markup_size (first ∷ text) ≡ 4 = λ text. plain_size first text (high_plain first (omega arith)) ∙ rw (not_less first 128 (omega arith), not_less first 224 (omega arith), not_less first 240 (omega arith)) refl in
          rw (more, further, four) (markups-append first _ rest (size (next (code / 4096) ∷ next (code / 64) ∷ next code ∷ rest)))
    ]
  ]
]

-- Escaped values

attribute_text-append : (text more : List ℕ) → attribute_text (text ++ more) ≡ attribute_text text ++ attribute_text more
unfolding attribute_text
attribute_text-append [] more = refl
attribute_text-append (octet ∷ text) more = ap (λ rest. value_octet octet ++ rest) (attribute_text-append text more) ∙ sym (append_assoc (value_octet octet) (attribute_text text) (attribute_text more))

-- an octet that is written as it is
pub record Unescaped (octet : ℕ) : Type 0 where
  pub quote : nat_eq octet 34 ≡ false
  pub refers : nat_eq octet 38 ≡ false
  pub opens : nat_eq octet 60 ≡ false
  pub closes : nat_eq octet 62 ≡ false
  pub return : nat_eq octet 13 ≡ false

pub unescaped_octet : (octet : ℕ) → Unescaped octet → value_octet octet ≡ octet ∷ []
unescaped_octet octet u = skip _ _ _ (u.quote) ∙ (skip _ _ _ (u.refers) ∙ (skip _ _ _ (u.opens) ∙ (skip _ _ _ (u.closes) ∙ skip _ _ _ (u.return))))

pub high_octet : (octet : ℕ) → 128 ≤ octet → value_octet octet ≡ octet ∷ []
high_octet octet h = unescaped_octet octet (record {
  quote = differ octet 34 (λ e. omega arith);
  refers = differ octet 38 (λ e. omega arith);
  opens = differ octet 60 (λ e. omega arith);
  closes = differ octet 62 (λ e. omega arith);
  return = differ octet 13 (λ e. omega arith);
})

-- of the octets of a character only ASCII is escaped
pub unescaped_character : (code : ℕ) → (code < 128 → Unescaped code) → attribute_text (encode code) ≡ encode code
unfolding encode attribute_text
unescaped_character code u = elim (cases_Bool (nat_lt code 128)) [
  | inl one ↦ rw one (ap (λ text. text ++ []) (unescaped_octet code (u (ltb-true code 128 one))))
  | inr more ↦ elim (cases_Bool (nat_lt code 2048)) [
    | inl two ↦ rw (more, two) (rw (high_octet (192 + code / 64) (omega arith), high_octet (next code) (omega arith)) refl)
    | inr further ↦ elim (cases_Bool (nat_lt code 65536)) [
      | inl three ↦ rw (more, further, three) (rw (high_octet (224 + code / 4096) (omega arith), high_octet (next (code / 64)) (omega arith), high_octet (next code) (omega arith)) refl)
      | inr four ↦ rw (more, further, four) (rw (high_octet (240 + code / 262144) (omega arith), high_octet (next (code / 4096)) (omega arith), high_octet (next (code / 64)) (omega arith), high_octet (next code) (omega arith)) refl)
    ]
  ]
]

-- What a character is written as, and what that stands for

-- a character that is written as a reference
pub record Escape (code : ℕ) : Type 0 where
  pub text : List ℕ
  pub written : attribute_text (encode code) ≡ 38 ∷ text
  pub cut_off : (rest : List ℕ) → markups ((38 ∷ text) ++ rest) ≡ (38 ∷ text) ∷ markups rest
  pub stands_for : piece_octets (38 ∷ text) ≡ encode code

escape_and : Escape 38
unfolding encode attribute_text is_utf8 chars
escape_and = record { text = codes "amp;"; written = refl; cut_off = λ rest. markups-marked (codes "&amp;") rest (inr refl) refl; stands_for = refl }

escape_less : Escape 60
unfolding encode attribute_text is_utf8 chars
escape_less = record { text = codes "lt;"; written = refl; cut_off = λ rest. markups-marked (codes "&lt;") rest (inr refl) refl; stands_for = refl }

escape_greater : Escape 62
unfolding encode attribute_text is_utf8 chars
escape_greater = record { text = codes "gt;"; written = refl; cut_off = λ rest. markups-marked (codes "&gt;") rest (inr refl) refl; stands_for = refl }

escape_quote : Escape 34
unfolding encode attribute_text is_utf8 chars
escape_quote = record { text = codes "quot;"; written = refl; cut_off = λ rest. markups-marked (codes "&quot;") rest (inr refl) refl; stands_for = refl }

escape_return : Escape 13
unfolding encode attribute_text is_utf8 chars
escape_return = record { text = codes "#13;"; written = refl; cut_off = λ rest. markups-marked (codes "&#13;") rest (inr refl) refl; stands_for = refl }

-- a character is a `]`, is written as a reference, or is written as it is
pub data Kind (code : ℕ) : Type 0 where
  bracketed : code ≡ 93 → Kind code
  escaped : Escape code → Kind code
  unchanged : Plain code → Unescaped code → Kind code

pub kind_of : (code : ℕ) → Kind code
kind_of code = elim (cases_Bool (nat_eq code 93)) [
  | inl same ↦ bracketed (eqb-true code 93 same)
  | inr bracket ↦ elim (cases_Bool (nat_eq code 34)) [
    | inl same ↦ escaped (subst Escape (sym (eqb-true code 34 same)) escape_quote)
    | inr quote ↦ elim (cases_Bool (nat_eq code 38)) [
      | inl same ↦ escaped (subst Escape (sym (eqb-true code 38 same)) escape_and)
      | inr refers ↦ elim (cases_Bool (nat_eq code 60)) [
        | inl same ↦ escaped (subst Escape (sym (eqb-true code 60 same)) escape_less)
        | inr opens ↦ elim (cases_Bool (nat_eq code 62)) [
          | inl same ↦ escaped (subst Escape (sym (eqb-true code 62 same)) escape_greater)
          | inr closes ↦ elim (cases_Bool (nat_eq code 13)) [
            | inl same ↦ escaped (subst Escape (sym (eqb-true code 13 same)) escape_return)
            | inr returns ↦ unchanged
                (record {
                  tag = differ 60 code (λ e. eqb-false code 60 opens (sym e));
                  refers = differ 38 code (λ e. eqb-false code 38 refers (sym e));
                  bracket = differ 93 code (λ e. eqb-false code 93 bracket (sym e));
                  return = differ 13 code (λ e. eqb-false code 13 returns (sym e));
                })
                (record { quote = quote; refers = refers; opens = opens; closes = closes; return = returns })
          ]
        ]
      ]
    ]
  ]
]

-- the first octet of a character that is written as it is
pub record First (code : ℕ) : Type 0 where
  pub octet : ℕ
  pub more : List ℕ
  pub is : encode code ≡ octet ∷ more
  pub plain : Plain octet
  pub no_end : nat_eq 62 octet ≡ false

pub first_of : (code : ℕ) → Plain code → Unescaped code → First code
unfolding encode
first_of code plain u = elim (cases_Bool (nat_lt code 128)) [
  | inl one ↦ record { octet = code; more = []; is = rw one refl; plain = plain; no_end = differ 62 code (λ e. eqb-false code 62 u.closes (sym e)) }
  | inr longer ↦ elim (cases_Bool (nat_lt code 2048)) [
    | inl two ↦ record { octet = 192 + code / 64; more = next code ∷ []; is = rw (longer, two) refl; plain = high_plain (192 + code / 64) (omega arith); no_end = differ 62 (192 + code / 64) (λ e. omega arith) }
    | inr further ↦ elim (cases_Bool (nat_lt code 65536)) [
      | inl three ↦ record { octet = 224 + code / 4096; more = next (code / 64) ∷ next code ∷ []; is = rw (longer, further, three) refl; plain = high_plain (224 + code / 4096) (omega arith); no_end = differ 62 (224 + code / 4096) (λ e. omega arith) }
      | inr four ↦ record { octet = 240 + code / 262144; more = next (code / 4096) ∷ next (code / 64) ∷ next code ∷ []; is = rw (longer, further, four) refl; plain = high_plain (240 + code / 262144) (omega arith); no_end = differ 62 (240 + code / 262144) (λ e. omega arith) }
    ]
  ]
]

-- what begins no other markup stands for itself
plain_piece : (octet : ℕ) (text : List ℕ) → Plain octet → piece_octets (octet ∷ text) ≡ octet ∷ text
plain_piece octet text plain = by_test (is_xml_text (octet ∷ text)) refl
  where
    comment : begins (octet ∷ text) (codes "<!--") ≡ false
    comment = rw (plain.tag) refl

    section : begins (octet ∷ text) (codes "<![CDATA[") ≡ false
    section = rw (plain.tag) refl

    instruction : begins (octet ∷ text) (codes "<?") ≡ false
    instruction = rw (plain.tag) refl

    ends_tag : begins (octet ∷ text) (codes "</") ≡ false
    ends_tag = rw (plain.tag) refl

    tag : begins (octet ∷ text) (codes "<") ≡ false
    tag = rw (plain.tag) refl

    refers : begins (octet ∷ text) (codes "&") ≡ false
    refers = rw (plain.refers) refl

    bracket : begins (octet ∷ text) (codes "]]>") ≡ false
    bracket = rw (plain.bracket) refl

    as_itself : (found : Option Markup) → markup_of (octet ∷ text) ≡ found → (found ≡ None) ⊎ (found ≡ Some (character (octet ∷ text))) → piece_octets (octet ∷ text) ≡ octet ∷ text
    as_itself found e (inl none) = rw (e ∙ none, piece_octets) refl
    as_itself found e (inr itself) = rw (e ∙ itself, piece_octets) refl

    by_test : (test : Bool) → is_xml_text (octet ∷ text) ≡ test → piece_octets (octet ∷ text) ≡ octet ∷ text
    by_test false t = as_itself (markup_of (octet ∷ text)) refl (inl (pick _ _ _ (ap not t)))
    by_test true t = as_itself (markup_of (octet ∷ text)) refl (inr (skip _ _ _ (ap not t) ∙ (skip _ _ _ comment ∙ (skip _ _ _ section ∙ (skip _ _ _ instruction ∙ (skip _ _ _ ends_tag ∙ (skip _ _ _ tag ∙ (skip _ _ _ refers ∙ skip _ _ _ bracket))))))))

bracket_written : (rest : List ℕ) → attribute_text (encode 93) ++ rest ≡ 93 ∷ rest
unfolding encode attribute_text
bracket_written rest = refl

bracket_encoded : encode 93 ≡ 93 ∷ []
unfolding encode
bracket_encoded = refl

-- no end of a section is made by what stands behind a `]`
no_end_of_section : (codes_of : List ℕ) → (begins (attribute_text (encodes codes_of)) (codes ">") ≡ false) × (begins (attribute_text (encodes codes_of)) (codes "]>") ≡ false)
unfolding attribute_text
no_end_of_section [] = (refl, refl)
no_end_of_section (code ∷ more) = by_kind (kind_of code) (no_end_of_section more).0
  where
    split : attribute_text (encode code ++ encodes more) ≡ attribute_text (encode code) ++ attribute_text (encodes more)
    split = attribute_text-append (encode code) (encodes more)

    by_kind : Kind code → begins (attribute_text (encodes more)) (codes ">") ≡ false → (begins (attribute_text (encode code ++ encodes more)) (codes ">") ≡ false) × (begins (attribute_text (encode code ++ encodes more)) (codes "]>") ≡ false)
    by_kind (bracketed same) behind =
        let written : attribute_text (encode code ++ encodes more) ≡ 93 ∷ attribute_text (encodes more) = split ∙ ap (λ (c : ℕ). attribute_text (encode c) ++ attribute_text (encodes more)) same ∙ bracket_written (attribute_text (encodes more)) in
        rw written (refl, behind)
    by_kind (escaped e) behind = rw (split ∙ ap (λ text. text ++ attribute_text (encodes more)) e.written) (refl, refl)
    by_kind (unchanged plain u) behind =
        let first = first_of code plain u in
        let written : attribute_text (encode code ++ encodes more) ≡ first.octet ∷ (first.more ++ attribute_text (encodes more)) = split ∙ ap (λ text. text ++ attribute_text (encodes more)) (unescaped_character code (λ small. u) ∙ first.is) in
        rw written (rw (first.no_end) refl, rw (first.plain.bracket) refl)

-- one more piece of a value
value_octets-piece : (piece rest : List ℕ) (octets : List ℕ) → markups (piece ++ rest) ≡ piece ∷ markups rest → piece_octets piece ≡ octets → value_octets (piece ++ rest) ≡ octets ++ value_octets rest
value_octets-piece piece rest octets e f = ap (λ pieces. flat_map piece_octets pieces) e ∙ ap (λ front. front ++ value_octets rest) f

bracket_piece : piece_octets (93 ∷ []) ≡ 93 ∷ []
unfolding is_utf8 chars encode
bracket_piece = refl

bracket_size : (rest : List ℕ) → begins rest (codes "]>") ≡ false → markup_size (93 ∷ rest) ≡ 1
bracket_size rest h = skip (begins (93 ∷ rest) (codes "]]>")) _ _ h

one_character : (code : ℕ) (more : List ℕ) → Kind code → value_octets (attribute_text (encodes more)) ≡ encodes more → value_octets (attribute_text (encode code ++ encodes more)) ≡ encode code ++ encodes more
one_character code more kind h = by_kind kind
  where
    split : attribute_text (encode code ++ encodes more) ≡ attribute_text (encode code) ++ attribute_text (encodes more)
    split = attribute_text-append (encode code) (encodes more)

    by_kind : Kind code → value_octets (attribute_text (encode code ++ encodes more)) ≡ encode code ++ encodes more
    by_kind (bracketed same) =
        let text = attribute_text (encodes more) in
        let as_bracket : encode code ≡ 93 ∷ [] = ap encode same ∙ bracket_encoded in
        let written : attribute_text (encode code ++ encodes more) ≡ (93 ∷ []) ++ text = split ∙ (ap (λ (c : ℕ). attribute_text (encode c) ++ text) same ∙ bracket_written text) in
        ap value_octets written
        ∙ (value_octets-piece (93 ∷ []) text (93 ∷ []) (markups-append 93 [] text (bracket_size text (no_end_of_section more).1)) bracket_piece
        ∙ (ap (λ behind. (93 ∷ []) ++ behind) h ∙ ap (λ front. front ++ encodes more) (sym as_bracket)))
    by_kind (escaped e) =
        ap value_octets (split ∙ ap (λ text. text ++ attribute_text (encodes more)) e.written)
        ∙ (value_octets-piece (38 ∷ e.text) (attribute_text (encodes more)) (encode code) (e.cut_off (attribute_text (encodes more))) e.stands_for
        ∙ ap (λ behind. encode code ++ behind) h)
    by_kind (unchanged plain u) =
        let first = first_of code plain u in
        let itself : piece_octets (encode code) ≡ encode code = ap piece_octets first.is ∙ (plain_piece first.octet first.more first.plain ∙ sym first.is) in
        ap value_octets (split ∙ ap (λ text. text ++ attribute_text (encodes more)) (unescaped_character code (λ small. u)))
        ∙ (value_octets-piece (encode code) (attribute_text (encodes more)) (encode code) (markups-character code (attribute_text (encodes more)) (λ small. plain)) itself
        ∙ ap (λ behind. encode code ++ behind) h)

value_octets-characters : (characters : List ℕ) → value_octets (attribute_text (encodes characters)) ≡ encodes characters
unfolding attribute_text
value_octets-characters [] = refl
value_octets-characters (code ∷ more) = one_character code more (kind_of code) (value_octets-characters more)

-- the written text of a value stands for the value
pub value_octets-attribute_text : (value : List ℕ) → IsUtf8 value → value_octets (attribute_text value) ≡ value
value_octets-attribute_text value (characters, (fine, same)) = subst (λ (octets : List ℕ). value_octets (attribute_text octets) ≡ octets) same (value_octets-characters characters)
