-- Names with a prefix, by their first colon; attributes, by their quotes.
use Rattle.std.proofs.Common.{◌≡◌, ℕ, true, false, List, [], ◌∷◌, ◌++◌, Option, Some, None, refl, sym, ap, ◌∙◌, drop, append_assoc}
use Rattle.std.specs.Prelude.{◌==◌, ◌&&◌, option_map, option_and_then, if◌then◌else◌, cond}
use Rattle.cal_base.specs.Texts.Octets.{colon}
use Rattle.cal_base.specs.Lines.ContentLines.{pieces, onto_first}
use Rattle.cal_base.specs.Xml.XmlNames.{qname_of, qname_of_pieces, is_plain_name}
use Rattle.cal_base.specs.Xml.XmlMarkup.{WrittenAttribute, is_quote, quoted_pieces, attribute_of, attributes_of}
use Rattle.dav_body.specs.Splits.{first_split, is_octet, preceded}

-- what stands behind the octet at which a text is cut
abbrev pub split_pieces : (List ℕ → List (List ℕ)) → List ℕ → Option (List ℕ × List ℕ) → List (List ℕ)
split_pieces more text None = text ∷ []
split_pieces more text (Some parts) = parts.0 ∷ more (drop 1 parts.1)

split_pieces_cons : (more : List ℕ → List (List ℕ)) (octet : ℕ) (text : List ℕ) (parts : Option (List ℕ × List ℕ))
    → onto_first octet (split_pieces more text parts) ≡ split_pieces more (octet ∷ text) (option_map (λ (parts : List ℕ × List ℕ). (octet ∷ parts.0, parts.1)) parts)
split_pieces_cons more octet text None = refl
split_pieces_cons more octet text (Some parts) = refl

pub pieces_split : (text : List ℕ) → pieces colon text ≡ split_pieces (pieces colon) text (first_split (is_octet colon) text)
pieces_split [] = refl
pieces_split (octet ∷ text) =
    elim (octet == colon) as (λ b. cond b ([] ∷ pieces colon text) (onto_first octet (pieces colon text))
    ≡ split_pieces (pieces colon) (octet ∷ text) (elim b [ true ↦ Some ([], octet ∷ text) | false ↦ option_map (λ (parts : List ℕ × List ℕ). (octet ∷ parts.0, parts.1)) (first_split (is_octet colon) text) ])) [
      | true ↦ refl
      | false ↦ ap (onto_first octet) (pieces_split text) ∙ split_pieces_cons (pieces colon) octet text (first_split (is_octet colon) text)
    ]

pub inside_split : (quote : ℕ) (text : List ℕ) → quoted_pieces (Some quote) text ≡ split_pieces (quoted_pieces None) text (first_split (is_octet quote) text)
inside_split quote [] = refl
inside_split quote (octet ∷ text) =
    elim (octet == quote) as (λ b. elim b [ true ↦ [] ∷ quoted_pieces None text | false ↦ onto_first octet (quoted_pieces (Some quote) text) ]
    ≡ split_pieces (quoted_pieces None) (octet ∷ text) (elim b [ true ↦ Some ([], octet ∷ text) | false ↦ option_map (λ (parts : List ℕ × List ℕ). (octet ∷ parts.0, parts.1)) (first_split (is_octet quote) text) ])) [
      | true ↦ refl
      | false ↦ ap (onto_first octet) (inside_split quote text) ∙ split_pieces_cons (quoted_pieces None) octet text (first_split (is_octet quote) text)
    ]

-- the pieces from the octet of a quote on
abbrev pub from_quote : List ℕ → List (List ℕ)
from_quote [] = []
from_quote (quote ∷ text) = quoted_pieces (Some quote) text

abbrev pub outside_pieces : List ℕ → Option (List ℕ × List ℕ) → List (List ℕ)
outside_pieces text None = text ∷ []
outside_pieces text (Some parts) = parts.0 ∷ from_quote parts.1

outside_pieces_cons : (octet : ℕ) (text : List ℕ) (parts : Option (List ℕ × List ℕ))
    → onto_first octet (outside_pieces text parts) ≡ outside_pieces (octet ∷ text) (option_map (λ (parts : List ℕ × List ℕ). (octet ∷ parts.0, parts.1)) parts)
outside_pieces_cons octet text None = refl
outside_pieces_cons octet text (Some parts) = refl

pub outside_split : (text : List ℕ) → quoted_pieces None text ≡ outside_pieces text (first_split is_quote text)
outside_split [] = refl
outside_split (octet ∷ text) =
    elim (is_quote octet) as (λ b. elim b [ true ↦ [] ∷ quoted_pieces (Some octet) text | false ↦ onto_first octet (quoted_pieces None text) ]
    ≡ outside_pieces (octet ∷ text) (elim b [ true ↦ Some ([], octet ∷ text) | false ↦ option_map (λ (parts : List ℕ × List ℕ). (octet ∷ parts.0, parts.1)) (first_split is_quote text) ])) [
      | true ↦ refl
      | false ↦ ap (onto_first octet) (outside_split text) ∙ outside_pieces_cons octet text (first_split is_quote text)
    ]

-- The pieces of a text, told by where it is cut

pub quoted_no : (text : List ℕ) → first_split is_quote text ≡ None → quoted_pieces None text ≡ text ∷ []
quoted_no text none = outside_split text ∙ ap (outside_pieces text) none

pub quoted_open : (text before rest : List ℕ) (quote : ℕ) → first_split is_quote text ≡ Some (before, quote ∷ rest) → first_split (is_octet quote) rest ≡ None → quoted_pieces None text ≡ before ∷ rest ∷ []
quoted_open text before rest quote here none =
    outside_split text ∙ ap (outside_pieces text) here ∙ ap (λ more. before ∷ more) (inside_split quote rest ∙ ap (split_pieces (quoted_pieces None) rest) none)

pub quoted_whole : (text before rest value behind : List ℕ) (quote : ℕ) → first_split is_quote text ≡ Some (before, quote ∷ rest) → first_split (is_octet quote) rest ≡ Some (value, behind)
    → quoted_pieces None text ≡ before ∷ value ∷ quoted_pieces None (drop 1 behind)
quoted_whole text before rest value behind quote here there =
    outside_split text ∙ ap (outside_pieces text) here ∙ ap (λ more. before ∷ more) (inside_split quote rest ∙ ap (split_pieces (quoted_pieces None) rest) there)

-- Attributes, one after another

attributes_cons_of : (done : List WrittenAttribute) (before value : List ℕ) (more : List (List ℕ)) (attribute : WrittenAttribute) (others : Option (List WrittenAttribute)) → attribute_of before value ≡ Some attribute → attributes_of more ≡ others
    → preceded done (attributes_of (before ∷ value ∷ more)) ≡ preceded (done ++ attribute ∷ []) (attributes_of more)
attributes_cons_of done before value more attribute None here there = rw (here, there) refl
attributes_cons_of done before value more attribute (Some others) here there = rw (here, there) (ap Some (sym (append_assoc done (attribute ∷ []) others)))

pub attributes_cons : (done : List WrittenAttribute) (before value : List ℕ) (more : List (List ℕ)) (attribute : WrittenAttribute) → attribute_of before value ≡ Some attribute
    → preceded done (attributes_of (before ∷ value ∷ more)) ≡ preceded (done ++ attribute ∷ []) (attributes_of more)
attributes_cons done before value more attribute here = attributes_cons_of done before value more attribute (attributes_of more) here refl

pub attributes_bad : (done : List WrittenAttribute) (before value : List ℕ) (more : List (List ℕ)) → attribute_of before value ≡ None → preceded done (attributes_of (before ∷ value ∷ more)) ≡ None
attributes_bad done before value more none = ap (λ found. preceded done (option_and_then (λ attribute. option_map (λ others. attribute ∷ others) (attributes_of more)) found)) none

-- Names

pub qname_plain : (text : List ℕ) → first_split (is_octet colon) text ≡ None → qname_of text ≡ (if is_plain_name text then Some (record { prefix = []; local = text }) else None)
qname_plain text none = ap qname_of_pieces (pieces_split text ∙ ap (split_pieces (pieces colon) text) none)

pub qname_prefixed : (text prefix local : List ℕ) → first_split (is_octet colon) text ≡ Some (prefix, local) → first_split (is_octet colon) (drop 1 local) ≡ None
    → qname_of text ≡ (if is_plain_name prefix && is_plain_name (drop 1 local) then Some (record { prefix = prefix; local = drop 1 local }) else None)
qname_prefixed text prefix local here none =
    ap qname_of_pieces (
    pieces_split text ∙ ap (split_pieces (pieces colon) text) here
    ∙ ap (λ more. prefix ∷ more) (pieces_split (drop 1 local) ∙ ap (split_pieces (pieces colon) (drop 1 local)) none)
    )

three_pieces : (first second : List ℕ) (text : List ℕ) (parts : Option (List ℕ × List ℕ)) → first_split (is_octet colon) text ≡ parts → qname_of_pieces (first ∷ second ∷ split_pieces (pieces colon) text parts) ≡ None
three_pieces first second text None is = refl
three_pieces first second text (Some parts) is = refl

pub qname_of_three : (text first rest second more : List ℕ) → first_split (is_octet colon) text ≡ Some (first, rest) → first_split (is_octet colon) (drop 1 rest) ≡ Some (second, more) → qname_of text ≡ None
qname_of_three text first rest second more here there =
    ap qname_of_pieces (
    pieces_split text ∙ ap (split_pieces (pieces colon) text) here
    ∙ ap (λ others. first ∷ others) (pieces_split (drop 1 rest) ∙ ap (split_pieces (pieces colon) (drop 1 rest)) there)
    ∙ ap (λ others. first ∷ second ∷ others) (pieces_split (drop 1 more))
    )
    ∙ three_pieces first second (drop 1 more) (first_split (is_octet colon) (drop 1 more)) refl
