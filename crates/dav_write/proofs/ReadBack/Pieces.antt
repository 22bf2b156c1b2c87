-- What stands in quotes in an XML text is XML text.
use Rattle.std.proofs.Common.{◌≡◌, ℕ, ◌<◌, Bool, true, false, List, [], ◌∷◌, ◌++◌, Option, Some, None, inl, inr, arith, refl, sym, ap, ◌∙◌, append_assoc}
use Rattle.std.specs.Prelude.{⊤, ◌==◌, ◌&&◌, ◌||◌}
use Rattle.std.proofs.lemmas.Bool.{eqb-true, cases_Bool}
use Rattle.std.proofs.lemmas.List.{append-nil}
use Rattle.cal_base.specs.Texts.Octets.{colon}
use Rattle.cal_base.specs.Lines.ContentLines.{pieces, onto_first}
use Rattle.cal_base.specs.Xml.XmlNames.{QName, is_plain_name, is_xml_text, qname_of, qname_of_pieces}
use Rattle.cal_base.specs.Xml.XmlMarkup.{is_quote, quoted_pieces}
use Rattle.cal_base.proofs.Xml.XmlNameLemmas.{both_true}
use Rattle.cal_base.proofs.Xml.XmlTagLemmas.{given}
use Rattle.dav_write.proofs.ReadBack.SaidTexts.{ascii_split, behind_ascii}

-- the name behind the prefix is a name
local_of : (parts : List (List ℕ)) (name : QName) → qname_of_pieces parts ≡ Some name → is_plain_name name.local ≡ true
local_of [] name e = absurd cc
local_of (local ∷ []) name e =
    let (plain, same) = given (is_plain_name local) (record { prefix = []; local = local }) name e in
    ap (λ (n : QName). is_plain_name n.local) (sym same) ∙ plain
local_of (prefix ∷ local ∷ []) name e =
    let (plain, same) = given (is_plain_name prefix && is_plain_name local) (record { prefix = prefix; local = local }) name e in
    ap (λ (n : QName). is_plain_name n.local) (sym same) ∙ (both_true (is_plain_name prefix) _ plain).1
local_of (first ∷ second ∷ third ∷ more) name e = absurd cc

pub local_plain : (text : List ℕ) (name : QName) → qname_of text ≡ Some name → is_plain_name name.local ≡ true
local_plain text name e = local_of (pieces colon text) name e

-- every second piece is XML text
abbrev pub FineOutside : List (List ℕ) → Type 0
FineOutside [] = ⊤
FineOutside (last ∷ []) = ⊤
FineOutside (before ∷ value ∷ more) = (is_xml_text value ≡ true) × FineOutside more

-- the first piece with what stands before it, and then every second
abbrev pub FineInside : List ℕ → List (List ℕ) → Type 0
FineInside front [] = ⊥
FineInside front (value ∷ more) = (is_xml_text (front ++ value) ≡ true) × FineOutside more

outside_onto : (octet : ℕ) (parts : List (List ℕ)) → FineOutside parts → FineOutside (onto_first octet parts)
outside_onto octet [] f = tt
outside_onto octet (last ∷ []) f = tt
outside_onto octet (before ∷ value ∷ more) f = f

outside_quote : (parts : List (List ℕ)) → FineInside [] parts → FineOutside ([] ∷ parts)
outside_quote [] f = absurd f
outside_quote (value ∷ more) f = f

inside_onto : (front : List ℕ) (octet : ℕ) (parts : List (List ℕ)) → FineInside (front ++ octet ∷ []) parts → FineInside front (onto_first octet parts)
inside_onto front octet [] f = absurd f
inside_onto front octet (value ∷ more) (fine, rest) = (ap is_xml_text (sym (append_assoc front (octet ∷ []) value)) ∙ fine, rest)

quote_small : (octet : ℕ) → is_quote octet ≡ true → octet < 128
quote_small octet e = elim (cases_Bool (octet == 34)) [
  | inl same ↦ omega (arith, eqb-true octet 34 same)
  | inr double ↦ omega (arith, eqb-true octet 39 (sym (ap (λ (test : Bool). test || (octet == 39)) double) ∙ e))
]

abbrev IsSmall : Option ℕ → Type 0
IsSmall None = ⊤
IsSmall (Some quote) = quote < 128

abbrev Fine : Option ℕ → List ℕ → List (List ℕ) → Type 0
Fine None front parts = FineOutside parts
Fine (Some quote) front parts = FineInside front parts

step_outside : (front : List ℕ) (octet : ℕ) (text : List ℕ) (test : Bool) → is_quote octet ≡ test → is_xml_text (front ++ octet ∷ text) ≡ true
    → (octet < 128 → is_xml_text text ≡ true → FineInside [] (quoted_pieces (Some octet) text)) → FineOutside (quoted_pieces None text)
    → FineOutside (elim test [ true ↦ [] ∷ quoted_pieces (Some octet) text | false ↦ onto_first octet (quoted_pieces None text) ])
step_outside front octet text true q e inner more =
    let small = quote_small octet q in
    outside_quote (quoted_pieces (Some octet) text) (inner small (behind_ascii text octet small (ascii_split front text octet small e).1).1)
step_outside front octet text false q e inner more = outside_onto octet (quoted_pieces None text) more

step_inside : (quote : ℕ) (front : List ℕ) (octet : ℕ) (text : List ℕ) (test : Bool) → (octet == quote) ≡ test → quote < 128 → is_xml_text (front ++ octet ∷ text) ≡ true
    → FineOutside (quoted_pieces None text) → FineInside (front ++ octet ∷ []) (quoted_pieces (Some quote) text)
    → FineInside front (elim test [ true ↦ [] ∷ quoted_pieces None text | false ↦ onto_first octet (quoted_pieces (Some quote) text) ])
step_inside quote front octet text true q small e outer more =
    (ap is_xml_text (append-nil front) ∙ (ascii_split front text octet (omega (arith, eqb-true octet quote q, small)) e).0, outer)
step_inside quote front octet text false q small e outer more = inside_onto front octet (quoted_pieces (Some quote) text) more

pieces_fine : (quote : Option ℕ) (text : List ℕ) → IsSmall quote → (front : List ℕ) → is_xml_text (front ++ text) ≡ true → Fine quote front (quoted_pieces quote text)
pieces_fine None [] s front e = tt
pieces_fine (Some quote) [] s front e = (e, tt)
pieces_fine None (octet ∷ text) s front e =
    step_outside front octet text (is_quote octet) refl e (λ small fine. pieces_fine (Some octet) text small [] fine)
    (pieces_fine None text tt (front ++ octet ∷ []) (ap is_xml_text (append_assoc front (octet ∷ []) text) ∙ e))
pieces_fine (Some quote) (octet ∷ text) s front e =
    let moved : is_xml_text ((front ++ octet ∷ []) ++ text) ≡ true = ap is_xml_text (append_assoc front (octet ∷ []) text) ∙ e in
    step_inside quote front octet text (octet == quote) refl s e (pieces_fine None text tt (front ++ octet ∷ []) moved) (pieces_fine (Some quote) text s (front ++ octet ∷ []) moved)

-- the values in a text of XML are texts of XML
pub values_fine : (front text : List ℕ) → is_xml_text (front ++ text) ≡ true → FineOutside (quoted_pieces None text)
values_fine front text e = pieces_fine None text tt front e
