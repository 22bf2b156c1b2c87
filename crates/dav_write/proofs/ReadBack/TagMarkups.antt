-- The tags of an element's canonical text are markups, whatever stands behind them.
use Rattle.std.proofs.Common.{◌≡◌, ℕ, suc, ◌+◌, Bool, true, false, List, [], ◌∷◌, ◌++◌, map, length, Option, Some, None, inl, inr, arith, refl, sym, ap, subst, ◌∙◌, append_assoc, length-append}
use Rattle.std.specs.Prelude.{not, ◌==◌, ◌&&◌, nat_eq, codes, if◌then◌else◌, option_map, option_and_then, is_some}
use Rattle.std.specs.Str.{is_utf8, chars}
use lib.Utf8.{encode}
use Rattle.std.proofs.lemmas.Bool.{eqb-false, cases_Bool}
use Rattle.cal_base.specs.Lines.ComponentTrees.{or_else}
use Rattle.cal_base.specs.Xml.XmlNames.{QName, qname_of, is_xml_text}
use Rattle.cal_base.specs.Xml.XmlMarkup.{Tag, Markup, opening, closing, begins, ends, inside, tag_size, markup_size, markup_of, opening_of, tag_of, is_one_markup, without_last_blanks}
use Rattle.cal_base.specs.Xml.XmlFaults.{Fault, fault_at, inner_fault, first_inner, references_fault}
use Rattle.cal_base.specs.Xml.CanonicalXml.{value_octet, attribute_text, attribute}
use Rattle.cal_base.proofs.Xml.XmlNameLemmas.{qname_of-nil}
use Rattle.cal_base.proofs.Xml.XmlTagLemmas.{pick, skip, markups-marked, markup_size-tag}
use Rattle.dav_write.proofs.ReadBack.Spelling.{IsMarkup}
use Rattle.dav_write.proofs.ReadBack.Characters.{xml_text_append}
use Rattle.dav_write.proofs.ReadBack.ValueTexts.{value_text_fine}
use Rattle.dav_write.proofs.ReadBack.NameTexts.{NameText}
use Rattle.dav_write.proofs.ReadBack.Tags.{Lacks, AllLack, name_lacks, Unquoted, unquoted_value, Pair, IsPair, ArePairs, pairs_text, pair_attribute, pair_split, read_tag, inside_of, no_last, no_slash, tag_ends, ends_so}
use Rattle.dav_write.proofs.ReadBack.Frame.{open_text, alone_text, close_text}

-- Sizes

size_name : (name rest : List ℕ) → AllLack name → tag_size None (name ++ rest) ≡ length name + tag_size None rest
size_name [] rest lacks = omega arith
size_name (octet ∷ name) rest (here, lacks) = rw (here.greater, here.quote, tag_size) (omega (arith, size_name name rest lacks))

size_value : (value rest : List ℕ) → Unquoted value → tag_size (Some 34) (value ++ 34 ∷ rest) ≡ length value + 1 + tag_size None rest
size_value [] rest u = omega arith
size_value (octet ∷ value) rest (quote, less, u) = rw (quote, tag_size) (omega (arith, size_value value rest u))

size_pairs : (pairs : List Pair) (rest : List ℕ) → ArePairs pairs → tag_size None (pairs_text pairs ++ rest) ≡ length (pairs_text pairs) + tag_size None rest
size_pairs [] rest are = omega arith
size_pairs (pair ∷ pairs) rest (is, are) =
    let more = pairs_text pairs in
    let value = attribute_text pair.value in
    let split : (attribute pair.text pair.value ++ more) ++ rest ≡ 32 ∷ (pair.text ++ 61 ∷ 34 ∷ (value ++ 34 ∷ (more ++ rest))) = append_assoc (attribute pair.text pair.value) more rest ∙ pair_split pair (more ++ rest) in
    let named : tag_size None (pair.text ++ 61 ∷ 34 ∷ (value ++ 34 ∷ (more ++ rest))) ≡ length pair.text + (2 + (length value + 1 + tag_size None (more ++ rest))) = size_name pair.text (61 ∷ 34 ∷ (value ++ 34 ∷ (more ++ rest))) (name_lacks pair.text pair.name is.named) ∙ ap (λ (size : ℕ). length pair.text + (suc (suc size))) (size_value value (more ++ rest) (unquoted_value pair.value)) ∙ omega arith in
    let size_text : length (attribute pair.text pair.value ++ more) ≡ suc (length pair.text + (2 + (length value + (1 + length more)))) =
    ap (λ (text : List ℕ). length text) (pair_split pair more) ∙ omega (arith, length-append pair.text (61 ∷ 34 ∷ (value ++ 34 ∷ more)), length-append value (34 ∷ more)) in
    ap (tag_size None) split ∙ omega (arith, named, size_text, size_pairs pairs rest are)

-- References

record InnerFine (text : List ℕ) : Type 0 where
  at : (place : ℕ) → ◌≡◌ {A = Option Fault} (first_inner place text) None

inner_next : (octet : ℕ) (rest : List ℕ) → (octet == 38) ≡ false → InnerFine rest → InnerFine (octet ∷ rest)
inner_next octet rest e h = record { at = λ place. ap (λ (test : Bool). or_else (if test then option_map (fault_at place) (inner_fault (octet ∷ rest)) else None) (first_inner (suc place) rest)) e ∙ h.at (suc place) }

inner_name : (name rest : List ℕ) → AllLack name → InnerFine rest → InnerFine (name ++ rest)
inner_name [] rest lacks h = h
inner_name (octet ∷ name) rest (here, lacks) h = inner_next octet (name ++ rest) here.reference (inner_name name rest lacks h)

inner_reference : (text rest : List ℕ) → inner_fault (38 ∷ (text ++ rest)) ≡ None → InnerFine (text ++ rest) → InnerFine (38 ∷ (text ++ rest))
inner_reference text rest e h = record { at = λ place. ap (λ fault. or_else (option_map (fault_at place) fault) (first_inner (suc place) (text ++ rest))) e ∙ h.at (suc place) }

inner_amp : (rest : List ℕ) → (inner_fault (codes "&amp;" ++ rest) ≡ None) × (inner_fault (codes "&lt;" ++ rest) ≡ None) × (inner_fault (codes "&gt;" ++ rest) ≡ None) × (inner_fault (codes "&#13;" ++ rest) ≡ None) × (inner_fault (codes "&quot;" ++ rest) ≡ None)
unfolding is_utf8 chars encode
inner_amp rest = (refl, refl, refl, refl, refl)

inner_octet : (octet : ℕ) (rest : List ℕ) → InnerFine rest → InnerFine (value_octet octet ++ rest)
inner_octet octet rest h = by_tests (octet == 34) (octet == 38) (octet == 60) (octet == 62) (octet == 13) refl
  where
    by_tests : (quote refers opens closes returns : Bool) → (octet == 38) ≡ refers → InnerFine ((if quote then codes "&quot;" else if refers then codes "&amp;" else if opens then codes "&lt;" else if closes then codes "&gt;" else if returns then codes "&#13;" else octet ∷ []) ++ rest)
    by_tests true refers opens closes returns e = inner_reference (codes "quot;") rest (inner_amp rest).4 (record { at = λ place. h.at (suc (suc (suc (suc (suc place))))) })
    by_tests false true opens closes returns e = inner_reference (codes "amp;") rest (inner_amp rest).0 (record { at = λ place. h.at (suc (suc (suc (suc place)))) })
    by_tests false false true closes returns e = inner_reference (codes "lt;") rest (inner_amp rest).1 (record { at = λ place. h.at (suc (suc (suc place))) })
    by_tests false false false true returns e = inner_reference (codes "gt;") rest (inner_amp rest).2 (record { at = λ place. h.at (suc (suc (suc place))) })
    by_tests false false false false true e = inner_reference (codes "#13;") rest (inner_amp rest).3 (record { at = λ place. h.at (suc (suc (suc (suc place)))) })
    by_tests false false false false false e = inner_next octet rest e h

inner_value : (value rest : List ℕ) → InnerFine rest → InnerFine (attribute_text value ++ rest)
unfolding attribute_text
inner_value [] rest h = h
inner_value (octet ∷ value) rest h = subst InnerFine (sym (append_assoc (value_octet octet) (attribute_text value) rest)) (inner_octet octet (attribute_text value ++ rest) (inner_value value rest h))

inner_pairs : (pairs : List Pair) (rest : List ℕ) → ArePairs pairs → InnerFine rest → InnerFine (pairs_text pairs ++ rest)
inner_pairs [] rest are h = h
inner_pairs (pair ∷ pairs) rest (is, are) h =
    let more = pairs_text pairs in
    subst InnerFine (sym (append_assoc (attribute pair.text pair.value) more rest ∙ pair_split pair (more ++ rest)))
    (inner_next 32 _ refl (inner_name pair.text _ (name_lacks pair.text pair.name is.named) (inner_next 61 _ refl (inner_next 34 _ refl
    (inner_value pair.value (34 ∷ (more ++ rest)) (inner_next 34 _ refl (inner_pairs pairs rest are h)))))))

sound_of : (text : List ℕ) → InnerFine text → (place : ℕ) → ◌≡◌ {A = Option Fault} (references_fault place text) None
sound_of text h place = by_test (begins text (codes "<") && not (begins text (codes "<!")) && not (begins text (codes "<?")))
  where
    by_test : (test : Bool) → ◌≡◌ {A = Option Fault} (if test then first_inner place text else None) None
    by_test true = h.at place
    by_test false = refl

-- Characters

marks_fine : (is_xml_text (codes "<") ≡ true) × (is_xml_text (codes ">") ≡ true) × (is_xml_text (codes "/>") ≡ true) × (is_xml_text (codes "</") ≡ true) × (is_xml_text (codes " ") ≡ true) × (is_xml_text (codes "=\"") ≡ true) × (is_xml_text (codes "\"") ≡ true) × (is_xml_text [] ≡ true)
unfolding is_utf8 chars encode
marks_fine = (refl, refl, refl, refl, refl, refl, refl, refl)

pair_fine : (pair : Pair) → IsPair pair → is_xml_text (attribute pair.text pair.value) ≡ true
pair_fine pair is =
    xml_text_append (codes " ") _ marks_fine.4 (xml_text_append pair.text _ is.named.fine (xml_text_append (codes "=\"") _ marks_fine.5
    (xml_text_append (attribute_text pair.value) (codes "\"") (value_text_fine pair.value is.fine) marks_fine.6)))

pairs_fine : (pairs : List Pair) → ArePairs pairs → is_xml_text (pairs_text pairs) ≡ true
pairs_fine [] are = marks_fine.7
pairs_fine (pair ∷ pairs) (is, are) = xml_text_append (attribute pair.text pair.value) (pairs_text pairs) (pair_fine pair is) (pairs_fine pairs are)

-- Markups

marked : (text : List ℕ) (markup : Markup) (rest : List ℕ) → begins text (codes "<") ≡ true → markup_size text ≡ length text → markup_of text ≡ Some markup → InnerFine text → IsMarkup text markup rest
marked text markup rest b size is inner = record {
  cut_off = markups-marked text rest (inl b) (by_both size is);
  is = is;
  sound = sound_of text inner;
}
  where
    same : (n : ℕ) → nat_eq n n ≡ true
    same n = elim (cases_Bool (nat_eq n n)) [
      | inl equal ↦ equal
      | inr other ↦ absurd (eqb-false n n other refl)
    ]

    by_both : markup_size text ≡ length text → markup_of text ≡ Some markup → is_one_markup text ≡ true
    by_both s i = ap (λ (size : ℕ). (size == length text) && is_some (markup_of text)) s ∙ ap (λ (test : Bool). test && is_some (markup_of text)) (same (length text)) ∙ ap is_some i

as_opening : (first : ℕ) (more : List ℕ) → Lacks first → is_xml_text (60 ∷ first ∷ more) ≡ true → markup_of (60 ∷ first ∷ more) ≡ opening_of (60 ∷ first ∷ more)
as_opening first more lacks fine =
    let text = 60 ∷ first ∷ more in
    let comment : begins text (codes "<!--") ≡ false = rw (lacks.bang) refl in
    let section : begins text (codes "<![CDATA[") ≡ false = rw (lacks.bang) refl in
    let instruction : begins text (codes "<?") ≡ false = rw (lacks.question) refl in
    let closes : begins text (codes "</") ≡ false = rw (lacks.slash) refl in
    skip _ _ _ (ap not fine) ∙ (skip _ _ _ comment ∙ (skip _ _ _ section ∙ (skip _ _ _ instruction ∙ skip _ _ _ closes)))

abbrev pub tag_made : QName → List Pair → Bool → Tag
tag_made name pairs is_empty = record { name = name; attributes = map pair_attribute pairs; is_empty = is_empty }

-- the tag of a name that is not empty
pub open_is : (name : List ℕ) (qname : QName) (pairs : List Pair) (rest : List ℕ) → NameText name qname → ArePairs pairs → IsMarkup (open_text name (pairs_text pairs)) (opening (tag_made qname pairs false)) rest
open_is [] qname pairs rest n are = absurd (qname_of-nil qname n.read)
open_is (first ∷ name) qname pairs rest n are =
    let whole = first ∷ name in
    let attributes = pairs_text pairs in
    let text = open_text whole attributes in
    let behind = name ++ (attributes ++ codes ">") in
    let lacks = name_lacks whole qname n in
    let joined : whole ++ (attributes ++ 62 ∷ []) ≡ (whole ++ attributes) ++ 62 ∷ [] = sym (append_assoc whole attributes (62 ∷ [])) in
    let fine : is_xml_text text ≡ true = xml_text_append (codes "<") _ marks_fine.0 (xml_text_append whole _ n.fine (xml_text_append attributes (codes ">") (pairs_fine pairs are) marks_fine.1)) in
    let sizes : tag_size None (whole ++ (attributes ++ 62 ∷ [])) ≡ length whole + (length attributes + 1) = size_name whole (attributes ++ 62 ∷ []) lacks ∙ ap (λ (n : ℕ). length whole + n) (size_pairs pairs (62 ∷ []) are) in
    let long : length (whole ++ (attributes ++ 62 ∷ [])) ≡ length whole + (length attributes + 1) = length-append whole (attributes ++ 62 ∷ []) ∙ ap (λ (n : ℕ). length whole + n) (length-append attributes (62 ∷ [])) in
    let size : markup_size text ≡ length text = markup_size-tag first behind lacks.0.bang lacks.0.question ∙ omega (arith, sizes, long) in
    let no_end : ends text (codes "/>") ≡ false = ap (λ (t : List ℕ). ends (60 ∷ t) (codes "/>")) joined ∙ no_slash (whole ++ attributes) (tag_ends whole qname pairs n) in
    let inner : inside 1 (codes ">") text ≡ Some (whole ++ attributes) = ap (λ (t : List ℕ). inside 1 (codes ">") (60 ∷ t)) joined ∙ inside_of (60 ∷ []) (whole ++ attributes) (62 ∷ []) in
    let is : markup_of text ≡ Some (opening (tag_made qname pairs false)) =
    as_opening first behind lacks.0 fine ∙ skip _ _ _ no_end ∙ ap (option_and_then (tag_of false)) inner ∙ read_tag false whole qname pairs n are in
    marked text (opening (tag_made qname pairs false)) rest refl size is
    (inner_next 60 _ refl (inner_name whole (attributes ++ 62 ∷ []) lacks (inner_pairs pairs (62 ∷ []) are (inner_next 62 [] refl (record { at = λ place. refl })))))

pub alone_is : (name : List ℕ) (qname : QName) (pairs : List Pair) (rest : List ℕ) → NameText name qname → ArePairs pairs → IsMarkup (alone_text name (pairs_text pairs)) (opening (tag_made qname pairs true)) rest
alone_is [] qname pairs rest n are = absurd (qname_of-nil qname n.read)
alone_is (first ∷ name) qname pairs rest n are =
    let whole = first ∷ name in
    let attributes = pairs_text pairs in
    let end : List ℕ = 47 ∷ 62 ∷ [] in
    let text = alone_text whole attributes in
    let behind = name ++ (attributes ++ end) in
    let lacks = name_lacks whole qname n in
    let joined : whole ++ (attributes ++ end) ≡ (whole ++ attributes) ++ end = sym (append_assoc whole attributes end) in
    let fine : is_xml_text text ≡ true = xml_text_append (codes "<") _ marks_fine.0 (xml_text_append whole _ n.fine (xml_text_append attributes end (pairs_fine pairs are) marks_fine.2)) in
    let sizes : tag_size None (whole ++ (attributes ++ end)) ≡ length whole + (length attributes + 2) = size_name whole (attributes ++ end) lacks ∙ ap (λ (n : ℕ). length whole + n) (size_pairs pairs end are) in
    let long : length (whole ++ (attributes ++ end)) ≡ length whole + (length attributes + 2) = length-append whole (attributes ++ end) ∙ ap (λ (n : ℕ). length whole + n) (length-append attributes end) in
    let size : markup_size text ≡ length text = markup_size-tag first behind lacks.0.bang lacks.0.question ∙ omega (arith, sizes, long) in
    let at_end : ends text (codes "/>") ≡ true = ap (λ (t : List ℕ). ends (60 ∷ t) (codes "/>")) joined ∙ ends_so (60 ∷ (whole ++ attributes)) end in
    let inner : inside 1 (codes "/>") text ≡ Some (whole ++ attributes) = ap (λ (t : List ℕ). inside 1 (codes "/>") (60 ∷ t)) joined ∙ inside_of (60 ∷ []) (whole ++ attributes) end in
    let is : markup_of text ≡ Some (opening (tag_made qname pairs true)) =
    as_opening first behind lacks.0 fine ∙ pick _ _ _ at_end ∙ ap (option_and_then (tag_of true)) inner ∙ read_tag true whole qname pairs n are in
    marked text (opening (tag_made qname pairs true)) rest refl size is
    (inner_next 60 _ refl (inner_name whole (attributes ++ end) lacks (inner_pairs pairs end are (inner_next 47 _ refl (inner_next 62 [] refl (record { at = λ place. refl }))))))

pub close_is : (name : List ℕ) (qname : QName) (rest : List ℕ) → NameText name qname → IsMarkup (close_text name) (closing qname) rest
close_is name qname rest n =
    let text = close_text name in
    let lacks = name_lacks name qname n in
    let fine : is_xml_text text ≡ true = xml_text_append (codes "</") _ marks_fine.3 (xml_text_append name (codes ">") n.fine marks_fine.1) in
    let sizes : tag_size None (name ++ 62 ∷ []) ≡ length name + 1 = size_name name (62 ∷ []) lacks in
    let size : markup_size text ≡ length text = markup_size-tag 47 (name ++ 62 ∷ []) refl refl ∙ omega (arith, sizes, length-append name (62 ∷ [])) in
    let is : markup_of text ≡ Some (closing qname) =
    skip _ _ _ (ap not fine) ∙ ap (option_and_then (λ found. option_map closing (qname_of (without_last_blanks found)))) (inside_of (60 ∷ 47 ∷ []) name (62 ∷ []))
    ∙ ap (λ (t : List ℕ). option_map closing (qname_of t)) (no_last name lacks) ∙ ap (option_map closing) n.read in
    marked text (closing qname) rest refl size is (inner_next 60 _ refl (inner_next 47 _ refl (inner_name name (62 ∷ []) lacks (inner_next 62 [] refl (record { at = λ place. refl })))))
