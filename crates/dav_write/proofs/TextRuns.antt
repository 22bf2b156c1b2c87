-- A text is written as it is up to the first octet that is escaped.
use Rattle.std.proofs.Common.{◌≡◌, ℕ, zero, suc, ◌+◌, ◌≤◌, Bool, true, false, List, [], ◌∷◌, ◌++◌, length, take, drop, slice_index, position, None, Some, refl, ap, add-one, ◌∙◌, arith}
use Rattle.std.specs.List.{position_or_len}
use Rattle.std.proofs.lemmas.Bool.Decides.{nat_tests}
use Rattle.std.proofs.lemmas.Grind.{common_steps}
use Rattle.std.proofs.lemmas.List.Quantifiers.{position-Some}
use Rattle.std.proofs.Math.Seq.{drop-cons}
use Rattle.cal_base.specs.Xml.CanonicalXml.{text_octet, xml_text}
use Rattle.dav_write.specs.EscapedOctets.{is_escaped}

plain_octet : (octet : ℕ) → is_escaped octet ≡ false → text_octet octet ≡ octet ∷ []
plain_octet octet plain = grind (arith, nat_tests, plain)

-- so many octets before the first one that is escaped
plain_run : (n : ℕ) (text : List ℕ) → n ≤ position_or_len is_escaped text → xml_text text ≡ take n text ++ xml_text (drop n text)
unfolding xml_text
plain_run zero text le = refl
plain_run (suc n) [] le = absurd (omega (arith, le))
plain_run (suc n) (octet ∷ text) le = by (is_escaped octet) refl (plain_run n text) where
  by : (escaped : Bool) → is_escaped octet ≡ escaped → (n ≤ position_or_len is_escaped text → xml_text text ≡ take n text ++ xml_text (drop n text)) → text_octet octet ++ xml_text text ≡ octet ∷ (take n text ++ xml_text (drop n text))
  by true e later = absurd (grind (arith, le, e))
  by false e later = ap (λ front. front ++ xml_text text) (plain_octet octet e) ∙ ap (λ rest. octet ∷ rest) (later (grind (arith, le, e)))

pub xml_text-plain : (text : List ℕ) → position is_escaped text ≡ None → xml_text text ≡ text
unfolding xml_text
xml_text-plain text none =
    let all : length text ≤ position_or_len is_escaped text = grind (arith, nat_tests, none) in
    plain_run (length text) text all ∙ grind (arith, common_steps)

pub xml_text-run : (text : List ℕ) (place : ℕ) → position is_escaped text ≡ Some place → xml_text text ≡ take place text ++ (text_octet (slice_index text place) ++ xml_text (drop (place + 1) text))
unfolding xml_text
xml_text-run text place found =
    let there = position-Some is_escaped text place 0 found in
    let at : position_or_len is_escaped text ≡ place = grind (arith, common_steps, found) in
    let rest : drop place text ≡ slice_index text place ∷ drop (place + 1) text = rw (add-one) (drop-cons text place 0 there.0) in
    plain_run place text (omega (arith, at)) ∙ ap (λ rest. take place text ++ xml_text rest) rest
