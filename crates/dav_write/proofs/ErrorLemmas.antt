-- The bodies of refusals, made of their pieces. No octet of a written path is escaped in XML.
use Rattle.std.proofs.Common.{◌≡◌, ◌≢◌, ℕ, ◌<◌, true, false, cond, ◌==◌, List, [], ◌∷◌, ◌++◌, length, All, refl, sym, ap, subst, ◌∙◌, arith, append_assoc, inl, inr, ⊎_elim}
use Rattle.std.specs.Prelude.{codes}
use Rattle.std.proofs.lemmas.Bool.{false≢true, eqb-true}
use Rattle.std.proofs.lemmas.Grind.{flat_map-append}
use Rattle.std.proofs.lemmas.List.Elements.{All-head, All-tail}
use Rattle.percent_encoding.specs.Percent.{percent_encode_byte}
use Rattle.percent_encoding.proofs.PercentLemmas.{IsEscapeByte, All-percent_encode_byte}
use Rattle.cal_base.specs.Xml.CanonicalXml.{text_octet, xml_text, element_with, attribute_text}
use Rattle.cal_model.specs.declared.path.Path.{Path}
use Rattle.cal_model.specs.declared.path.Path.TheVariants.{Root, Principal, Home, Calendar, Object}
use Rattle.cal_model.specs.Replies.Hrefs.{is_kept, segment, href}
use Rattle.cal_model.specs.Replies.XmlText.{element, document}
use Rattle.cal_model.specs.Replies.ReplyElements.{href_element}
use Rattle.cal_model.specs.Refusals.RefusalReplies.{error_body, privileges_of}
use Rattle.cal_model.proofs.Streams.HeadLaws.{other}
use Rattle.cal_model.proofs.Streams.StreamFronts.{bool_cases}
use Rattle.dav_write.specs.ErrorTexts.{error_front, need_privileges_front, need_privileges_end}

-- Elements with content

pub filled : (name attributes content : List ℕ) → 0 < length content → element_with name attributes content ≡ codes "<" ++ (name ++ (attributes ++ (codes ">" ++ (content ++ (codes "</" ++ (name ++ codes ">"))))))
filled name attributes [] some = absurd (omega arith)
filled name attributes (c ∷ cs) some = refl

-- Errors

pub error-empty : (condition : List ℕ) → (length condition == 0) ≡ true → error_front ++ codes "/>" ≡ error_body condition
unfolding error_front document attribute_text
error-empty [] none = refl
error-empty (c ∷ cs) none = absurd (omega (arith, eqb-true (length (c ∷ cs)) 0 none))

pub error-filled : (condition : List ℕ) → (length condition == 0) ≡ false → error_front ++ (codes ">" ++ (condition ++ codes "</D:error>")) ≡ error_body condition
unfolding error_front document attribute_text
error-filled [] some = absurd (false≢true (sym some))
error-filled (c ∷ cs) some = refl

-- Paths in XML

IsPlain : ℕ → Type 0
IsPlain octet = text_octet octet ≡ octet ∷ []

plain : (octet : ℕ) → (octet == 38) ≡ false → (octet == 60) ≡ false → (octet == 62) ≡ false → (octet == 13) ≡ false → IsPlain octet
unfolding IsPlain
plain octet ampersand less greater return = rw (ampersand, less, greater, return) refl

kept_plain : (octet : ℕ) → is_kept octet ≡ true → IsPlain octet
kept_plain octet kept =
    let apart : (s : ℕ) → is_kept s ≡ false → (octet == s) ≡ false = λ s fails. other octet s (λ same. false≢true (sym fails ∙ ap is_kept (sym same) ∙ kept)) in
    plain octet (apart 38 refl) (apart 60 refl) (apart 62 refl) (apart 13 refl)

escape_apart : (octet s : ℕ) → IsEscapeByte octet → (s ≢ 37) → (s < 48) → (octet == s) ≡ false
escape_apart octet s (inl percent) apart low = other octet s (λ same. apart (sym same ∙ percent))
escape_apart octet s (inr (inl digit)) apart low = other octet s (λ same. let d = digit.0 in absurd (omega arith))
escape_apart octet s (inr (inr letter)) apart low = other octet s (λ same. let d = letter.0 in absurd (omega arith))

escape_apart_high : (octet s : ℕ) → IsEscapeByte octet → 57 < s → s < 65 → (octet == s) ≡ false
escape_apart_high octet s (inl percent) low high = other octet s (λ same. absurd (omega arith))
escape_apart_high octet s (inr (inl digit)) low high = other octet s (λ same. let d = digit.1 in absurd (omega arith))
escape_apart_high octet s (inr (inr letter)) low high = other octet s (λ same. let d = letter.0 in absurd (omega arith))

escape_plain : (octet : ℕ) → IsEscapeByte octet → IsPlain octet
escape_plain octet is =
    plain octet (escape_apart octet 38 is (λ same. absurd (omega arith)) (omega arith)) (escape_apart_high octet 60 is (omega arith) (omega arith)) (escape_apart_high octet 62 is (omega arith) (omega arith)) (escape_apart octet 13 is (λ same. absurd (omega arith)) (omega arith))

plain_texts : (P : ℕ → Type 0) → ((octet : ℕ) → P octet → IsPlain octet) → (text : List ℕ) → All P text → xml_text text ≡ text
unfolding xml_text IsPlain
plain_texts P is [] all = refl
plain_texts P is (c ∷ text) all = ap (λ front. front ++ xml_text text) (is c (All-head P c text all)) ∙ ap (λ rest. c ∷ rest) (plain_texts P is text (All-tail P c text all))

xml_text-append : (a b : List ℕ) → xml_text (a ++ b) ≡ xml_text a ++ xml_text b
unfolding xml_text
xml_text-append a b = flat_map-append text_octet a b

written : ℕ → List ℕ
written octet = cond (is_kept octet) (octet ∷ []) (percent_encode_byte octet)

written_plain : (octet : ℕ) → xml_text (written octet) ≡ written octet
unfolding xml_text written IsPlain
written_plain octet =
    ⊎_elim
    (λ kept. subst (λ text. xml_text text ≡ text) (ap (λ b. cond b (octet ∷ []) (percent_encode_byte octet)) (sym kept)) (ap (λ text. text ++ []) (kept_plain octet kept)))
    (λ escaped. subst (λ text. xml_text text ≡ text) (ap (λ b. cond b (octet ∷ []) (percent_encode_byte octet)) (sym escaped)) (plain_texts IsEscapeByte escape_plain (percent_encode_byte octet) (All-percent_encode_byte octet)))
    (bool_cases (is_kept octet))

segment_plain : (name : List ℕ) → xml_text (segment name) ≡ segment name
unfolding segment written xml_text
segment_plain [] = refl
segment_plain (c ∷ name) =
    xml_text-append (written c) (segment name) ∙ ap (λ text. text ++ xml_text (segment name)) (written_plain c) ∙ ap (λ text. written c ++ text) (segment_plain name)

behind : (name rest : List ℕ) → xml_text rest ≡ rest → xml_text (segment name ++ rest) ≡ segment name ++ rest
behind name rest is = xml_text-append (segment name) rest ∙ ap (λ text. text ++ xml_text rest) (segment_plain name) ∙ ap (λ text. segment name ++ text) is

pub href_plain : (path : Path) → xml_text (href path) ≡ href path
unfolding xml_text
href_plain Root = refl
href_plain (Principal user) = ap (λ text. codes "/principals/" ++ text) (behind user (codes "/") refl)
href_plain (Home user) = ap (λ text. codes "/calendars/" ++ text) (behind user (codes "/") refl)
href_plain (Calendar user calendar) =
    ap (λ text. codes "/calendars/" ++ text) (behind user (codes "/" ++ (segment calendar ++ codes "/")) (ap (λ text. codes "/" ++ text) (behind calendar (codes "/") refl)))
href_plain (Object user calendar object) =
    ap (λ text. codes "/calendars/" ++ text) (behind user (codes "/" ++ (segment calendar ++ (codes "/" ++ segment object))) (ap (λ text. codes "/" ++ text) (behind calendar (codes "/" ++ segment object) (ap (λ text. codes "/" ++ text) (segment_plain object)))))

pub href_filled : (path : Path) → 0 < length (href path)
href_filled Root = omega arith
href_filled (Principal user) = omega arith
href_filled (Home user) = omega arith
href_filled (Calendar user calendar) = omega arith
href_filled (Object user calendar object) = omega arith

-- The want of a privilege

href_element_is : (path : Path) → href_element path ≡ codes "<D:href>" ++ (href path ++ codes "</D:href>")
href_element_is path = ap (element (codes "D:href")) (href_plain path) ∙ filled (codes "D:href") [] (href path) (href_filled path)

wanted : List ℕ → List ℕ
wanted content = error_body (element (codes "D:need-privileges") (element (codes "D:resource") content))

wanted_is : (text : List ℕ) → wanted (codes "<D:href>" ++ text) ≡ need_privileges_front ++ (((text ++ codes "</D:resource>") ++ codes "</D:need-privileges>") ++ codes "</D:error>")
unfolding wanted need_privileges_front error_front document attribute_text
wanted_is text = refl

closed : (text : List ℕ) → ((text ++ codes "</D:resource>") ++ codes "</D:need-privileges>") ++ codes "</D:error>" ≡ text ++ need_privileges_end
closed text = append_assoc (text ++ codes "</D:resource>") (codes "</D:need-privileges>") (codes "</D:error>") ∙ append_assoc text (codes "</D:resource>") (codes "</D:need-privileges></D:error>")

pub need_privileges-pieces : (path : Path) (bits : ℕ) → need_privileges_front ++ (href path ++ (codes "</D:href>" ++ (privileges_of bits ++ need_privileges_end))) ≡ error_body (element (codes "D:need-privileges") (element (codes "D:resource") (href_element path ++ privileges_of bits)))
unfolding wanted
need_privileges-pieces path bits = sym (
    ap (λ text. wanted (text ++ privileges_of bits)) (href_element_is path)
    ∙ ap (λ text. wanted (codes "<D:href>" ++ text)) (append_assoc (href path) (codes "</D:href>") (privileges_of bits))
    ∙ wanted_is (href path ++ (codes "</D:href>" ++ privileges_of bits))
    ∙ ap (λ text. need_privileges_front ++ text) (closed (href path ++ (codes "</D:href>" ++ privileges_of bits)) ∙ append_assoc (href path) (codes "</D:href>" ++ privileges_of bits) need_privileges_end)
    )
