-- A multistatus, made of its pieces.
use Rattle.std.proofs.Common.{◌≡◌, ℕ, ◌<◌, ◌≤◌, List, [], ◌∷◌, ◌++◌, length, take, refl, sym, ap, ◌∙◌, arith, append_assoc, append-nil, length-append}
use Rattle.std.specs.Prelude.{codes, flat_map}
use Rattle.std.proofs.Math.Seq.{take-append_seam}
use Rattle.cal_base.specs.Xml.CanonicalXml.{element_with, attribute_text}
use Rattle.cal_model.specs.Replies.XmlText.{element, xml_text, propstat, response, document, multistatus}
use Rattle.cal_model.specs.Properties.PropertyTable.{Answer}
use Rattle.cal_model.specs.Properties.PropertyReplies.{property_element, with_status, propstat_of, propstats}
use Rattle.dav_write.proofs.ErrorLemmas.{filled}
use Rattle.multistatus.proofs.TagLemmas.{behind_front}
use Rattle.multistatus.specs.declared.responses.Response.{Response}
use Rattle.multistatus.specs.ReplyPieces.{begun, status_element, response_front, propstat_front, propstat_end}
use Rattle.multistatus.specs.Answered.{elements, IsAnswered, others}

-- Elements are not empty

pub element_filled : (name attributes content : List ℕ) → 0 < length (element_with name attributes content)
element_filled name attributes [] = omega arith
element_filled name attributes (first ∷ more) = omega arith

longer : (a b : List ℕ) → 0 < length a → 0 < length (a ++ b)
longer a b some = omega (arith, some, length-append a b)

-- Properties with their status

propstat_pieces : (properties : List ℕ) (status : ℕ) → 0 < length properties → propstat properties status ≡ propstat_front ++ (properties ++ propstat_end status)
propstat_pieces properties status some =
    ap (λ text. element (codes "D:propstat") (text ++ status_element status)) (filled (codes "D:prop") [] properties some)
    ∙ ap (λ text. propstat_front ++ text) (append_assoc (properties ++ codes "</D:prop>") (status_element status) (codes "</D:propstat>") ∙ append_assoc properties (codes "</D:prop>") (status_element status ++ codes "</D:propstat>"))

pub propstat_filled : (status : ℕ) (answers : List Answer) → 0 < length (flat_map property_element answers) → propstat_front ++ (flat_map property_element answers ++ propstat_end status) ≡ propstat_of status answers
propstat_filled status [] some = absurd (omega arith)
propstat_filled status (a ∷ answers) some = sym (propstat_pieces (flat_map property_element (a ∷ answers)) status some)

-- Responses

pub response_pieces : (href inner : List ℕ) → (response_front href ++ inner) ++ codes "</D:response>" ≡ response href inner
response_pieces href inner =
    let place = element (codes "D:href") (xml_text href) in
    sym (filled (codes "D:response") [] (place ++ inner) (longer place inner (element_filled (codes "D:href") [] (xml_text href))))

-- what ends a response behind some front
pub response_behind : (front href answers_text : List ℕ) → ((front ++ response_front href) ++ answers_text) ++ codes "</D:response>" ≡ front ++ response href answers_text
response_behind front href inner =
    ap (λ text. text ++ codes "</D:response>") (append_assoc front (response_front href) inner)
    ∙ append_assoc front (response_front href ++ inner) (codes "</D:response>")
    ∙ ap (λ text. front ++ text) (response_pieces href inner)

pub propstats_pieces : (answers : List Answer) → propstat_of 200 (with_status 200 answers) ++ others answers ≡ propstats answers
propstats_pieces answers =
    let one = propstat_of 404 (with_status 404 answers) in
    let two = propstat_of 403 (with_status 403 answers) in
    let three = propstat_of 424 (with_status 424 answers) in
    ap (λ text. propstat_of 200 (with_status 200 answers) ++ (one ++ (two ++ text))) (sym (append-nil three))

-- The whole

pub multistatus_filled : (responses : List ℕ) → 0 < length responses → begun ++ (responses ++ codes "</D:multistatus>") ≡ multistatus responses
unfolding begun document attribute_text
multistatus_filled [] some = absurd (omega arith)
multistatus_filled (c ∷ responses) some = refl

-- An href as it was sent

pub href_empty : (href : List ℕ) → length href ≡ 0 → codes "<D:href/>" ≡ element (codes "D:href") (xml_text href)
unfolding xml_text
href_empty [] none = refl
href_empty (c ∷ href) none = absurd (omega arith)

-- The front of a reply stays

begins_front : {front href : List ℕ} {answers : List Answer} {response : Response} {written : List ℕ} → IsAnswered front href answers response written → take response.begin written ≡ front ++ response_front href
begins_front {front} {href} {answers} {response} {written} so_far =
    let before = front ++ response_front href in
    (λ i. take (so_far.begin i) (so_far.text i)) ∙ ap (take (length before)) (append_assoc before propstat_front (elements 200 answers)) ∙ take-append_seam before (propstat_front ++ elements 200 answers)

-- where the new text begins as the old did, up to what the response cuts off
pub cut_front : {front href : List ℕ} {answers : List Answer} (response : Response) (written new : List ℕ) → IsAnswered front href answers response written → (response.begin ≤ length written → take response.begin new ≡ take response.begin written) → take (length front) new ≡ front
cut_front {front} {href} {answers} response written new so_far same =
    let before = front ++ response_front href in
    let fits : response.begin ≤ length written = omega (arith, so_far.begin, ap length so_far.text, length-append (before ++ propstat_front) (elements 200 answers), length-append before propstat_front) in
    behind_front front (response_front href) before new refl (ap (λ n. take n new) (sym so_far.begin) ∙ same fits ∙ begins_front so_far)

pub more_front : (front a b mid new : List ℕ) → mid ≡ (front ++ a) ++ b → take (length mid) new ≡ mid → take (length front) new ≡ front
more_front front a b mid new is same = behind_front front (a ++ b) mid new (is ∙ append_assoc front a b) same

-- The tag of the root

pub begun_size : length begun ≡ 109
unfolding begun attribute_text
begun_size = refl

begun_cut : (responses : List ℕ) → length responses ≡ 0 → take 108 (begun ++ responses) ++ codes "/>" ≡ multistatus responses
unfolding begun document attribute_text
begun_cut [] none = refl
begun_cut (c ∷ responses) none = absurd (omega arith)

pub cut_begun : (body responses : List ℕ) → body ≡ begun ++ responses → length body ≡ 109 → take 108 body ++ codes "/>" ≡ multistatus responses
cut_begun body responses is size =
    let none : length responses ≡ 0 = omega (arith, size, ap length is, length-append begun responses, begun_size) in
    ap (λ text. take 108 text ++ codes "/>") is ∙ begun_cut responses none
