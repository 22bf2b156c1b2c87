-- The element of a property, made of its pieces; and the element of a path.
use Rattle.std.proofs.Common.{◌≡◌, ℕ, zero, suc, ◌+◌, ◌<◌, ◌≤◌, true, false, cond, ◌==◌, List, [], ◌∷◌, ◌++◌, length, take, Option, Some, None, refl, sym, ap, ◌∙◌, arith, append_assoc, append-nil, length-append}
use Rattle.std.specs.Prelude.{codes, Result, Ok, Err, OnOk, OnErr}
use Rattle.std.proofs.lemmas.Bool.Decides.{nat_tests}
use Rattle.cal_base.specs.Xml.CanonicalXml.{known_prefix, declaration, element_with, named_element}
use Rattle.cal_model.specs.declared.path.Path.{Path}
use Rattle.cal_model.specs.Replies.Hrefs.{href}
use Rattle.cal_model.specs.Replies.ReplyElements.{href_element}
use Rattle.cal_model.specs.Replies.XmlText.{element}
use Rattle.dav_write.specs.ElementTexts.{element_name, own_declaration, end_tag}
use Rattle.dav_write.proofs.ErrorLemmas.{filled, href_filled, href_plain}
use Rattle.multistatus.specs.PropertyTags.{opened, closed}

-- The paths of resources

pub href_pieces : (path : Path) → codes "<D:href>" ++ (href path ++ codes "</D:href>") ≡ href_element path
href_pieces path = sym (ap (element (codes "D:href")) (href_plain path) ∙ filled (codes "D:href") [] (href path) (href_filled path))

-- Elements without attributes of their own

-- an element whose prefix was looked for
abbrev element_by : List ℕ → List ℕ → List ℕ → Option (List ℕ) → List ℕ
element_by space name content found = elim found [
  | None ↦ element_with (codes "x:" ++ name) ([] ++ (declaration (codes "x") space ++ [])) content
  | Some prefix ↦ element_with (prefix ++ name) ([] ++ []) content
]

-- its tag, without its end
abbrev opened_by : List ℕ → List ℕ → Option (List ℕ) → List ℕ
opened_by space name found =
    codes "<" ++ (elim found [ None ↦ codes "x:" ++ name | Some prefix ↦ prefix ++ name ] ++ elim found [ None ↦ declaration (codes "x") space | Some prefix ↦ [] ])

empty_tag : (name declarations : List ℕ) → element_with name declarations [] ≡ (codes "<" ++ (name ++ declarations)) ++ codes "/>"
empty_tag name declarations = ap (λ text. codes "<" ++ text) (sym (append_assoc name declarations (codes "/>")))

filled_tag : (name declarations content : List ℕ) (first : ℕ) → element_with name declarations (first ∷ content) ≡ ((codes "<" ++ (name ++ declarations)) ++ codes ">") ++ ((first ∷ content) ++ (codes "</" ++ (name ++ codes ">")))
filled_tag name declarations content first =
    ap (λ text. codes "<" ++ text) (sym (append_assoc name declarations (codes ">" ++ ((first ∷ content) ++ (codes "</" ++ (name ++ codes ">"))))))
    ∙ sym (append_assoc (codes "<" ++ (name ++ declarations)) (codes ">") ((first ∷ content) ++ (codes "</" ++ (name ++ codes ">"))))

pub named-empty : (space name : List ℕ) → opened space name ++ codes "/>" ≡ named_element [] space name [] []
unfolding element_name own_declaration
named-empty space name = by (known_prefix space) where
  by : (found : Option (List ℕ)) → opened_by space name found ++ codes "/>" ≡ element_by space name [] found
  by None =
      ap (λ declarations. (codes "<" ++ ((codes "x:" ++ name) ++ declarations)) ++ codes "/>") (sym (append-nil (declaration (codes "x") space)))
      ∙ sym (empty_tag (codes "x:" ++ name) (declaration (codes "x") space ++ []))
  by (Some prefix) = sym (empty_tag (prefix ++ name) [])

pub named-filled : (space name content : List ℕ) (first : ℕ) → (opened space name ++ codes ">") ++ ((first ∷ content) ++ end_tag space name) ≡ named_element [] space name [] (first ∷ content)
unfolding element_name own_declaration
named-filled space name content first = by (known_prefix space) where
  by : (found : Option (List ℕ)) → (opened_by space name found ++ codes ">") ++ ((first ∷ content) ++ (codes "</" ++ (elim found [ None ↦ codes "x:" ++ name | Some prefix ↦ prefix ++ name ] ++ codes ">")))
      ≡ element_by space name (first ∷ content) found
  by None =
      ap (λ declarations. ((codes "<" ++ ((codes "x:" ++ name) ++ declarations)) ++ codes ">") ++ ((first ∷ content) ++ (codes "</" ++ ((codes "x:" ++ name) ++ codes ">")))) (sym (append-nil (declaration (codes "x") space)))
      ∙ sym (filled_tag (codes "x:" ++ name) (declaration (codes "x") space ++ []) content first)
  by (Some prefix) = sym (filled_tag (prefix ++ name) [] content first)

take_front : (front behind : List ℕ) → take (length front) (front ++ behind) ≡ front
take_front [] behind = refl
take_front (x ∷ front) behind = ap (λ rest. x ∷ rest) (take_front front behind)

-- What is closed behind its content is the element with that content.
pub closed_is : (old space name content written : List ℕ) (place : ℕ) → place ≡ length (old ++ opened space name) → written ≡ ((old ++ opened space name) ++ codes ">") ++ content
    → closed place space name written ≡ old ++ named_element [] space name [] content
closed_is old space name [] written place at is =
    let size : length written ≡ place + 1 = ap length is ∙ ap length (append-nil ((old ++ opened space name) ++ codes ">")) ∙ length-append (old ++ opened space name) (codes ">") ∙ ap (λ n. n + 1) (sym at) in
    let test : (length written == place + 1) ≡ true = grind (arith, nat_tests) in
    ap (λ b. cond b (take place written ++ codes "/>") (written ++ end_tag space name)) test
    ∙ ap (λ front. front ++ codes "/>")
    ((λ i. take (at i) (is i)) ∙ ap (take (length (old ++ opened space name))) (append_assoc (old ++ opened space name) (codes ">") []) ∙ take_front (old ++ opened space name) (codes ">" ++ []))
    ∙ append_assoc old (opened space name) (codes "/>") ∙ ap (λ text. old ++ text) (named-empty space name)
closed_is old space name (first ∷ content) written place at is =
    let size : length written ≡ (place + 1) + suc (length content) =
    ap length is ∙ length-append ((old ++ opened space name) ++ codes ">") (first ∷ content) ∙ ap (λ n. n + suc (length content)) (length-append (old ++ opened space name) (codes ">") ∙ ap (λ n. n + 1) (sym at)) in
    let test : (length written == place + 1) ≡ false = grind (arith, nat_tests) in
    ap (λ b. cond b (take place written ++ codes "/>") (written ++ end_tag space name)) test
    ∙ ap (λ text. text ++ end_tag space name) is
    ∙ append_assoc ((old ++ opened space name) ++ codes ">") (first ∷ content) (end_tag space name)
    ∙ ap (λ text. text ++ ((first ∷ content) ++ end_tag space name)) (append_assoc old (opened space name) (codes ">"))
    ∙ append_assoc old (opened space name ++ codes ">") ((first ∷ content) ++ end_tag space name)
    ∙ ap (λ text. old ++ text) (named-filled space name content first)

-- A place in what is written

pub within : (front opening written content : List ℕ) (place : ℕ) → place ≡ length front → opening ≡ front ++ codes ">" → written ≡ opening ++ content → place < length written
within front opening written content place at first more = omega (arith, at, ap length first, ap length more, length-append front (codes ">"), length-append opening content)

take_shorter : {X : Type 0} (n m : ℕ) (xs : List X) → n ≤ m → take n (take m xs) ≡ take n xs
take_shorter zero m xs le = refl
take_shorter (suc n) zero xs le = absurd (omega (arith, le))
take_shorter (suc n) (suc m) [] le = refl
take_shorter (suc n) (suc m) (x ∷ xs) le = ap (λ rest. x ∷ rest) (take_shorter n m xs (omega (arith, le)))

-- what stands before a place behind it stays
pub kept_front : (old new written : List ℕ) (place : ℕ) → length old ≤ place → take place new ≡ take place written → take (length old) written ≡ old → take (length old) new ≡ old
kept_front old new written place before same front =
    sym (take_shorter (length old) place new before) ∙ ap (take (length old)) same ∙ take_shorter (length old) place written before ∙ front

pub opened_behind : (old opened after : List ℕ) (place : ℕ) → after ≡ old ++ opened → place ≡ length after → length old ≤ place
opened_behind old opened after place is at = omega (arith, at, ap length is, length-append old opened)

pub front_stays : (old a b c written : List ℕ) → written ≡ ((old ++ a) ++ b) ++ c → take (length old) written ≡ old
front_stays old a b c written is =
    ap (take (length old)) (is ∙ append_assoc (old ++ a) b c ∙ append_assoc old a (b ++ c)) ∙ take_front old (a ++ (b ++ c))

pub behind_front : (old a mid new : List ℕ) → mid ≡ old ++ a → take (length mid) new ≡ mid → take (length old) new ≡ old
behind_front old a mid new is front =
    sym (take_shorter (length old) (length mid) new (omega (arith, ap length is, length-append old a))) ∙ ap (take (length old)) (front ∙ is) ∙ take_front old a

-- a last piece, whether there was memory for it or not
pub ends_front : {X E : Type 0} (result : Result X E) (mid new more : List ℕ) → OnOk result (new ≡ mid ++ more) → OnErr result (new ≡ mid) → take (length mid) new ≡ mid
ends_front (Ok x) mid new more is same = ap (take (length mid)) is ∙ take_front mid more
ends_front (Err e) mid new more is same = ap (take (length mid)) (same ∙ sym (append-nil mid)) ∙ take_front mid []
