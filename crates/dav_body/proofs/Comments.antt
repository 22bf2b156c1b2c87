-- Comments, by the text between their start and the last two octets of their end.
use Rattle.std.proofs.Common.{◌≡◌, ℕ, ◌+◌, ◌-◌, ◌≤◌, suc, Bool, true, false, List, [], ◌∷◌, ◌++◌, Some, None, refl, sym, ap, ◌∙◌, take, drop, length, arith, length-append}
use Rattle.std.specs.Prelude.{option_and_then, if◌then◌else◌, codes, is_some, not, nat_le}
use Rattle.cal_base.specs.Xml.XmlMarkup.{skipped, holds, inside, comment_of}
use borrow.Author.Tests.{leb-true}
use Rattle.std.proofs.lemmas.List.{length-take, length-drop, drop-append-le, drop-take}
use Rattle.cal_base.proofs.Xml.XmlNameLemmas.{both_true}
use Rattle.cal_base.proofs.Xml.XmlTagLemmas.{inside_is, given}

front_of : (comment : List ℕ) → take (length comment + 1) (comment ++ codes "-->") ≡ comment ++ codes "-"
front_of [] = refl
front_of (octet ∷ comment) =
    let next : suc (length comment) + 1 ≡ suc (length comment + 1) = omega arith in
    rw next (ap (λ rest. octet ∷ rest) (front_of comment))

-- the comment and one octet more
pub comment_part : (text comment : List ℕ) → inside 4 (codes "-->") text ≡ Some comment → take (length text - 2 - 4) (drop 4 text) ≡ comment ++ codes "-"
comment_part text comment is =
    let fits : 7 ≤ length text = leb-true 7 (length text) (both_true (nat_le 7 (length text)) _ (given _ _ comment is).0).0 in
    let four : 4 ≤ length (take 4 text) = omega (arith, length-take 4 text) in
    let behind : drop 4 text ≡ comment ++ codes "-->" =
    ap (drop 4) (inside_is 4 (codes "-->") text comment is) ∙ drop-append-le 4 (take 4 text) (comment ++ codes "-->") four ∙ ap (λ front. front ++ (comment ++ codes "-->")) (drop-take 4 0 text) in
    let size : length text ≡ 7 + length comment = omega (arith, fits, length-drop 4 text, ap length behind, length-append comment (codes "-->")) in
    let count : length text - 2 - 4 ≡ length comment + 1 = omega arith in
    rw (count, behind) (front_of comment)

skipped_unless : (test : Bool) → is_some (if test then None else Some skipped) ≡ not test
skipped_unless true = refl
skipped_unless false = refl

pub comment_is : (text comment : List ℕ) → inside 4 (codes "-->") text ≡ Some comment → is_some (comment_of text) ≡ not (holds (codes "--") (take (length text - 2 - 4) (drop 4 text)))
comment_is text comment is =
    ap (λ found. is_some (option_and_then (λ comment. if holds (codes "--") (comment ++ codes "-") then None else Some skipped) found)) is
    ∙ skipped_unless (holds (codes "--") (comment ++ codes "-"))
    ∙ ap (λ part. not (holds (codes "--") part)) (sym (comment_part text comment is))

pub comment_none : (text : List ℕ) → inside 4 (codes "-->") text ≡ None → is_some (comment_of text) ≡ false
comment_none text none = ap (λ found. is_some (option_and_then (λ comment. if holds (codes "--") (comment ++ codes "-") then None else Some skipped) found)) none
