-- The cut of a text into markups: nothing is lost, and each markup is cut off whatever stands behind it.
use Rattle.std.specs.Prelude.{◌≡◌, ℕ, zero, suc, ◌+◌, ◌-◌, ◌≤◌, Bool, true, false, if◌then◌else◌, List, [], ◌∷◌, ◌++◌, length, take, drop, codes, None, nat_eq}
use Rattle.std.specs.List.{concat}
use Rattle.std.specs.Cmp.Lexicographic.{pointwise}
use Rattle.std.proofs.lemmas.Slice.Eq.{starts_is}
use Rattle.std.proofs.lemmas.Bool.Decides.{Decides-eqb}
use Rattle.std.proofs.lemmas.Bool.{cases_Bool}
use Rattle.std.proofs.Common.{inl, inr, arith, refl, sym, ap, ◌∙◌}
use Rattle.std.proofs.lemmas.List.{length-append, length-drop, take-append-drop, take_at, drop_at, take-append-le}
use Rattle.cal_base.specs.Xml.XmlMarkup.{begins, size_through, tag_size, character_size, markup_size, cut, markups}

-- Sizes

at_least_one : (test : Bool) (x y : ℕ) → 1 ≤ x → 1 ≤ y → 1 ≤ (if test then x else y)
at_least_one true x y h k = h
at_least_one false x y h k = k

size_through-positive : (end : List ℕ) (octet : ℕ) (text : List ℕ) → 1 ≤ length end → 1 ≤ size_through end (octet ∷ text)
size_through-positive end octet text h = elim (begins (octet ∷ text) end) as (λ test. 1 ≤ elim test [ true ↦ length end | false ↦ suc (size_through end text) ]) [
  | true ↦ h
  | false ↦ omega arith
]

-- a markup has at least one octet
pub markup_size-positive : (octet : ℕ) (text : List ℕ) → 1 ≤ markup_size (octet ∷ text)
markup_size-positive octet text =
    let whole = octet ∷ text in
    let comment : 1 ≤ 4 + size_through (codes "-->") (drop 4 whole) = omega arith in
    let section : 1 ≤ 9 + size_through (codes "]]>") (drop 9 whole) = omega arith in
    let instruction : 1 ≤ 2 + size_through (codes "?>") (drop 2 whole) = omega arith in
    let tag : 1 ≤ 1 + tag_size None (drop 1 whole) = omega arith in
    let semicolon : 1 ≤ length (codes ";") = omega arith in
    let reference : 1 ≤ size_through (codes ";") whole = size_through-positive (codes ";") octet text semicolon in
    let three : 1 ≤ 3 = omega arith in
    let two : 1 ≤ 2 = omega arith in
    let one : 1 ≤ character_size whole = omega arith in
    at_least_one _ _ _ comment (at_least_one _ _ _ section (at_least_one _ _ _ instruction (at_least_one _ _ _ tag
    (at_least_one _ _ _ reference (at_least_one _ _ _ three (at_least_one _ _ _ two one))))))

-- The cut

-- the count is no part of it, once it is enough
cut-enough : (count other : ℕ) (text : List ℕ) → length text ≤ count → length text ≤ other → cut count text ≡ cut other text
cut-enough zero zero text h k = refl
cut-enough zero (suc other) [] h k = refl
cut-enough zero (suc other) (octet ∷ text) h k = absurd (omega arith)
cut-enough (suc count) zero [] h k = refl
cut-enough (suc count) zero (octet ∷ text) h k = absurd (omega arith)
cut-enough (suc count) (suc other) [] h k = refl
cut-enough (suc count) (suc other) (octet ∷ text) h k =
    let size = markup_size (octet ∷ text) in
    let rest = drop size (octet ∷ text) in
    let fewer : length rest ≡ suc (length text) - size = length-drop size (octet ∷ text) in
    let one : 1 ≤ size = markup_size-positive octet text in
    ap (λ more. take size (octet ∷ text) ∷ more) (cut-enough count other rest (omega arith) (omega arith))

-- the first markup, and those behind it
pub markups-cons : (octet : ℕ) (text : List ℕ) →
    let size = markup_size (octet ∷ text) in markups (octet ∷ text) ≡ take size (octet ∷ text) ∷ markups (drop size (octet ∷ text))
markups-cons octet text =
    let size = markup_size (octet ∷ text) in
    let rest = drop size (octet ∷ text) in
    let fewer : length rest ≡ suc (length text) - size = length-drop size (octet ∷ text) in
    let one : 1 ≤ size = markup_size-positive octet text in
    ap (λ more. take size (octet ∷ text) ∷ more) (cut-enough (length text) (length rest) rest (omega arith) (omega arith))

-- nothing is lost
concat-cut : (count : ℕ) (text : List ℕ) → length text ≤ count → concat (cut count text) ≡ text
concat-cut zero [] h = refl
concat-cut zero (octet ∷ text) h = absurd (omega arith)
concat-cut (suc count) [] h = refl
concat-cut (suc count) (octet ∷ text) h =
    let size = markup_size (octet ∷ text) in
    let rest = drop size (octet ∷ text) in
    let fewer : length rest ≡ suc (length text) - size = length-drop size (octet ∷ text) in
    let one : 1 ≤ size = markup_size-positive octet text in
    ap (λ more. take size (octet ∷ text) ++ more) (concat-cut count rest (omega arith)) ∙ take-append-drop size (octet ∷ text)

pub concat-markups : (text : List ℕ) → concat (markups text) ≡ text
concat-markups text = concat-cut (length text) text (omega arith)

-- a markup of its size is cut off
pub markups-append : (octet : ℕ) (text rest : List ℕ) → markup_size ((octet ∷ text) ++ rest) ≡ length (octet ∷ text) → markups ((octet ∷ text) ++ rest) ≡ (octet ∷ text) ∷ markups rest
markups-append octet text rest e =
    markups-cons octet (text ++ rest)
    ∙ ap (λ size. take size ((octet ∷ text) ++ rest) ∷ markups (drop size ((octet ∷ text) ++ rest))) e
    ∙ ap (λ first. first ∷ markups (drop (length (octet ∷ text)) ((octet ∷ text) ++ rest))) (take_at (octet ∷ text) rest (length (octet ∷ text)) refl)
    ∙ ap (λ behind. (octet ∷ text) ∷ markups behind) (drop_at (octet ∷ text) rest (length (octet ∷ text)) refl)

-- What stands behind an end

begins-append : (text front rest : List ℕ) → length front ≤ length text → begins (text ++ rest) front ≡ begins text front
begins-append text front rest h = ap (λ (first : List ℕ). pointwise nat_eq front first) (take-append-le (length front) text rest h)

begins-self : (front rest : List ℕ) → begins (front ++ rest) front ≡ true
begins-self front rest = (starts_is Decides-eqb (front ++ rest) front (begins (front ++ rest) front) refl).1 rest refl

-- where an end begins, and where it does not
size_through-here : (end : List ℕ) (octet : ℕ) (text : List ℕ) → begins (octet ∷ text) end ≡ true → size_through end (octet ∷ text) ≡ length end
size_through-here end octet text e = ap (λ test. elim test [ true ↦ length end | false ↦ suc (size_through end text) ]) e

size_through-later : (end : List ℕ) (octet : ℕ) (text : List ℕ) → begins (octet ∷ text) end ≡ false → size_through end (octet ∷ text) ≡ suc (size_through end text)
size_through-later end octet text e = ap (λ test. elim test [ true ↦ length end | false ↦ suc (size_through end text) ]) e

-- a text that has its first end at its end has it there whatever stands behind it
pub size_through-append : (end front rest : List ℕ) → 1 ≤ length end → size_through end (front ++ end) ≡ length (front ++ end) → size_through end ((front ++ end) ++ rest) ≡ length (front ++ end)
size_through-append [] front rest h e = absurd (omega arith)
size_through-append (first ∷ more) [] rest h e = size_through-here (first ∷ more) first (more ++ rest) (begins-self (first ∷ more) rest)
size_through-append (first ∷ more) (octet ∷ front) rest h e =
    let end = first ∷ more in
    let text = octet ∷ (front ++ end) in
    let longer : length end ≤ length text = omega (arith, length-append front end) in
    let same : begins (text ++ rest) end ≡ begins text end = begins-append text end rest longer in
    elim (cases_Bool (begins text end)) [
      | inl here ↦ absurd (omega (arith, length-append front end, sym (size_through-here end octet (front ++ end) here) ∙ e))
      | inr later ↦
          let shorter : suc (size_through end (front ++ end)) ≡ suc (length (front ++ end)) = sym (size_through-later end octet (front ++ end) later) ∙ e in
          size_through-later end octet ((front ++ end) ++ rest) (same ∙ later)
          ∙ ap (λ (size : ℕ). suc size) (size_through-append end front rest h (omega arith))
    ]
