-- Texts of one line: what they are joined of, and what they are cut into.
use Rattle.std.proofs.Common.{◌≡◌, ℕ, ◌+◌, ◌<◌, ◌≤◌, Bool, false, true, not, refl, List, [], ◌∷◌, ◌++◌, length, get_or, sym, ap, subst, ◌∙◌, arith, length-append}
use Rattle.std.specs.Prelude.{nat_lt, if◌then◌else◌, ◌&&◌, ◌||◌, ◌==◌, filter}
use Rattle.std.specs.List.{list_any, list_all, AllByRecursion, join_with_byte}
use Rattle.std.specs.Str.{chars, IsUtf8}
use Rattle.std.proofs.Math.Seq.{get_or-append_seam, take-append_seam, drop-append-add}
use Rattle.std.proofs.lemmas.Bool.{le-ltb, ne_eqb, and_parts, and_left, or_parts, or_from}
use Rattle.std.proofs.lemmas.Bool.Decides.{nat_tests}
use Rattle.std.proofs.lemmas.List.{drop_at}
use Rattle.std.proofs.lemmas.List.Folds.{list_any-append}
use Rattle.std.proofs.lemmas.Str.{IsUtf8-append, IsUtf8-take, IsUtf8-drop, IsUtf8-nil, IsUtf8-from_ascii, IsCharBoundary-before_ascii, IsCharBoundary-after_ascii, chars-append, chars-nil, chars-IsAscii, chars_past_char, encode_ascii}
use Rattle.std.proofs.lemmas.Str.Ascii.{IsAscii-nil, IsAscii-cons}
use Rattle.cal_base.specs.Texts.Octets.{line_feed, tab}
use Rattle.cal_base.specs.Lines.ContentLines.{is_refused_character, is_name_octet, is_name}
use Rattle.ical_lines.proofs.Pieces.{all_append}
use Rattle.shown_lines.specs.Heads.{IsClean}

pub clean-nil : IsClean []
clean-nil = record { utf8 = IsUtf8-nil; allowed = ap (list_any is_refused_character) chars-nil; one_line = tt }

pub clean-append : (front back : List ℕ) → IsClean front → IsClean back → IsClean (front ++ back)
clean-append front back one two = record {
  utf8 = IsUtf8-append front back one.utf8 two.utf8;
  allowed = ap (list_any is_refused_character) (chars-append front back one.utf8) ∙ list_any-append is_refused_character (chars front) (chars back) ∙ or_from (list_any is_refused_character (chars front)) (list_any is_refused_character (chars back)) one.allowed two.allowed;
  one_line = all_append (λ octet. (octet == line_feed) ≡ false) front back one.one_line two.one_line;
}

-- Octets from SPACE on, below 128

abbrev pub IsPlain : ℕ → Type 0
IsPlain octet = (32 ≤ octet) × (octet < 128)

plain_allowed : (octet : ℕ) → IsPlain octet → is_refused_character octet ≡ false
plain_allowed octet plain =
    or_from (nat_lt octet 32 && not (octet == tab) || (octet == 0xFFFE)) (octet == 0xFFFF)
    (or_from (nat_lt octet 32 && not (octet == tab)) (octet == 0xFFFE) (and_left (nat_lt octet 32) (not (octet == tab)) (le-ltb octet 32 plain.0)) (ne_eqb octet 0xFFFE (λ (same : octet ≡ 0xFFFE). absurd (omega (arith, same, plain.1)))))
    (ne_eqb octet 0xFFFF (λ (same : octet ≡ 0xFFFF). absurd (omega (arith, same, plain.1))))

plain_one : (octet : ℕ) → IsPlain octet → IsClean (octet ∷ [])
plain_one octet plain =
    let ascii = IsAscii-cons octet [] plain.1 IsAscii-nil in
    record {
      utf8 = IsUtf8-from_ascii (octet ∷ []) ascii;
      allowed = ap (list_any is_refused_character) (chars-IsAscii (octet ∷ []) ascii) ∙ or_from (is_refused_character octet) false (plain_allowed octet plain) refl;
      one_line = (ne_eqb octet line_feed (λ (same : octet ≡ line_feed). absurd (omega (arith, same, plain.0))), tt);
    }

pub clean-plain : (text : List ℕ) → AllByRecursion IsPlain text → IsClean text
clean-plain [] all = clean-nil
clean-plain (octet ∷ text) all = clean-append (octet ∷ []) text (plain_one octet all.0) (clean-plain text all.1)

name_octet_plain : (octet : ℕ) → is_name_octet octet ≡ true → IsPlain octet
name_octet_plain octet is = (grind (arith, nat_tests), grind (arith, nat_tests))

name_octets_plain : (text : List ℕ) → list_all is_name_octet text ≡ true → AllByRecursion IsPlain text
name_octets_plain [] all = tt
name_octets_plain (octet ∷ text) all =
    let parts = and_parts (is_name_octet octet) (list_all is_name_octet text) all in
    (name_octet_plain octet parts.0, name_octets_plain text parts.1)

pub clean-name : (text : List ℕ) → is_name text ≡ true → IsClean text
clean-name text is = clean-plain text (name_octets_plain text (and_parts (nat_lt 0 (length text)) (list_all is_name_octet text) is).1)

-- Cut at an octet below 128

all_parts : (P : ℕ → Type 0) (front back : List ℕ) (octet : ℕ) → AllByRecursion P (front ++ octet ∷ back) → AllByRecursion P front × AllByRecursion P back
all_parts P [] back octet all = (tt, all.1)
all_parts P (first ∷ front) back octet all =
    let rest = all_parts P front back octet all.1 in
    ((all.0, rest.0), rest.1)

pub clean-cut : (front back : List ℕ) (octet : ℕ) → octet < 128 → IsClean (front ++ octet ∷ back) → IsClean front × IsClean back
clean-cut front back octet ascii clean =
    let text = front ++ octet ∷ back in
    let size = length-append front (octet ∷ back) in
    let within : length front < length text = omega arith in
    let low : get_or text (length front) 0 < 128 = subst (λ found. found < 128) (sym (get_or-append_seam front octet back 0)) ascii in
    let at = IsCharBoundary-before_ascii text (length front) within low in
    let before : IsUtf8 front = subst IsUtf8 (take-append_seam front (octet ∷ back)) (IsUtf8-take text (length front) clean.utf8 at) in
    let there : IsUtf8 (octet ∷ back) = subst IsUtf8 (drop_at front (octet ∷ back) _ refl) (IsUtf8-drop text (length front) clean.utf8 at) in
    let after : IsUtf8 back = subst IsUtf8 (drop-append-add front (octet ∷ back) 1) (IsUtf8-drop text (length front + 1) clean.utf8 (IsCharBoundary-after_ascii text (length front) clean.utf8 within low)) in
    let read : chars (octet ∷ back) ≡ octet ∷ chars back = chars_past_char (octet ∷ back) back octet there (ap (λ first. first ++ back) (sym (encode_ascii octet ascii))) in
    let none : (list_any is_refused_character (chars front) || list_any is_refused_character (octet ∷ chars back)) ≡ false =
    ap (λ rest. list_any is_refused_character (chars front) || list_any is_refused_character rest) (sym read)
    ∙ sym (list_any-append is_refused_character (chars front) (chars (octet ∷ back))) ∙ ap (list_any is_refused_character) (sym (chars-append front (octet ∷ back) before)) ∙ clean.allowed in
    let parts = or_parts (list_any is_refused_character (chars front)) (list_any is_refused_character (octet ∷ chars back)) none in
    let lines = all_parts (λ o. (o == line_feed) ≡ false) front back octet clean.one_line in (
      record { utf8 = before; allowed = parts.0; one_line = lines.0 },
      record { utf8 = after; allowed = (or_parts (is_refused_character octet) (list_any is_refused_character (chars back)) parts.1).1; one_line = lines.1 },
    )

-- Pieces and what is joined of them

pub clean-pieces : (separator : ℕ) → separator < 128 → (first : List ℕ) (more : List (List ℕ)) → IsClean (join_with_byte separator (first ∷ more)) → AllByRecursion IsClean (first ∷ more)
clean-pieces separator ascii first [] clean = (clean, tt)
clean-pieces separator ascii first (next ∷ more) clean =
    let parts = clean-cut first (join_with_byte separator (next ∷ more)) separator ascii clean in
    (parts.0, clean-pieces separator ascii next more parts.1)

pub clean-join : (separator : ℕ) → IsPlain separator → (them : List (List ℕ)) → AllByRecursion IsClean them → IsClean (join_with_byte separator them)
clean-join separator plain [] all = clean-nil
clean-join separator plain (first ∷ []) all = all.0
clean-join separator plain (first ∷ next ∷ more) all =
    clean-append first (separator ∷ join_with_byte separator (next ∷ more)) all.0
    (clean-append (separator ∷ []) (join_with_byte separator (next ∷ more)) (plain_one separator plain) (clean-join separator plain (next ∷ more) all.1))

pub all-filter : {X : Type 0} (P : X → Type 0) (test : X → Bool) (xs : List X) → AllByRecursion P xs → AllByRecursion P (filter test xs)
all-filter P test [] all = tt
all-filter P test (x ∷ xs) all =
    elim (test x) as (λ b. AllByRecursion P (if b then x ∷ filter test xs else filter test xs)) [ true ↦ (all.0, all-filter P test xs all.1) | false ↦ all-filter P test xs all.1 ]
