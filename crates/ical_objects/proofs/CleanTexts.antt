-- Texts that a physical line may have: UTF-8 without a refused character. Their parts behind an ASCII octet, and the texts in upper
-- case, are such texts too, and none has a line feed.
use Rattle.std.proofs.Common.{◌≡◌, ℕ, ◌+◌, ◌-◌, ◌<◌, ◌≤◌, suc, true, false, not, List, [], ◌∷◌, ◌++◌, length, get_or, refl, sym, ap, ◌∙◌, subst, arith, inl, inr, ◌⊎◌, append-nil}
use Rattle.std.specs.Prelude.{nat_le, nat_lt, if◌then◌else◌, ◌&&◌, ◌||◌, ◌==◌}
use Rattle.std.specs.List.{AllByRecursion, list_any}
use Rattle.std.specs.Str.{IsUtf8, is_utf8, chars}
use Rattle.std.proofs.Math.Utf8.{scalar, scalars, encode, encodes, low_scalar}
use Rattle.std.proofs.Math.Seq.{get_or-append_seam, take-append_seam, drop-append-add}
use Rattle.std.proofs.lemmas.Bool.{cases_lt, le-ltb, lt-leb, le-leb, ne_eqb, and_parts, and_from, and_left, and_right, or_parts, or_from, both_ways}
use Rattle.std.proofs.lemmas.List.{map-append, length-append}
use Rattle.std.proofs.lemmas.List.Folds.{list_any-append}
use Rattle.std.proofs.lemmas.Str.{IsUtf8-from_is_utf8, is_utf8-from_IsUtf8, IsUtf8-take, IsUtf8-drop, IsCharBoundary-before_ascii, IsCharBoundary-after_ascii, encode_ascii, encodes-append, encodes_same, encodes-chars, scalars-chars, chars-encodes, inside_one}
use Rattle.cal_base.specs.Texts.Text.{raised, raised_all}
use Rattle.cal_base.proofs.Texts.RaisedTexts.{raised-high, raised_cases}
use Rattle.cal_base.specs.Texts.Octets.{line_feed, tab}
use Rattle.cal_base.specs.Lines.ContentLines.{is_refused_character, pieces, onto_first}

pub record IsClean (text : List ℕ) : Type 0 where
  pub characters : List ℕ
  pub scalar_ones : scalars characters ≡ true
  pub spelled : encodes characters ≡ text
  pub allowed : list_any is_refused_character characters ≡ false

-- the tests of a physical line, both ways
pub IsClean-from_tests : (text : List ℕ) → is_utf8 text ≡ true → list_any is_refused_character (chars text) ≡ false → IsClean text
IsClean-from_tests text utf8 allowed =
    let is_text = IsUtf8-from_is_utf8 text utf8 in
    record { characters = chars text; scalar_ones = scalars-chars text is_text; spelled = encodes-chars text is_text; allowed = allowed }

pub is_utf8-IsClean : (text : List ℕ) → IsClean text → is_utf8 text ≡ true
is_utf8-IsClean text clean = is_utf8-from_IsUtf8 text (clean.characters, (clean.scalar_ones, clean.spelled))

pub allowed-IsClean : (text : List ℕ) → IsClean text → list_any is_refused_character (chars text) ≡ false
allowed-IsClean text clean = ap (list_any is_refused_character) (ap chars (sym clean.spelled) ∙ chars-encodes clean.characters clean.scalar_ones) ∙ clean.allowed

scalars-append : (xs ys : List ℕ) → scalars xs ≡ true → scalars ys ≡ true → scalars (xs ++ ys) ≡ true
scalars-append [] ys first second = second
scalars-append (x ∷ xs) ys first second =
    let parts = and_parts (scalar x) (scalars xs) first in
    and_from (scalar x) (scalars (xs ++ ys)) parts.0 (scalars-append xs ys parts.1 second)

pub IsClean-nil : IsClean []
IsClean-nil = record { characters = []; scalar_ones = refl; spelled = refl; allowed = refl }

pub IsClean-append : (xs ys : List ℕ) → IsClean xs → IsClean ys → IsClean (xs ++ ys)
IsClean-append xs ys first second = record {
  characters = first.characters ++ second.characters;
  scalar_ones = scalars-append first.characters second.characters first.scalar_ones second.scalar_ones;
  spelled = encodes-append first.characters second.characters ∙ ap (λ text. text ++ encodes second.characters) first.spelled ∙ ap (λ text. xs ++ text) second.spelled;
  allowed = list_any-append is_refused_character first.characters second.characters ∙ or_from (list_any is_refused_character first.characters) (list_any is_refused_character second.characters) first.allowed second.allowed;
}

-- what stands behind an ASCII octet
pub IsClean-behind : (front behind : List ℕ) (octet : ℕ) → octet < 128 → IsClean (front ++ octet ∷ behind) → IsClean behind
IsClean-behind front behind octet ascii clean =
    let text = front ++ octet ∷ behind in
    let is_text : IsUtf8 text = (clean.characters, (clean.scalar_ones, clean.spelled)) in
    let within : length front < length text = simp length-append (omega arith) in
    let low : get_or text (length front) 0 < 128 = subst (λ found. found < 128) (sym (get_or-append_seam front octet behind 0)) ascii in
    let before : IsUtf8 front = subst IsUtf8 (take-append_seam front (octet ∷ behind)) (IsUtf8-take text (length front) is_text (IsCharBoundary-before_ascii text (length front) within low)) in
    let after : IsUtf8 behind = subst IsUtf8 (drop-append-add front (octet ∷ behind) 1) (IsUtf8-drop text (length front + 1) is_text (IsCharBoundary-after_ascii text (length front) is_text within low)) in
    let spelled : encodes clean.characters ≡ encodes (before.0 ++ octet ∷ after.0) =
    clean.spelled ∙ ap (λ these. these ++ octet ∷ behind) (sym before.1.1) ∙ ap (λ these. encodes before.0 ++ octet ∷ these) (sym after.1.1)
    ∙ ap (λ these. encodes before.0 ++ (these ++ encodes after.0)) (sym (encode_ascii octet ascii)) ∙ sym (encodes-append before.0 (octet ∷ after.0)) in
    let same : clean.characters ≡ before.0 ++ octet ∷ after.0 = encodes_same clean.characters (before.0 ++ octet ∷ after.0) spelled in
    let none : (list_any is_refused_character before.0 || list_any is_refused_character (octet ∷ after.0)) ≡ false =
    sym (list_any-append is_refused_character before.0 (octet ∷ after.0)) ∙ ap (list_any is_refused_character) (sym same) ∙ clean.allowed in
    record {
      characters = after.0;
      scalar_ones = after.1.0;
      spelled = after.1.1;
      allowed = (or_parts (is_refused_character octet) (list_any is_refused_character after.0) (or_parts (list_any is_refused_character before.0) (list_any is_refused_character (octet ∷ after.0)) none).1).1;
    }

-- The octets of a character

each_octet : (P : ℕ → Type 0) (octets : List ℕ) → ((k : ℕ) → k < length octets → P (get_or octets k 0)) → AllByRecursion P octets
each_octet P [] each = tt
each_octet P (octet ∷ octets) each = (each 0 (omega arith), each_octet P octets (λ k within. each (suc k) (omega arith)))

-- a character beyond ASCII has no octet of ASCII
high_octets : (c : ℕ) → 128 ≤ c → AllByRecursion (λ octet. 128 ≤ octet) (encode c)
high_octets c high = each_octet (λ octet. 128 ≤ octet) (encode c) (λ k within. elim (cases_lt (get_or (encode c) k 0) 128) [
  | inl low ↦ absurd (let same : c ≡ get_or (encode c) k 0 = inside_one c [] (encode c) k (sym (append-nil (encode c))) within low in omega arith)
  | inr above ↦ above
])

-- Upper case

map_raised_high : (octets : List ℕ) → AllByRecursion (λ octet. 128 ≤ octet) octets → raised_all octets ≡ octets
map_raised_high [] high = refl
map_raised_high (octet ∷ octets) high = ap (λ first. first ∷ raised_all octets) (raised-high octet (omega (arith, high.0))) ∙ ap (λ rest. octet ∷ rest) (map_raised_high octets high.1)

raised_all-encode : (c : ℕ) → raised_all (encode c) ≡ encode (raised c)
raised_all-encode c =
    elim (cases_lt c 128) [
      | inl low ↦
          let still_low : raised c < 128 = elim (raised_cases c) [ inl letter ↦ omega (arith, letter.2) | inr same ↦ omega (arith, same) ] in
          ap raised_all (encode_ascii c low) ∙ sym (encode_ascii (raised c) still_low)
      | inr high ↦ map_raised_high (encode c) (high_octets c high) ∙ ap encode (sym (raised-high c (omega (arith, high))))
    ]

raised_all-encodes : (cs : List ℕ) → raised_all (encodes cs) ≡ encodes (raised_all cs)
raised_all-encodes [] = refl
raised_all-encodes (c ∷ cs) = map-append raised (encode c) (encodes cs) ∙ (ap (λ first. first ++ raised_all (encodes cs)) (raised_all-encode c) ∙ ap (λ rest. encode (raised c) ++ rest) (raised_all-encodes cs))

scalar-raised : (c : ℕ) → scalar c ≡ true → scalar (raised c) ≡ true
scalar-raised c is_scalar = elim (raised_cases c) [ inl letter ↦ ap scalar letter.2 ∙ low_scalar (c - 32) (omega (arith, letter.1)) | inr same ↦ ap scalar same ∙ is_scalar ]

scalars-raised_all : (cs : List ℕ) → scalars cs ≡ true → scalars (raised_all cs) ≡ true
scalars-raised_all [] are = refl
scalars-raised_all (c ∷ cs) are =
    let parts = and_parts (scalar c) (scalars cs) are in
    and_from (scalar (raised c)) (scalars (raised_all cs)) (scalar-raised c parts.0) (scalars-raised_all cs parts.1)

allowed_letter : (c : ℕ) → 32 ≤ c → c < 128 → is_refused_character c ≡ false
allowed_letter c low high =
    or_from (nat_lt c 32 && not (c == tab) || (c == 0xFFFE)) (c == 0xFFFF)
    (or_from (nat_lt c 32 && not (c == tab)) (c == 0xFFFE) (and_left (nat_lt c 32) (not (c == tab)) (le-ltb c 32 low)) (ne_eqb c 0xFFFE (λ same. absurd (omega (arith, same, high)))))
    (ne_eqb c 0xFFFF (λ same. absurd (omega (arith, same, high))))

allowed-raised : (c : ℕ) → is_refused_character c ≡ false → is_refused_character (raised c) ≡ false
allowed-raised c allowed = elim (raised_cases c) [
  | inl letter ↦ ap is_refused_character letter.2 ∙ allowed_letter (c - 32) (omega (arith, letter.0)) (omega (arith, letter.1))
  | inr same ↦ ap is_refused_character same ∙ allowed
]

allowed-raised_all : (cs : List ℕ) → list_any is_refused_character cs ≡ false → list_any is_refused_character (raised_all cs) ≡ false
allowed-raised_all [] allowed = refl
allowed-raised_all (c ∷ cs) allowed =
    let parts = or_parts (is_refused_character c) (list_any is_refused_character cs) allowed in
    or_from (is_refused_character (raised c)) (list_any is_refused_character (raised_all cs)) (allowed-raised c parts.0) (allowed-raised_all cs parts.1)

pub IsClean-raised_all : (text : List ℕ) → IsClean text → IsClean (raised_all text)
IsClean-raised_all text clean = record {
  characters = raised_all clean.characters;
  scalar_ones = scalars-raised_all clean.characters clean.scalar_ones;
  spelled = sym (raised_all-encodes clean.characters) ∙ ap raised_all clean.spelled;
  allowed = allowed-raised_all clean.characters clean.allowed;
}

-- Line feeds

pieces_none : (front behind : List ℕ) → AllByRecursion (λ octet. (octet == line_feed) ≡ false) front → pieces line_feed behind ≡ behind ∷ [] → pieces line_feed (front ++ behind) ≡ (front ++ behind) ∷ []
pieces_none [] behind none one = one
pieces_none (octet ∷ front) behind none one =
    ap (λ b. if b then [] ∷ pieces line_feed (front ++ behind) else onto_first octet (pieces line_feed (front ++ behind))) none.0
    ∙ ap (onto_first octet) (pieces_none front behind none.1 one)

none_high : (octets : List ℕ) → AllByRecursion (λ octet. 128 ≤ octet) octets → AllByRecursion (λ octet. (octet == line_feed) ≡ false) octets
none_high [] high = tt
none_high (octet ∷ octets) high = (ne_eqb octet line_feed (λ same. absurd (omega (arith, high.0, same))), none_high octets high.1)

no_line_feed : (c : ℕ) → is_refused_character c ≡ false → AllByRecursion (λ octet. (octet == line_feed) ≡ false) (encode c)
no_line_feed c allowed =
    elim (cases_lt c 128) [
      | inl low ↦ subst (AllByRecursion (λ octet. (octet == line_feed) ≡ false)) (sym (encode_ascii c low))
          (ne_eqb c line_feed (λ same. both_ways (is_refused_character c) allowed (ap is_refused_character same)), tt)
      | inr high ↦ none_high (encode c) (high_octets c high)
    ]

pieces-encodes : (cs : List ℕ) → list_any is_refused_character cs ≡ false → pieces line_feed (encodes cs) ≡ encodes cs ∷ []
pieces-encodes [] allowed = refl
pieces-encodes (c ∷ cs) allowed =
    let parts = or_parts (is_refused_character c) (list_any is_refused_character cs) allowed in
    pieces_none (encode c) (encodes cs) (no_line_feed c parts.0) (pieces-encodes cs parts.1)

pub pieces-IsClean : (text : List ℕ) → IsClean text → pieces line_feed text ≡ text ∷ []
pieces-IsClean text clean = subst (λ these. pieces line_feed these ≡ these ∷ []) clean.spelled (pieces-encodes clean.characters clean.allowed)
