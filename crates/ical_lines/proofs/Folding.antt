-- Folding: a text cut behind the last character that fits, against the definition, which goes by characters.
use Rattle.std.proofs.Common.{◌≡◌, ℕ, zero, suc, ◌+◌, ◌-◌, ◌<◌, ◌≤◌, true, List, [], ◌∷◌, ◌++◌, length, take, drop, get_or, refl, sym, ap, ◌∙◌, arith, append_assoc, length-append, length-drop, drop_at, take-append-drop, le-leb, length-take-le, ⊎_elim, ◌==◌, nat_eq, leb}
use borrow.Author.Tests.{lt-leb}
use Rattle.std.specs.Str.{is_utf8, chars, IsUtf8, IsCharBoundary}
use Rattle.std.specs.Char.{len_utf8}
use Rattle.std.proofs.lemmas.Bool.{cond-true, cond-false, cond_both, or_right, cases_lt}
use Rattle.std.proofs.lemmas.Str.{chars-encodes, chars-append, encodes-chars, IsUtf8-from_is_utf8, is_utf8-from_IsUtf8, IsUtf8-drop, IsUtf8-take, IsCharBoundary-past_char, IsCharBoundary-start, length-encode, len_utf8_bounds}
use lib.Pointwise.{pointwise}
use lib.Utf8.{encode, encodes, scalars}
use Rattle.cal_base.specs.Lines.LineGrammar.{EndsLine}
use Rattle.cal_base.specs.Texts.Octets.{line_feed, carriage_return, space}
use Rattle.cal_base.specs.Lines.WrittenLines.{folded}

pub length-encode_le : (character : ℕ) → length (encode character) ≤ 4
length-encode_le character = let bounds = len_utf8_bounds character in omega (arith, length-encode character)

pub folded_fits : (character : ℕ) (more : List ℕ) (room : ℕ) → length (encode character) ≤ room → folded room (character ∷ more) ≡ encode character ++ folded (room - length (encode character)) more
folded_fits character more room fits = cond-true _ _ _ (le-leb _ _ fits)

pub folded_over : (character : ℕ) (more : List ℕ) (room : ℕ) → room < length (encode character) → folded room (character ∷ more) ≡ carriage_return ∷ line_feed ∷ space ∷ folded 74 (character ∷ more)
folded_over character more room over =
    let small = length-encode_le character in
    cond-false _ _ _ (lt-leb _ _ over) ∙ ap (λ (text : List ℕ). carriage_return ∷ line_feed ∷ space ∷ text) (sym (folded_fits character more 74 (omega arith)))

-- a fold stands before the first character that doesn't fit
folded_at : (front : List ℕ) (character : ℕ) (more : List ℕ) (room : ℕ) → length (encodes front) ≤ room → room < length (encodes front) + length (encode character) → folded room (front ++ character ∷ more) ≡ encodes front ++ (carriage_return ∷ line_feed ∷ space ∷ folded 74 (character ∷ more))
folded_at [] character more room fits over = folded_over character more room (omega (arith, over))
folded_at (first ∷ front) character more room fits over =
    let size = length-append (encode first) (encodes front) in
    folded_fits first (front ++ character ∷ more) room (omega arith)
    ∙ ap (λ text. encode first ++ text) (folded_at front character more (room - length (encode first)) (omega arith) (omega arith))
    ∙ sym (append_assoc (encode first) (encodes front) _)

-- no fold stands in a text that fits
folded_whole : (characters : List ℕ) (room : ℕ) → length (encodes characters) ≤ room → folded room characters ≡ encodes characters ++ (carriage_return ∷ line_feed ∷ [])
folded_whole [] room fits = refl
folded_whole (first ∷ more) room fits =
    let size = length-append (encode first) (encodes more) in
    folded_fits first more room (omega arith)
    ∙ ap (λ text. encode first ++ text) (folded_whole more (room - length (encode first)) (omega arith))
    ∙ sym (append_assoc (encode first) (encodes more) _)

-- the same of a text's octets
pub folded-chars_whole : (text : List ℕ) (room : ℕ) → is_utf8 text ≡ true → length text ≤ room → folded room (chars text) ≡ text ++ (carriage_return ∷ line_feed ∷ [])
folded-chars_whole text room utf8 fits =
    let same = encodes-chars text (IsUtf8-from_is_utf8 text utf8) in
    folded_whole (chars text) room (omega (arith, ap length same)) ∙ ap (λ front. front ++ (carriage_return ∷ line_feed ∷ [])) same

-- where a text is cut for a fold
pub record IsFoldPlace (text : List ℕ) (room place : ℕ) : Type 0 where
  pub some : 0 < place
  pub rest_is_utf8 : is_utf8 (drop place text) ≡ true
  pub folds : folded room (chars text) ≡ take place text ++ (carriage_return ∷ line_feed ∷ space ∷ folded 74 (chars (drop place text)))

fold_parts : (text : List ℕ) (room place : ℕ) → place ≤ room → 4 ≤ room → room < length text → IsUtf8 (take place text) → (behind : List ℕ) → scalars behind ≡ true → encodes behind ≡ drop place text → ((character : ℕ) (more : List ℕ) → behind ≡ character ∷ more → room < place + len_utf8 character) → IsFoldPlace text room place
fold_parts text room place fits wide long front [] good same over = absurd (omega (arith, ap length same, length-drop place text))
fold_parts text room place fits wide long front (character ∷ more) good same over =
    let beyond = over character more refl in
    let small = len_utf8_bounds character in
    let size = length-encode character in
    let before = length-take-le place text (omega arith) in
    let behind_utf8 : IsUtf8 (drop place text) = (character ∷ more, (good, same)) in
    let read_behind : chars (drop place text) ≡ character ∷ more = ap chars (sym same) ∙ chars-encodes (character ∷ more) good in
    let read : chars text ≡ front.0 ++ character ∷ more = ap chars (sym (take-append-drop place text)) ∙ chars-append (take place text) (drop place text) front ∙ cc (chars-encodes front.0 front.1.0, front.1.1, read_behind) in
    let folded_there = folded_at front.0 character more room (omega (arith, ap length front.1.1)) (omega (arith, ap length front.1.1)) in
    record {
      some = omega arith;
      rest_is_utf8 = is_utf8-from_IsUtf8 _ behind_utf8;
      folds = cc (read, read_behind, folded_there, front.1.1);
    }

-- a character that ended within the room would end where another begins
past_room : (text : List ℕ) (room place character : ℕ) (more : List ℕ) → room < length text → place ≤ room → ((k : ℕ) → place < k → k ≤ room → (128 ≤ get_or text k 0) × (get_or text k 0 < 192)) → IsUtf8 (drop place text) → drop place text ≡ encode character ++ encodes more → room < place + len_utf8 character
past_room text room place character more long fits inside behind is =
    let begins = IsCharBoundary-past_char text (encodes more) place character (omega arith) behind is in
    let small = len_utf8_bounds character in
    ⊎_elim (λ (past : room < place + len_utf8 character). past)
    (λ (within : place + len_utf8 character ≤ room). let octet = inside (place + len_utf8 character) (omega arith) within in absurd (omega (arith, begins.1 (omega arith) octet.0)))
    (cases_lt room (place + len_utf8 character))

-- an octet within a character is not the first of the text
pub first_octet_begins : (text : List ℕ) (place : ℕ) → is_utf8 text ≡ true → 0 < length text → (128 ≤ get_or text place 0) × (get_or text place 0 < 192) → 1 ≤ place
first_octet_begins text zero utf8 long inside =
    let begins = IsCharBoundary-start text (IsUtf8-from_is_utf8 text utf8) in
    absurd (omega (arith, begins.1 long inside.0))
first_octet_begins text (suc place) utf8 long inside = omega arith

-- the last place within the room at which a character begins
pub fold_at_boundary : (text : List ℕ) (room place : ℕ) → is_utf8 text ≡ true → room < length text → 4 ≤ room → place ≤ room → IsCharBoundary text place → ((k : ℕ) → place < k → k ≤ room → (128 ≤ get_or text k 0) × (get_or text k 0 < 192)) → IsFoldPlace text room place
fold_at_boundary text room place utf8 long wide fits boundary inside =
    let whole = IsUtf8-from_is_utf8 text utf8 in
    let behind = IsUtf8-drop text place whole boundary in
    fold_parts text room place fits wide long (IsUtf8-take text place whole boundary) behind.0 behind.1.0 behind.1.1
    (λ character more is. past_room text room place character more long fits inside (IsUtf8-drop text place whole boundary) (sym behind.1.1 ∙ ap encodes is))

folded_ends : (characters : List ℕ) (room : ℕ) → (front : List ℕ) × (folded room characters ≡ front ++ line_feed ∷ [])
folded_ends [] room = (carriage_return ∷ [], refl)
folded_ends (first ∷ more) room =
    let fits = folded_ends more (room - length (encode first)) in
    let over = folded_ends more (74 - length (encode first)) in
    let begun : List ℕ = carriage_return ∷ line_feed ∷ space ∷ encode first in
    cond_both (leb (length (encode first)) room) _ _ (λ text. (front : List ℕ) × (text ≡ front ++ line_feed ∷ []))
    (λ _. (encode first ++ fits.0, ap (λ text. encode first ++ text) fits.1 ∙ sym (append_assoc (encode first) fits.0 _)))
    (λ _. (begun ++ over.0, ap (λ text. begun ++ text) over.1 ∙ sym (append_assoc begun over.0 _)))

ends_line : (front : List ℕ) → EndsLine (front ++ line_feed ∷ [])
ends_line front =
    let behind : drop (length (front ++ line_feed ∷ []) - 1) (front ++ line_feed ∷ []) ≡ line_feed ∷ [] = drop_at front (line_feed ∷ []) _ (omega (arith, length-append front (line_feed ∷ []))) in
    or_right (length (front ++ line_feed ∷ []) == 0) _ (ap (λ rest. pointwise nat_eq (line_feed ∷ []) rest) behind)

-- a written line ends
pub folded-EndsLine : (before : List ℕ) (characters : List ℕ) (room : ℕ) → EndsLine (before ++ folded room characters)
folded-EndsLine before characters room =
    let ends = folded_ends characters room in
    rw ends.1 (rw (← append_assoc) (ends_line (before ++ ends.0)))
