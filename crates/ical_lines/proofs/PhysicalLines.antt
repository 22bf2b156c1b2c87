-- The first physical line of a text and the lines behind it.
use Rattle.std.proofs.Common.{◌≡◌, ℕ, zero, suc, ◌+◌, ◌-◌, ◌<◌, ◌≤◌, Bool, true, false, cond, not, ◌||◌, ◌==◌, nat_lt, List, [], ◌∷◌, length, take, drop, get_or, Some, None, refl, sym, ap, ap₂, ◌∙◌, arith, add-one, length-take-le, length-drop, ⊎_elim}
use Rattle.std.specs.List.{position, prefix_len, position_or_len}
use Rattle.std.specs.Str.{is_utf8, IsUtf8}
use native.Mathlib.Numerals.{one-add}
use borrow.Author.Tests.{eq-eqb, ne_eqb, ltb-true, ltb-false, eqb-true}
use Rattle.std.proofs.lemmas.Bool.{cond-true, cond-false, cond_both, false_from_ne_true, cases_Bool}
use Rattle.std.proofs.lemmas.List.{drop_all}
use Rattle.std.proofs.lemmas.Str.{is_utf8-from_IsUtf8, IsUtf8-from_is_utf8}
use Rattle.cal_base.specs.Texts.Octets.{line_feed, carriage_return}
use Rattle.cal_base.specs.Lines.ContentLines.{pieces, onto_first, without_return, physical_from, begins_with_blank, continues}
use Rattle.ical_lines.proofs.Pieces.{onto_first-some}

abbrev is_line_feed : ℕ → Bool
is_line_feed octet = octet == line_feed

-- a CR at the end
pub without_return-return : (text : List ℕ) (end : ℕ) → end + 1 ≡ length text → get_or text end 0 ≡ carriage_return → take end text ≡ without_return text
without_return-return [] end size is = absurd (omega arith)
without_return-return (octet ∷ []) zero size is = sym (cond-true _ _ _ (eq-eqb _ _ is))
without_return-return (octet ∷ []) (suc end) size is = absurd (omega arith)
without_return-return (octet ∷ next ∷ text) zero size is = absurd (omega arith)
without_return-return (octet ∷ next ∷ text) (suc end) size is = ap (λ rest. octet ∷ rest) (without_return-return (next ∷ text) end (omega arith) is)

pub without_return-other : (text : List ℕ) (end : ℕ) → end + 1 ≡ length text → (get_or text end 0 ≡ carriage_return → ⊥) → text ≡ without_return text
without_return-other [] end size other = refl
without_return-other (octet ∷ []) zero size other = sym (cond-false _ _ _ (ne_eqb _ _ other))
without_return-other (octet ∷ []) (suc end) size other = absurd (omega arith)
without_return-other (octet ∷ next ∷ text) zero size other = absurd (omega arith)
without_return-other (octet ∷ next ∷ text) (suc end) size other = ap (λ rest. octet ∷ rest) (without_return-other (next ∷ text) end (omega arith) other)

-- the first piece, up to a line feed
abbrev first_at : ℕ → List ℕ → List (List ℕ)
first_at end text = take end text ∷ pieces line_feed (drop (suc end) text)

at_step : (test : Bool) (octet size : ℕ) (text : List ℕ) → (size < length text → pieces line_feed text ≡ first_at size text) → cond (not test) (1 + size) 0 < length (octet ∷ text) → cond test ([] ∷ pieces line_feed text) (onto_first octet (pieces line_feed text)) ≡ first_at (cond (not test) (1 + size) 0) (octet ∷ text)
at_step true octet size text behind short = refl
at_step false octet size text behind short = ap (onto_first octet) (behind (omega arith)) ∙ ap (λ n. first_at n (octet ∷ text)) (sym (one-add size))

pieces_at : (text : List ℕ) → prefix_len (λ octet. not (is_line_feed octet)) text < length text → pieces line_feed text ≡ first_at (prefix_len (λ octet. not (is_line_feed octet)) text) text
pieces_at [] short = absurd (omega arith)
pieces_at (octet ∷ text) short = at_step (is_line_feed octet) octet (prefix_len (λ other. not (is_line_feed other)) text) text (pieces_at text) short

whole_step : (test : Bool) (octet size : ℕ) (text : List ℕ) → (length text ≤ size → pieces line_feed text ≡ text ∷ []) → length (octet ∷ text) ≤ cond (not test) (1 + size) 0 → cond test ([] ∷ pieces line_feed text) (onto_first octet (pieces line_feed text)) ≡ (octet ∷ text) ∷ []
whole_step true octet size text behind long = absurd (omega arith)
whole_step false octet size text behind long = ap (onto_first octet) (behind (omega arith))

pieces_whole : (text : List ℕ) → length text ≤ prefix_len (λ octet. not (is_line_feed octet)) text → pieces line_feed text ≡ text ∷ []
pieces_whole [] long = refl
pieces_whole (octet ∷ text) long = whole_step (is_line_feed octet) octet (prefix_len (λ other. not (is_line_feed other)) text) text (pieces_whole text) long

position_some : (test : Bool) (place end : ℕ) → cond test (Some place) None ≡ Some end → (test ≡ true) × (place ≡ end)
position_some true place end is = (refl, cc)
position_some false place end is = absurd (cc)

position_none : (test : Bool) (place : ℕ) → cond test (Some place) None ≡ None → test ≡ false
position_none true place is = absurd (cc)
position_none false place is = refl

-- a text has at least one piece
pub pieces-some : (text : List ℕ) → 0 < length (pieces line_feed text)
pieces-some [] = omega arith
pieces-some (octet ∷ text) = cond_both (is_line_feed octet) _ _ (λ (them : List (List ℕ)). 0 < length them) (λ _. omega arith) (λ _. onto_first-some octet (pieces line_feed text))

front_of_pieces : (place : ℕ) (front : List ℕ) (them : List (List ℕ)) → 0 < length them → physical_from place (front ∷ them) ≡ record { place = place; text = without_return front } ∷ physical_from (place + length front + 1) them
front_of_pieces place front [] some = absurd (omega arith)
front_of_pieces place front (piece ∷ them) some = refl

pub physical_front : (place : ℕ) (front : List ℕ) (behind : List ℕ) → physical_from place (front ∷ pieces line_feed behind) ≡ record { place = place; text = without_return front } ∷ physical_from (place + length front + 1) (pieces line_feed behind)
physical_front place front behind = front_of_pieces place front (pieces line_feed behind) (pieces-some behind)

-- the first physical line where a line feed ends it
pub physical_ended : (octets : List ℕ) (end place : ℕ) → position is_line_feed octets ≡ Some end → physical_from place (pieces line_feed octets) ≡ record { place = place; text = without_return (take end octets) } ∷ physical_from (place + (length octets - length (drop (end + 1) octets))) (pieces line_feed (drop (end + 1) octets))
physical_ended octets end place is =
    let found = position_some (nat_lt (position_or_len is_line_feed octets) (length octets)) _ end is in
    let short = ltb-true _ _ found.0 in
    let size = length-take-le end octets (omega arith) in
    let rest = length-drop (end + 1) octets in
    ap (physical_from place) (pieces_at octets short ∙ ap (λ n. first_at n octets) found.1)
    ∙ physical_front place (take end octets) (drop (suc end) octets)
    ∙ ap₂ (λ n rest. record { place = place; text = without_return (take end octets) } ∷ physical_from n (pieces line_feed rest)) (omega arith) (ap (λ n. drop n octets) (sym (add-one end)))

-- the last physical line, which lacks its end
pub physical_last : (octets : List ℕ) (place next : ℕ) → 0 < length octets → position is_line_feed octets ≡ None → physical_from place (pieces line_feed octets) ≡ record { place = place; text = octets } ∷ physical_from next (pieces line_feed (drop (length octets) octets))
physical_last octets place next some is =
    let none = position_none (nat_lt (position_or_len is_line_feed octets) (length octets)) _ is in
    ap (physical_from place) (pieces_whole octets (ltb-false _ _ none))
    ∙ cond-false _ _ _ (ne_eqb (length octets) 0 (λ (empty : length octets ≡ 0). omega arith))
    ∙ ap (λ rest. record { place = place; text = octets } ∷ physical_from next (pieces line_feed rest)) (sym (drop_all (length octets) octets (omega arith)))

without_return-blank : (octet : ℕ) (piece : List ℕ) → begins_with_blank (without_return (octet ∷ piece)) ≡ begins_with_blank (octet ∷ piece)
without_return-blank octet [] = ⊎_elim
    (λ (same : (octet == carriage_return) ≡ true). ap begins_with_blank (cond-true _ _ _ same) ∙ ap (λ o. begins_with_blank (o ∷ [])) (sym (eqb-true octet carriage_return same)))
    (λ (other : (octet == carriage_return) ≡ false). ap begins_with_blank (cond-false _ _ _ other)) (cases_Bool (octet == carriage_return))
without_return-blank octet (next ∷ piece) = refl

last_physical : (place octet : ℕ) (text : List ℕ) → physical_from place ((octet ∷ text) ∷ []) ≡ record { place = place; text = octet ∷ text } ∷ []
last_physical place octet text = cond-false _ _ _ (ne_eqb (length (octet ∷ text)) 0 (λ (empty : length (octet ∷ text) ≡ 0). omega arith))

onto_first-blank : (octet place : ℕ) (text : List ℕ) (them : List (List ℕ)) → continues (physical_from place (onto_first octet them)) ≡ begins_with_blank (octet ∷ text)
onto_first-blank octet place text [] = ap continues (last_physical place octet [])
onto_first-blank octet place text (piece ∷ []) = ap continues (last_physical place octet piece)
onto_first-blank octet place text (piece ∷ next ∷ more) = without_return-blank octet piece

-- whether the first physical line is a continuation can be seen at the text
pub continues-physical : (octets : List ℕ) (place : ℕ) → continues (physical_from place (pieces line_feed octets)) ≡ begins_with_blank octets
continues-physical [] place = refl
continues-physical (octet ∷ text) place = ⊎_elim
    (λ (same : (octet == line_feed) ≡ true). ap (λ them. continues (physical_from place them)) (cond-true _ _ _ same) ∙ ap continues (physical_front place [] text) ∙ ap (λ o. begins_with_blank (o ∷ text)) (sym (eqb-true octet line_feed same)))
    (λ (other : (octet == line_feed) ≡ false). ap (λ them. continues (physical_from place them)) (cond-false _ _ _ other) ∙ onto_first-blank octet place text (pieces line_feed text))
    (cases_Bool (octet == line_feed))

-- a physical line of UTF-8 is refused for its characters alone
pub refused-utf8 : (text : List ℕ) (refused : Bool) → IsUtf8 text → refused ≡ (not (is_utf8 text) || refused)
refused-utf8 text refused utf8 = ap (λ test. not test || refused) (sym (is_utf8-from_IsUtf8 text utf8))

pub refused-other : (text : List ℕ) (refused : Bool) → ¬ (IsUtf8 text) → true ≡ (not (is_utf8 text) || refused)
refused-other text refused other = ap (λ test. not test || refused) (sym (false_from_ne_true (is_utf8 text) (λ test. other (IsUtf8-from_is_utf8 text test))))
