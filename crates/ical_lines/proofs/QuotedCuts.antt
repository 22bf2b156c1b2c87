-- Separators outside double quotes: texts that are joined with them, and texts without them.
use Rattle.std.proofs.Common.{◌≡◌, ℕ, ◌<◌, Bool, true, false, not, ◌&&◌, ◌==◌, List, [], ◌∷◌, ◌++◌, length, Option, Some, None, option_map, refl, sym, ap, ap₂, subst, ◌∙◌, arith}
use Rattle.std.specs.List.{AllByRecursion, join_with_byte}
use Rattle.std.proofs.lemmas.Bool.{and_parts, and_from}
use borrow.Author.Tests.{eq-eqb, eqb-true}
use Rattle.ical_lines.proofs.Pieces.{onto_first-some}
use Rattle.cal_base.specs.Lines.ContentLines.{onto_first, quoted_after, unquoted_pieces, first_unquoted}
use Rattle.cal_base.proofs.Lines.QuotedCuts.{found_from, cut_from, same_for_parts, unquoted_pieces_at, unquoted_pieces_whole}

-- A text is joined of its parts

found_text : (separator : ℕ) (test : Bool) (octet : ℕ) (text : List ℕ) (later : Option (List ℕ × List ℕ)) (before behind : List ℕ) → (test ≡ true → octet ≡ separator) → ((front back : List ℕ) → later ≡ Some (front, back) → text ≡ front ++ separator ∷ back) → found_from test octet text later ≡ Some (before, behind) → octet ∷ text ≡ before ++ separator ∷ behind
found_text separator true octet text later before behind here those is =
    ap (λ o. o ∷ text) (here refl) ∙ same_for_parts (λ (parts : List ℕ × List ℕ). parts.0 ++ separator ∷ parts.1) ([], text) (before, behind) is
found_text separator false octet text None before behind here those is = absurd (cc)
found_text separator false octet text (Some (front, back)) before behind here those is =
    ap (λ rest. octet ∷ rest) (those front back refl) ∙ same_for_parts (λ (parts : List ℕ × List ℕ). parts.0 ++ separator ∷ parts.1) (octet ∷ front, back) (before, behind) is

pub first_unquoted-text : (separator : ℕ) (quoted : Bool) (text before behind : List ℕ) → first_unquoted separator quoted text ≡ Some (before, behind) → text ≡ before ++ separator ∷ behind
first_unquoted-text separator quoted [] before behind is = absurd (cc)
first_unquoted-text separator quoted (octet ∷ text) before behind is =
    found_text separator ((octet == separator) && not quoted) octet text _ before behind
    (λ test. eqb-true octet separator (and_parts (octet == separator) (not quoted) test).0)
    (λ front back there. first_unquoted-text separator (quoted_after quoted octet) text front back there) is

join-onto_first : (separator octet : ℕ) (them : List (List ℕ)) → join_with_byte separator (onto_first octet them) ≡ octet ∷ join_with_byte separator them
join-onto_first separator octet [] = refl
join-onto_first separator octet (piece ∷ []) = refl
join-onto_first separator octet (piece ∷ next ∷ more) = refl

join_nil : (separator : ℕ) (them : List (List ℕ)) → 0 < length them → join_with_byte separator ([] ∷ them) ≡ separator ∷ join_with_byte separator them
join_nil separator [] some = absurd (omega arith)
join_nil separator (piece ∷ them) some = refl

cut_join : (separator : ℕ) (test : Bool) (octet : ℕ) (text : List ℕ) (here later : List (List ℕ)) → (test ≡ true → octet ≡ separator) → 0 < length here → join_with_byte separator here ≡ text → join_with_byte separator later ≡ text → join_with_byte separator (cut_from test octet here later) ≡ octet ∷ text
cut_join separator true octet text here later at some whole others = join_nil separator here some ∙ ap₂ (λ o rest. o ∷ rest) (sym (at refl)) whole
cut_join separator false octet text here later at some whole others = join-onto_first separator octet later ∙ ap (λ rest. octet ∷ rest) others

cut_some : (test : Bool) (octet : ℕ) (here later : List (List ℕ)) → 0 < length (cut_from test octet here later)
cut_some true octet here later = omega arith
cut_some false octet here later = onto_first-some octet later

pub unquoted_pieces-some : (separator : ℕ) (quoted : Bool) (text : List ℕ) → 0 < length (unquoted_pieces separator quoted text)
unquoted_pieces-some separator quoted [] = omega arith
unquoted_pieces-some separator quoted (octet ∷ text) = cut_some ((octet == separator) && not quoted) octet (unquoted_pieces separator quoted text) (unquoted_pieces separator (quoted_after quoted octet) text)

pub unquoted_pieces-join : (separator : ℕ) (quoted : Bool) (text : List ℕ) → join_with_byte separator (unquoted_pieces separator quoted text) ≡ text
unquoted_pieces-join separator quoted [] = refl
unquoted_pieces-join separator quoted (octet ∷ text) =
    cut_join separator ((octet == separator) && not quoted) octet text _ _
    (λ test. eqb-true octet separator (and_parts (octet == separator) (not quoted) test).0)
    (unquoted_pieces-some separator quoted text)
    (unquoted_pieces-join separator quoted text)
    (unquoted_pieces-join separator (quoted_after quoted octet) text)

-- Texts without a separator outside quotes

-- from one state of the quotes to another without a separator
abbrev pub IsClear : ℕ → Bool → List ℕ → Bool → Type 0
IsClear separator quoted [] after = quoted ≡ after
IsClear separator quoted (octet ∷ text) after = (((octet == separator) && not quoted) ≡ false) × IsClear separator (quoted_after quoted octet) text after

pub clear_append : (separator : ℕ) (quoted between : Bool) (front back : List ℕ) (after : Bool) → IsClear separator quoted front between → IsClear separator between back after → IsClear separator quoted (front ++ back) after
clear_append separator quoted between [] back after clear more = subst (λ state. IsClear separator state back after) (sym clear) more
clear_append separator quoted between (octet ∷ front) back after clear more = (clear.0, clear_append separator (quoted_after quoted octet) between front back after clear.1 more)

pub clear_found : (separator : ℕ) (quoted : Bool) (front back : List ℕ) → IsClear separator quoted front false → first_unquoted separator quoted (front ++ separator ∷ back) ≡ Some (front, back)
clear_found separator quoted [] back clear =
    ap (λ test. found_from test separator back (first_unquoted separator (quoted_after quoted separator) back)) (and_from (separator == separator) (not quoted) (eq-eqb separator separator refl) (ap not clear))
clear_found separator quoted (octet ∷ front) back clear =
    ap (λ test. found_from test octet (front ++ separator ∷ back) (first_unquoted separator (quoted_after quoted octet) (front ++ separator ∷ back))) clear.0
    ∙ ap (option_map (λ (parts : List ℕ × List ℕ). (octet ∷ parts.0, parts.1))) (clear_found separator (quoted_after quoted octet) front back clear.1)

clear_none : (separator : ℕ) (quoted after : Bool) (text : List ℕ) → IsClear separator quoted text after → first_unquoted separator quoted text ≡ None
clear_none separator quoted after [] clear = refl
clear_none separator quoted after (octet ∷ text) clear =
    ap (λ test. found_from test octet text (first_unquoted separator (quoted_after quoted octet) text)) clear.0
    ∙ ap (option_map (λ (parts : List ℕ × List ℕ). (octet ∷ parts.0, parts.1))) (clear_none separator (quoted_after quoted octet) after text clear.1)

-- the pieces of joined texts without separators are these texts
pub join-pieces : (separator : ℕ) (first : List ℕ) (more : List (List ℕ)) → AllByRecursion (λ piece. IsClear separator false piece false) (first ∷ more) → unquoted_pieces separator false (join_with_byte separator (first ∷ more)) ≡ first ∷ more
join-pieces separator first [] clear = unquoted_pieces_whole separator false first (clear_none separator false false first clear.0)
join-pieces separator first (next ∷ more) clear =
    unquoted_pieces_at separator false (first ++ separator ∷ join_with_byte separator (next ∷ more)) first (join_with_byte separator (next ∷ more)) (clear_found separator false first _ clear.0)
    ∙ ap (λ rest. first ∷ rest) (join-pieces separator next more clear.1)
