-- Separators outside double quotes: the first of them, and the pieces between them.
use Rattle.std.proofs.Common.{◌≡◌, ℕ, Bool, true, false, not, ◌&&◌, ◌==◌, List, [], ◌∷◌, Option, Some, None, option_map, refl, ap, ◌∙◌}
use Rattle.std.proofs.lemmas.Bool.{and_parts}
use borrow.Author.Tests.{not-true}
use Rattle.cal_base.specs.Lines.ContentLines.{onto_first, quoted_after, unquoted_pieces, first_unquoted}

-- what is found at an octet, and what in the octets behind it
abbrev pub found_from : Bool → ℕ → List ℕ → Option (List ℕ × List ℕ) → Option (List ℕ × List ℕ)
found_from test octet text later = elim test [ true ↦ Some ([], text) | false ↦ option_map (λ (parts : List ℕ × List ℕ). (octet ∷ parts.0, parts.1)) later ]

abbrev pub cut_from : Bool → ℕ → List (List ℕ) → List (List ℕ) → List (List ℕ)
cut_from test octet here later = elim test [ true ↦ [] ∷ here | false ↦ onto_first octet later ]

-- what is made of the two parts that are found
pub same_for_parts : {Y : Type 0} (make : List ℕ × List ℕ → Y) (parts others : List ℕ × List ℕ) → Some parts ≡ Some others → make parts ≡ make others
same_for_parts make parts others is =
    let same : parts ≡ others = cc in
    ap make same

cut_found : (separator : ℕ) (test quoted : Bool) (octet : ℕ) (text : List ℕ) (later : Option (List ℕ × List ℕ)) (pieces : List (List ℕ)) (before behind : List ℕ) → (test ≡ true → quoted ≡ false) → ((front back : List ℕ) → later ≡ Some (front, back) → pieces ≡ front ∷ unquoted_pieces separator false back) → found_from test octet text later ≡ Some (before, behind) → cut_from test octet (unquoted_pieces separator quoted text) pieces ≡ before ∷ unquoted_pieces separator false behind
cut_found separator true quoted octet text later pieces before behind outside those is =
    ap (λ q. [] ∷ unquoted_pieces separator q text) (outside refl) ∙ same_for_parts (λ (parts : List ℕ × List ℕ). parts.0 ∷ unquoted_pieces separator false parts.1) ([], text) (before, behind) is
cut_found separator false quoted octet text None pieces before behind outside those is = absurd (cc)
cut_found separator false quoted octet text (Some (front, back)) pieces before behind outside those is =
    ap (onto_first octet) (those front back refl) ∙ same_for_parts (λ (parts : List ℕ × List ℕ). parts.0 ∷ unquoted_pieces separator false parts.1) (octet ∷ front, back) (before, behind) is

-- behind the first separator the pieces go on outside quotes
pub unquoted_pieces_at : (separator : ℕ) (quoted : Bool) (text before behind : List ℕ) → first_unquoted separator quoted text ≡ Some (before, behind) → unquoted_pieces separator quoted text ≡ before ∷ unquoted_pieces separator false behind
unquoted_pieces_at separator quoted [] before behind is = absurd (cc)
unquoted_pieces_at separator quoted (octet ∷ text) before behind is =
    cut_found separator ((octet == separator) && not quoted) quoted octet text _ _ before behind
    (λ test. not-true quoted (and_parts (octet == separator) (not quoted) test).1)
    (λ front back there. unquoted_pieces_at separator (quoted_after quoted octet) text front back there) is

whole_found : (test : Bool) (octet : ℕ) (text : List ℕ) (later : Option (List ℕ × List ℕ)) (here pieces : List (List ℕ)) → (later ≡ None → pieces ≡ text ∷ []) → found_from test octet text later ≡ None → cut_from test octet here pieces ≡ (octet ∷ text) ∷ []
whole_found true octet text later here pieces those is = absurd (cc)
whole_found false octet text None here pieces those is = ap (onto_first octet) (those refl)
whole_found false octet text (Some parts) here pieces those is = absurd (cc)

-- without a separator the text is one piece
pub unquoted_pieces_whole : (separator : ℕ) (quoted : Bool) (text : List ℕ) → first_unquoted separator quoted text ≡ None → unquoted_pieces separator quoted text ≡ text ∷ []
unquoted_pieces_whole separator quoted [] is = refl
unquoted_pieces_whole separator quoted (octet ∷ text) is =
    whole_found ((octet == separator) && not quoted) octet text _ _ _ (λ none. unquoted_pieces_whole separator (quoted_after quoted octet) text none) is
