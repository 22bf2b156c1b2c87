-- The items of a value, some of them joined again.
use Rattle.std.proofs.Common.{◌≡◌, ℕ, ◌<◌, Bool, ◌==◌, List, [], ◌∷◌, length, refl, sym, ap, ap₂, subst, ◌∙◌, arith}
use Rattle.std.specs.Prelude.{filter}
use Rattle.std.specs.List.{AllByRecursion, join_with_byte}
use Rattle.std.proofs.lemmas.Bool.{cond_both, eqb-true}
use Rattle.cal_base.specs.Texts.Octets.{comma}
use Rattle.cal_base.specs.Lines.ContentLines.{pieces, onto_first}
use Rattle.ical_lines.proofs.Pieces.{onto_first-some}
use Rattle.shown_lines.specs.Heads.{IsClean}
use Rattle.shown_lines.proofs.CleanTexts.{clean-pieces, clean-join, all-filter}

pieces-some : (separator : ℕ) (text : List ℕ) → 0 < length (pieces separator text)
pieces-some separator [] = omega arith
pieces-some separator (octet ∷ text) = cond_both (octet == separator) _ _ (λ them. 0 < length them) (λ _. omega arith) (λ _. onto_first-some octet (pieces separator text))

join-onto_first : (separator octet : ℕ) (them : List (List ℕ)) → join_with_byte separator (onto_first octet them) ≡ octet ∷ join_with_byte separator them
join-onto_first separator octet [] = refl
join-onto_first separator octet (piece ∷ []) = refl
join-onto_first separator octet (piece ∷ next ∷ more) = refl

join-behind : (separator : ℕ) (them : List (List ℕ)) → 0 < length them → join_with_byte separator ([] ∷ them) ≡ separator ∷ join_with_byte separator them
join-behind separator [] some = absurd (omega arith)
join-behind separator (piece ∷ them) some = refl

pieces-join : (separator : ℕ) (text : List ℕ) → join_with_byte separator (pieces separator text) ≡ text
pieces-join separator [] = refl
pieces-join separator (octet ∷ text) =
    let behind = pieces-join separator text in
    cond_both (octet == separator) ([] ∷ pieces separator text) (onto_first octet (pieces separator text)) (λ them. join_with_byte separator them ≡ octet ∷ text)
    (λ same. join-behind separator (pieces separator text) (pieces-some separator text) ∙ ap₂ (λ o rest. o ∷ rest) (sym (eqb-true octet separator same)) behind)
    (λ _. join-onto_first separator octet (pieces separator text) ∙ ap (λ rest. octet ∷ rest) behind)

all_pieces : (them : List (List ℕ)) → IsClean (join_with_byte comma them) → AllByRecursion IsClean them
all_pieces [] clean = tt
all_pieces (first ∷ more) clean = clean-pieces comma (omega arith) first more clean

-- some items of a value of one line are one line
pub clean-items : (value : List ℕ) (kept : List ℕ → Bool) → IsClean value → IsClean (join_with_byte comma (filter kept (pieces comma value)))
clean-items value kept clean =
    clean-join comma (omega arith, omega arith) (filter kept (pieces comma value))
    (all-filter IsClean kept (pieces comma value) (all_pieces (pieces comma value) (subst IsClean (sym (pieces-join comma value)) clean)))
