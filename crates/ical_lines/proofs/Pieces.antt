-- Pieces of a text between line feeds, and the physical and logical lines that they make up.
use Rattle.std.proofs.Common.{◌≡◌, ℕ, ◌+◌, ◌<◌, arith, false, ◌==◌, List, [], ◌∷◌, ◌++◌, length, drop, flat_map, refl, ap, ◌∙◌}
use Rattle.std.specs.List.{AllByRecursion}
use Rattle.std.proofs.lemmas.Bool.{cond-false, cond_both}
use Rattle.cal_base.specs.Texts.Octets.{line_feed, carriage_return}
use Rattle.cal_base.specs.Lines.ContentLines.{pieces, onto_first, Physical, without_return, physical_from, physical_lines, joined, groups, continues, unfolded}

-- no octet is a line feed
abbrev pub IsInOneLine : List ℕ → Type 0
IsInOneLine text = AllByRecursion (λ octet. (octet == line_feed) ≡ false) text

pub all_append : {X : Type 0} (P : X → Type 0) (xs ys : List X) → AllByRecursion P xs → AllByRecursion P ys → AllByRecursion P (xs ++ ys)
all_append P [] ys all more = more
all_append P (x ∷ xs) ys all more = (all.0, all_append P xs ys all.1 more)

pub pieces_one_line : (text : List ℕ) → IsInOneLine text → pieces line_feed text ≡ text ∷ []
pieces_one_line [] one = refl
pieces_one_line (octet ∷ text) one = cond-false _ _ _ one.0 ∙ ap (onto_first octet) (pieces_one_line text one.1)

pub pieces_at : (front rest : List ℕ) → IsInOneLine front → pieces line_feed (front ++ line_feed ∷ rest) ≡ front ∷ pieces line_feed rest
pieces_at [] rest one = refl
pieces_at (octet ∷ front) rest one = cond-false _ _ _ one.0 ∙ ap (onto_first octet) (pieces_at front rest one.1)

pub onto_first-some : (octet : ℕ) (them : List (List ℕ)) → 0 < length (onto_first octet them)
onto_first-some octet [] = omega arith
onto_first-some octet (piece ∷ them) = omega arith

onto_first-one_line : (octet : ℕ) (them : List (List ℕ)) → (octet == line_feed) ≡ false → AllByRecursion IsInOneLine them → AllByRecursion IsInOneLine (onto_first octet them)
onto_first-one_line octet [] other all = ((other, tt), tt)
onto_first-one_line octet (piece ∷ them) other all = ((other, all.0), all.1)

-- each piece is in one line
all_pieces : (text : List ℕ) → AllByRecursion IsInOneLine (pieces line_feed text)
all_pieces [] = (tt, tt)
all_pieces (octet ∷ text) =
    let behind = all_pieces text in
    cond_both (octet == line_feed) _ _ (AllByRecursion IsInOneLine) (λ _. (tt, behind)) (λ other. onto_first-one_line octet _ other behind)

without_return-one_line : (text : List ℕ) → IsInOneLine text → IsInOneLine (without_return text)
without_return-one_line [] one = tt
without_return-one_line (octet ∷ []) one = cond_both (octet == carriage_return) _ _ IsInOneLine (λ _. tt) (λ _. one)
without_return-one_line (octet ∷ next ∷ text) one = (one.0, without_return-one_line (next ∷ text) one.1)

abbrev HasOneLine : Physical → Type 0
HasOneLine physical = IsInOneLine physical.text

all_physical : (place : ℕ) (them : List (List ℕ)) → AllByRecursion IsInOneLine them → AllByRecursion HasOneLine (physical_from place them)
all_physical place [] all = tt
all_physical place (last ∷ []) all = cond_both (length last == 0) _ _ (AllByRecursion HasOneLine) (λ _. tt) (λ _. (all.0, tt))
all_physical place (piece ∷ next ∷ more) all = (without_return-one_line piece all.0, all_physical (place + length piece + 1) (next ∷ more) all.1)

joined-one_line : (physical : Physical) (them : List (List Physical)) → HasOneLine physical → AllByRecursion (AllByRecursion HasOneLine) them → AllByRecursion (AllByRecursion HasOneLine) (joined physical them)
joined-one_line physical [] one all = ((one, tt), tt)
joined-one_line physical (group ∷ them) one all =
    cond_both (continues group) _ _ (AllByRecursion (AllByRecursion HasOneLine)) (λ _. ((one, all.0), all.1)) (λ _. ((one, tt), all))

all_groups : (them : List Physical) → AllByRecursion HasOneLine them → AllByRecursion (AllByRecursion HasOneLine) (groups them)
all_groups [] all = tt
all_groups (physical ∷ more) all = joined-one_line physical (groups more) all.0 (all_groups more all.1)

drop_one-one_line : (text : List ℕ) → IsInOneLine text → IsInOneLine (drop 1 text)
drop_one-one_line [] one = tt
drop_one-one_line (octet ∷ text) one = one.1

folds-one_line : (folds : List Physical) → AllByRecursion HasOneLine folds → IsInOneLine (flat_map (λ (fold : Physical). drop 1 fold.text) folds)
folds-one_line [] all = tt
folds-one_line (fold ∷ folds) all = all_append _ (drop 1 fold.text) _ (drop_one-one_line fold.text all.0) (folds-one_line folds all.1)

unfolded-one_line : (group : List Physical) → AllByRecursion HasOneLine group → IsInOneLine (unfolded group)
unfolded-one_line [] all = tt
unfolded-one_line (physical ∷ folds) all = all_append _ physical.text _ all.0 (folds-one_line folds all.1)

-- each logical line of a text is in one line
pub all_unfolded : (octets : List ℕ) → AllByRecursion (λ group. IsInOneLine (unfolded group)) (groups (physical_lines octets))
all_unfolded octets = each_unfolded _ (all_groups _ (all_physical 0 _ (all_pieces octets)))
  where
    each_unfolded : (them : List (List Physical)) → AllByRecursion (AllByRecursion HasOneLine) them → AllByRecursion (λ group. IsInOneLine (unfolded group)) them
    each_unfolded [] all = tt
    each_unfolded (group ∷ them) all = (unfolded-one_line group all.0, each_unfolded them all.1)
