-- What a crash leaves of a file whose gate is opened between two syncs.
use Rattle.std.proofs.Common.{◌≡◌, inl, inr, ℕ, ◌+◌, ◌<◌, List, [], ◌∷◌, ◌++◌, length, get_or, slice_get, drop, unwrap_or, Option, sym, ◌∙◌, ap, arith, length-append, append_assoc}
use Rattle.std.proofs.lemmas.Option.{unwrap_or-slice_get}
use Rattle.std.proofs.lemmas.List.{drop_more, get_or_append_left, get_or-append-add}
use Rattle.std.proofs.lemmas.List.Prefix.{front_from_reads, at_from_reads}
use Rattle.cal_keeper.specs.Disks.CrashModel.{IsTorn}
use Rattle.cal_keeper.specs.Steps.WriteRuns.{IsSpared}
use Rattle.cal_keeper.proofs.Runs.{is_there}

pub get_same : (xs ys : List ℕ) (i : ℕ) → slice_get xs i ≡ slice_get ys i → get_or xs i 0 ≡ get_or ys i 0
get_same xs ys i same = sym (unwrap_or-slice_get xs i 0) ∙ ap (λ (o : Option ℕ). unwrap_or o 0) same ∙ unwrap_or-slice_get ys i 0

-- what is spared up to a gate begins with the front and the gate
pub spared_front : (front : List ℕ) (gate : ℕ) (rest image : List ℕ) (place : ℕ) → place ≡ length front → IsSpared (place + 1) (front ++ gate ∷ rest) image
    → image ≡ front ++ gate ∷ drop (length (front ++ gate ∷ [])) image
spared_front front gate rest image place place_is spared =
    let size : length (front ++ gate ∷ rest) ≡ place + 1 + length rest = omega (arith, length-append front (gate ∷ rest)) in
    let short : length (front ++ gate ∷ []) ≡ place + 1 = omega (arith, length-append front (gate ∷ [])) in
    let long : place < length image = is_there (front ++ gate ∷ rest) image place (omega arith) (spared.stays place (omega arith) (omega arith)) in
    let regrouped : front ++ gate ∷ rest ≡ (front ++ gate ∷ []) ++ rest = sym (append_assoc front (gate ∷ []) rest) in
    let reads : (i : ℕ) → i < length (front ++ gate ∷ []) → get_or image i 0 ≡ get_or (front ++ gate ∷ []) i 0 = λ i less.
    get_same image (front ++ gate ∷ rest) i (spared.stays i (omega arith) (omega arith)) ∙ ap (λ (xs : List ℕ). get_or xs i 0) regrouped ∙ get_or_append_left (front ++ gate ∷ []) rest 0 i less in
    front_from_reads 0 image (front ++ gate ∷ []) (omega arith) reads ∙ append_assoc front (gate ∷ []) (drop (length (front ++ gate ∷ [])) image)

-- a gate that is torn leaves the front and what stands behind the gate
pub torn_gate : (front : List ℕ) (gate : ℕ) (body rest image : List ℕ) (place : ℕ) → place ≡ length front → 0 < length body → IsTorn place 1 (front ++ gate ∷ (body ++ rest)) image
    → image ≡ front ++ get_or image place 0 ∷ (body ++ drop (place + 1 + length body) image)
torn_gate front gate body rest image place place_is some torn =
    let file = front ++ gate ∷ (body ++ rest) in
    let size : length (front ++ gate ∷ (body ++ rest)) ≡ place + 1 + length body + length rest = omega (arith, length-append front (gate ∷ (body ++ rest)), length-append body rest) in
    let end : place + length body < length image = is_there (front ++ gate ∷ (body ++ rest)) image (place + length body) (omega arith) (torn.stays (place + length body) (omega arith) (inr (omega arith))) in
    let early : (i : ℕ) → i < length front → get_or image i 0 ≡ get_or front i 0 = λ i less.
    get_same image (front ++ gate ∷ (body ++ rest)) i (torn.stays i (omega arith) (inl (omega arith))) ∙ get_or_append_left front (gate ∷ (body ++ rest)) 0 i less in
    let late : (i : ℕ) → i < length body → get_or image (place + 1 + i) 0 ≡ get_or body i 0 = λ i less.
    let there : place + 1 + i ≡ length front + (1 + i) = omega arith in
    let first : 1 + i ≡ length (gate ∷ []) + i = omega arith in
    get_same image (front ++ gate ∷ (body ++ rest)) (place + 1 + i) (torn.stays (place + 1 + i) (omega arith) (inr (omega arith)))
    ∙ ap (λ (n : ℕ). get_or (front ++ gate ∷ (body ++ rest)) n 0) there
    ∙ get_or-append-add front (gate ∷ (body ++ rest)) (1 + i) 0
    ∙ ap (λ (n : ℕ). get_or (gate ∷ (body ++ rest)) n 0) first
    ∙ get_or-append-add (gate ∷ []) (body ++ rest) i 0
    ∙ get_or_append_left body rest 0 i less in
    let back = at_from_reads 0 image body (place + 1) (omega arith) late in
    let whole : drop (length front) image ≡ get_or image place 0 ∷ (body ++ drop (place + 1 + length body) image) =
    ap (λ (n : ℕ). drop n image) (sym place_is) ∙ drop_more image place 0 (omega arith) ∙ ap (λ (xs : List ℕ). get_or image place 0 ∷ xs) back in
    front_from_reads 0 image front (omega arith) early ∙ ap (λ (xs : List ℕ). front ++ xs) whole
