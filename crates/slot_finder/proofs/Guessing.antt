-- A place that is guessed to be that of the first run that ends behind a moment.
use Rattle.std.proofs.Common.{◌≡◌, ℕ, ◌+◌, ◌<◌, List, [], ◌∷◌, ◌++◌, length, get_or, refl, sym, ap, subst, ◌∙◌, inl, inr, arith, length-append}
use Rattle.std.specs.Prelude.{ℤ, ◌≤ℤ◌, ◌<ℤ◌, filter, All, AllPairs}
use Rattle.std.proofs.lemmas.Int.{ints}
use Rattle.std.proofs.lemmas.Bool.{cases_lt, cond-true, cond-false}
use Rattle.std.proofs.lemmas.List.{get_or_append_left, get_or-append-add, get_or_at}
use Rattle.std.proofs.lemmas.List.Elements.{All-cons, All-head, All-tail, All-weaker, filter-append}
use Rattle.cal_model.proofs.Words.AllLemmas.{All-left, All-right}
use Rattle.freebusy.specs.declared.busy.Run.{Run}
use Rattle.slot_finder.specs.FreeTimes.{AreInOrder}
use Rattle.slot_finder.specs.Fits.{ends_behind}
use Rattle.slot_finder.proofs.Comparisons.{lt_is, not_lt_is}
use Rattle.slot_finder.proofs.RunsBehind.{end_later}

-- Parts of runs in order.

pairs_left : (xs ys : List Run) → AllPairs (λ (run later : Run). run.end.0 ≤ℤ later.start.0) (xs ++ ys) → AllPairs (λ (run later : Run). run.end.0 ≤ℤ later.start.0) xs
pairs_left xs ys pairs i j d less below =
    let there = pairs i j d less (omega (arith, below, length-append xs ys)) in
    let first = ap (λ (run : Run). run.end.0) (get_or_append_left xs ys d i (omega (arith, less, below))) in
    let second = ap (λ (run : Run). run.start.0) (get_or_append_left xs ys d j below) in
    omega (arith, ints, there, first, second)

pairs_right : (xs ys : List Run) → AllPairs (λ (run later : Run). run.end.0 ≤ℤ later.start.0) (xs ++ ys) → AllPairs (λ (run later : Run). run.end.0 ≤ℤ later.start.0) ys
pairs_right xs ys pairs i j d less below =
    let there = pairs (length xs + i) (length xs + j) d (omega (arith, less)) (omega (arith, below, length-append xs ys)) in
    let first = ap (λ (run : Run). run.end.0) (get_or-append-add xs ys i d) in
    let second = ap (λ (run : Run). run.start.0) (get_or-append-add xs ys j d) in
    omega (arith, ints, there, first, second)

pub order_left : (xs ys : List Run) → AreInOrder (xs ++ ys) → AreInOrder xs
order_left xs ys order = record { each = All-left (λ (run : Run). run.start.0 <ℤ run.end.0) xs ys order.each; apart = pairs_left xs ys order.apart }

pub order_right : (xs ys : List Run) → AreInOrder (xs ++ ys) → AreInOrder ys
order_right xs ys order = record { each = All-right (λ (run : Run). run.start.0 <ℤ run.end.0) xs ys order.each; apart = pairs_right xs ys order.apart }

-- What a filter keeps of such parts.

keeps_none : (runs : List Run) (at : ℤ) → All (λ (run : Run). run.end.0 ≤ℤ at) runs → filter (ends_behind at) runs ≡ []
keeps_none [] at over = refl
keeps_none (run ∷ runs) at over =
    cond-false (ends_behind at run) (run ∷ filter (ends_behind at) runs) (filter (ends_behind at) runs) (not_lt_is at run.end.0 (All-head (λ (r : Run). r.end.0 ≤ℤ at) run runs over))
    ∙ keeps_none runs at (All-tail (λ (r : Run). r.end.0 ≤ℤ at) run runs over)

keeps_all : (runs : List Run) (at : ℤ) → All (λ (run : Run). at <ℤ run.end.0) runs → filter (ends_behind at) runs ≡ runs
keeps_all [] at behind = refl
keeps_all (run ∷ runs) at behind =
    cond-true (ends_behind at run) (run ∷ filter (ends_behind at) runs) (filter (ends_behind at) runs) (lt_is at run.end.0 (All-head (λ (r : Run). at <ℤ r.end.0) run runs behind))
    ∙ ap (λ (rest : List Run). run ∷ rest) (keeps_all runs at (All-tail (λ (r : Run). at <ℤ r.end.0) run runs behind))

pub guessed : (runs before behind : List Run) (at : ℤ) → runs ≡ before ++ behind → All (λ (run : Run). run.end.0 ≤ℤ at) before → All (λ (run : Run). at <ℤ run.end.0) behind
    → behind ≡ filter (ends_behind at) runs
guessed runs before behind at parts over later =
    sym (ap (filter (ends_behind at)) parts ∙ filter-append (ends_behind at) before behind
    ∙ ap (λ (xs : List Run). xs ++ filter (ends_behind at) behind) (keeps_none before at over) ∙ keeps_all behind at later)

-- By the last run and the first.

over_before : (runs rest : List Run) (last : Run) (at : ℤ) → AreInOrder runs → runs ≡ rest ++ last ∷ [] → last.end.0 ≤ℤ at → (k : ℕ) (d : Run) → k < length rest → (get_or runs k d).end.0 ≤ℤ at
over_before runs rest last at order is over k d below =
    let long = ap length is ∙ length-append rest (last ∷ []) in
    let there : get_or runs (length rest) d ≡ last = ap (λ (xs : List Run). get_or xs (length rest) d) is ∙ get_or_at rest last [] d (length rest) refl in
    let apart = order.apart k (length rest) d below (omega (arith, long)) in
    let some = order.each (length rest) d (omega (arith, long)) in
    let starts = ap (λ (run : Run). run.start.0) there in
    let ends = ap (λ (run : Run). run.end.0) there in
    omega (arith, ints, apart, some, starts, ends, over)

over_at : (runs rest : List Run) (last : Run) (at : ℤ) → runs ≡ rest ++ last ∷ [] → last.end.0 ≤ℤ at → (k : ℕ) (d : Run) → k ≡ length rest → (get_or runs k d).end.0 ≤ℤ at
over_at runs rest last at is over k d here =
    let there : get_or runs k d ≡ last = ap (λ (xs : List Run). get_or xs k d) is ∙ get_or_at rest last [] d k (sym here) in
    let ends = ap (λ (run : Run). run.end.0) there in
    omega (arith, ints, ends, over)

pub over_by_last : (runs rest : List Run) (last : Run) (at : ℤ) → AreInOrder runs → runs ≡ rest ++ last ∷ [] → last.end.0 ≤ℤ at → All (λ (run : Run). run.end.0 ≤ℤ at) runs
over_by_last runs rest last at order is over k d below = elim (cases_lt k (length rest)) [
  | inl before ↦ over_before runs rest last at order is over k d before
  | inr last_one ↦ (let long = ap length is ∙ length-append rest (last ∷ []) in over_at runs rest last at is over k d (omega (arith, long, last_one, below)))
]

pub behind_by_first : (runs behind : List Run) (first : Run) (at : ℤ) → AreInOrder runs → runs ≡ first ∷ behind → at <ℤ first.end.0 → All (λ (run : Run). at <ℤ run.end.0) runs
behind_by_first runs behind first at order is later =
    subst (All (λ (run : Run). at <ℤ run.end.0)) (sym is)
    (All-cons (λ (run : Run). at <ℤ run.end.0) first behind later
    (All-weaker (λ (run : Run). first.end.0 <ℤ run.end.0) (λ (run : Run). at <ℤ run.end.0) (λ run further. omega (arith, ints, later, further)) behind (end_later first behind (subst AreInOrder is order))))
