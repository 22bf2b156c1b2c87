-- The free times of a range depend on which of its seconds are free, and on nothing else; and they lie in it.
use Rattle.std.proofs.Common.{◌≡◌, ℕ, zero, suc, Bool, true, false, cond, not, ◌&&◌, ◌||◌, List, ◌∷◌, refl, sym, ap, subst, ◌∙◌, arith}
use Rattle.std.specs.Prelude.{ℤ, pos, ◌+ℤ◌, ◌-ℤ◌, ◌≤ℤ◌, ◌<ℤ◌, All}
use Rattle.std.proofs.lemmas.Int.{ints, by_lt_z}
use Rattle.std.proofs.lemmas.List.Elements.{All-nil, All-cons}
use Rattle.cal_model.specs.declared.row.Range.{Range}
use Rattle.cal_model.specs.Words.Integers.{same_int}
use Rattle.cal_model.proofs.Words.IntegerLemmas.{same_int-self}
use Rattle.slot_finder.specs.FreeTimes.{begins, free_count, free_times, has_seconds, seconds_from, stretch}
use Rattle.slot_finder.proofs.Picking.{picked, picked_more}
use Rattle.slot_finder.proofs.Searching.{seconds_between, seconds-none, seconds-is}
use Rattle.slot_finder.proofs.Stretches.{count_bound, time_between}

-- two tests say the same of each second from one moment up to another
abbrev pub SaySame : (ℤ → Bool) → (ℤ → Bool) → ℤ → ℤ → Type 0
SaySame f g low high = (t : ℤ) → low ≤ℤ t → t <ℤ high → f t ≡ g t

count-same : (f g : ℤ → Bool) (t : ℤ) (n : ℕ) → SaySame f g t (t +ℤ pos n) → free_count f t n ≡ free_count g t n
count-same f g t zero same = refl
count-same f g t (suc n) same =
    ap (λ (b : Bool). cond b (suc (free_count f (t +ℤ pos 1) n)) 0) (same t (omega (arith, ints)) (omega (arith, ints)))
    ∙ ap (λ (k : ℕ). cond (g t) (suc k) 0) (count-same f g (t +ℤ pos 1) n (λ u from before. same u (omega (arith, ints, from)) (omega (arith, ints, before))))

stretch-same : (f g : ℤ → Bool) (range : Range) (t : ℤ) → SaySame f g t range.end.0 → stretch f range t ≡ stretch g range t
stretch-same f g range t same =
    let count : free_count f t (seconds_between t range.end.0) ≡ free_count g t (seconds_between t range.end.0) =
    count-same f g t (seconds_between t range.end.0) (λ u from before. same u from (by_lt_z t range.end.0
    (λ less. let is = seconds-is t range.end.0 (omega (arith, ints, less)) in omega (arith, ints, before, is))
    (λ past. let none = seconds-none t range.end.0 past in absurd (omega (arith, ints, from, before, none))))) in
    ap (λ (n : ℕ). time_between t (t +ℤ pos n)) count

begins-same : (f g : ℤ → Bool) (range : Range) (t : ℤ) → range.start.0 ≤ℤ t → t <ℤ range.end.0 → SaySame f g range.start.0 range.end.0 → begins f range t ≡ begins g range t
begins-same f g range t from before same =
    ap (λ (b : Bool). b && (same_int t range.start.0 || not (f (t -ℤ pos 1)))) (same t from before)
    ∙ ap (λ (b : Bool). g t && b) (by_lt_z range.start.0 t
    (λ later. ap (λ (b : Bool). same_int t range.start.0 || not b) (same (t -ℤ pos 1) (omega (arith, ints, later)) (omega (arith, ints, before))))
    (λ first. let at_start : t ≡ range.start.0 = omega (arith, ints, from, first) in
    let is : same_int t range.start.0 ≡ true = ap (λ (u : ℤ). same_int u range.start.0) at_start ∙ same_int-self range.start.0 in
    ap (λ (b : Bool). b || not (f (t -ℤ pos 1))) is ∙ sym (ap (λ (b : Bool). b || not (g (t -ℤ pos 1))) is)))

picked-same : (f g : ℤ → Bool) (range : Range) (seconds : ℕ) (n : ℕ) (t : ℤ) → range.start.0 ≤ℤ t → (t +ℤ pos n) ≤ℤ range.end.0 → SaySame f g range.start.0 range.end.0
    → picked f range seconds (seconds_from t n) ≡ picked g range seconds (seconds_from t n)
picked-same f g range seconds zero t from within same = refl
picked-same f g range seconds (suc n) t from within same =
    picked_more f range seconds t (seconds_from (t +ℤ pos 1) n)
    ∙ ap (λ (b : Bool). cond (b && has_seconds seconds (stretch f range t)) (stretch f range t ∷ picked f range seconds (seconds_from (t +ℤ pos 1) n)) (picked f range seconds (seconds_from (t +ℤ pos 1) n)))
    (begins-same f g range t from (omega (arith, ints, within)) same)
    ∙ ap (λ (time : Range). cond (begins g range t && has_seconds seconds time) (time ∷ picked f range seconds (seconds_from (t +ℤ pos 1) n)) (picked f range seconds (seconds_from (t +ℤ pos 1) n)))
    (stretch-same f g range t (λ u later before. same u (omega (arith, ints, from, later)) before))
    ∙ ap (λ (rest : List Range). cond (begins g range t && has_seconds seconds (stretch g range t)) (stretch g range t ∷ rest) rest)
    (picked-same f g range seconds n (t +ℤ pos 1) (omega (arith, ints, from)) (omega (arith, ints, within)) same)
    ∙ sym (picked_more g range seconds t (seconds_from (t +ℤ pos 1) n))

pub free_times-same : (f g : ℤ → Bool) (range : Range) (seconds : ℕ) → SaySame f g range.start.0 range.end.0 → free_times f range seconds ≡ free_times g range seconds
free_times-same f g range seconds same = by_lt_z range.start.0 range.end.0
    (λ less. let is = seconds-is range.start.0 range.end.0 (omega (arith, ints, less)) in
    picked-same f g range seconds (seconds_between range.start.0 range.end.0) range.start.0 (omega (arith, ints)) (omega (arith, ints, is)) same)
    (λ past. let none = seconds-none range.start.0 range.end.0 past in
    ap (λ (n : ℕ). picked f range seconds (seconds_from range.start.0 n)) none ∙ sym (ap (λ (n : ℕ). picked g range seconds (seconds_from range.start.0 n)) none))

-- Where they lie.

abbrev pub LiesIn : Range → Range → Type 0
LiesIn range time = (range.start.0 ≤ℤ time.start.0) × (time.start.0 ≤ℤ time.end.0) × (time.end.0 ≤ℤ range.end.0)

stretch_within : (free : ℤ → Bool) (range : Range) (t : ℤ) → range.start.0 ≤ℤ t → t ≤ℤ range.end.0 → LiesIn range (stretch free range t)
stretch_within free range t from before =
    let few = count_bound free t (seconds_between t range.end.0) in
    let left = seconds-is t range.end.0 before in
    (from, omega (arith, ints), omega (arith, ints, few, left))

either_within : (range : Range) (picks : Bool) (time : Range) (rest : List Range) → LiesIn range time → All (LiesIn range) rest → All (LiesIn range) (cond picks (time ∷ rest) rest)
either_within range true time rest here others = All-cons (LiesIn range) time rest here others
either_within range false time rest here others = others

picked_within : (free : ℤ → Bool) (range : Range) (seconds n : ℕ) (t : ℤ) → range.start.0 ≤ℤ t → (t +ℤ pos n) ≤ℤ range.end.0 → All (LiesIn range) (picked free range seconds (seconds_from t n))
picked_within free range seconds zero t from within = All-nil (LiesIn range)
picked_within free range seconds (suc n) t from within =
    subst (All (LiesIn range)) (sym (picked_more free range seconds t (seconds_from (t +ℤ pos 1) n)))
    (either_within range (begins free range t && has_seconds seconds (stretch free range t)) (stretch free range t) (picked free range seconds (seconds_from (t +ℤ pos 1) n))
    (stretch_within free range t from (omega (arith, ints, within)))
    (picked_within free range seconds n (t +ℤ pos 1) (omega (arith, ints, from)) (omega (arith, ints, within))))

pub free_times_within : (free : ℤ → Bool) (range : Range) (seconds : ℕ) → All (LiesIn range) (free_times free range seconds)
free_times_within free range seconds = by_lt_z range.start.0 range.end.0
    (λ less. let is = seconds-is range.start.0 range.end.0 (omega (arith, ints, less)) in
    picked_within free range seconds (seconds_between range.start.0 range.end.0) range.start.0 (omega (arith, ints)) (omega (arith, ints, is)))
    (λ past. subst (λ (n : ℕ). All (LiesIn range) (picked free range seconds (seconds_from range.start.0 n))) (sym (seconds-none range.start.0 range.end.0 past)) (All-nil (LiesIn range)))
