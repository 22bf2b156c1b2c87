-- The ordinals of BYDAY as the bits of words.
use Rattle.std.proofs.Common.{◌≡◌, ℕ, ◌+◌, ◌-◌, ◌*◌, ◌/◌, ◌%◌, ◌^◌, ◌<◌, ◌≤◌, refl, sym, ap, ◌∙◌, arith, Bool, true, false, ◌||◌, inl, inr, w64, ◌==◌, List, [], ◌∷◌, length, replicate, slice_index, zero, suc, ℤ, pos, negsuc}
use Rattle.std.specs.Prelude.{if◌then◌else◌, bit_or, slice_set}
use Rattle.std.specs.Int.{bit_at}
use Rattle.std.specs.List.{list_any}
use Rattle.std.proofs.lemmas.Bool.{cases_Bool, cases_lt, eqb-true, eqb-false, eq-eqb}
use Rattle.std.proofs.lemmas.List.{get_or-replicate, get_or_past, get_or-set_same, get_or-set_other}
use Rattle.std.proofs.lemmas.Nat.Bits.{bit_at-zero, bit_at_set_same, bit_at_set_other}
use Rattle.cal_model.specs.declared.rule.DayPart.{DayPart}
use Rattle.cal_model.specs.Recurrence.Passing.{ordinal_passes, weekday_passes}
use Rattle.rrule_step.specs.declared.ordinals.Ordinals.{Ordinals}
use Rattle.rrule_step.specs.Ordinals.{AreOrdinals, asks_for, asks_of, at_back, at_front, is_back, is_front, marks}

-- Words.

is_one : (n : ℕ) → n ≡ 1 → (n == 1) ≡ true
is_one n e = rw e refl

-- no bit is marked in words that are 0
pub marks-none : (k i : ℕ) → marks (replicate 7 0) k i ≡ false
unfolding marks
marks-none k i = ap (λ word. bit_at word i == 1) (zeros k) ∙ ap (λ bit. bit == 1) (bit_at-zero i)
  where
    length-replicate : (room : ℕ) → length (replicate {A = ℕ} room 0) ≡ room
    length-replicate zero = refl
    length-replicate (suc room) = ap suc (length-replicate room)

    zeros : (k : ℕ) → slice_index (replicate 7 0) k ≡ 0
    zeros k = elim (cases_lt k 7) [
      | inl below ↦ get_or-replicate 7 k 0 0 below
      | inr above ↦ get_or_past (replicate 7 0) k 0 (omega (arith, above, length-replicate 7))
    ]

-- one bit more of one word
pub marks-set : (words : List ℕ) (w n k i : ℕ) → w < length words → n < 64 → i < 64 →
    marks (slice_set words w (bit_or (slice_index words w) (1 * 2 ^ n % 18446744073709551616))) k i ≡ (if (if w == k then n == i else false) then true else marks words k i)
unfolding marks
marks-set words w n k i within small below = elim (cases_Bool (w == k)) [
  | inl there ↦
      (let same = eqb-true w k there in
      let word : slice_index (slice_set words w (bit_or (slice_index words w) (1 * 2 ^ n % 18446744073709551616))) k ≡ bit_or (slice_index words w) (1 * 2 ^ n % 18446744073709551616) =
      ap (λ p. slice_index (slice_set words w (bit_or (slice_index words w) (1 * 2 ^ n % 18446744073709551616))) p) (sym same) ∙ get_or-set_same words w (bit_or (slice_index words w) (1 * 2 ^ n % 18446744073709551616)) 0 within in
      rw (there, word) (one_bit (slice_index words w) n i small ∙ ap (λ p. if n == i then true else bit_at (slice_index words p) i == 1) same))
  | inr away ↦ rw away (ap (λ word. bit_at word i == 1) (get_or-set_other words w k (bit_or (slice_index words w) (1 * 2 ^ n % 18446744073709551616)) 0 (λ e. let bad : (w == k) ≡ true = eq-eqb w k (sym e) in absurd cc)))
]
  where
    one_bit : (word n i : ℕ) → n < 64 → (bit_at (bit_or word (1 * 2 ^ n % 18446744073709551616)) i == 1) ≡ (if n == i then true else bit_at word i == 1)
    one_bit word n i small = elim (cases_Bool (n == i)) [
      | inl here ↦ (let same = eqb-true n i here in
          rw here (is_one _ (ap (λ p. bit_at (bit_or word (1 * 2 ^ n % 18446744073709551616)) p) (sym same) ∙ bit_at_set_same w64 word n small)))
      | inr other ↦ rw other (ap (λ bit. bit == 1) (bit_at_set_other w64 word n small i (λ e. let bad : (n == i) ≡ true = eq-eqb n i (sym e) in absurd cc)))
    ]

-- a number that has no place in a word changes none
pub marks-above : (w n k i : ℕ) (b : Bool) → 64 ≤ n → i < 64 → b ≡ (if (if w == k then n == i else false) then true else b)
marks-above w n k i b above below =
    let other : (n == i) ≡ false = elim (cases_Bool (n == i)) [ inl here ↦ (let same = eqb-true n i here in absurd (omega (arith, same, above, below))) | inr v ↦ v ] in
    elim (cases_Bool (w == k)) [ inl there ↦ rw (there, other) refl | inr away ↦ rw away refl ]

-- What ordinals mean.

itself : (b : Bool) → (if b then true else false) ≡ b
itself true = refl
itself false = refl

by_ordinal : (place size : ℕ) (ordinal : ℤ) →
    ordinal_passes place size ordinal ≡ (if is_front 0 ordinal then true else (if is_front ((place + 6) / 7) ordinal then true else is_back ((size - place) / 7) ordinal))
by_ordinal place size (pos n) = ap (λ b. if n == 0 then true else b) (sym (itself (n == (place + 6) / 7)))
by_ordinal place size (negsuc n) = refl

by_part : (weekday place size : ℕ) (part : DayPart) →
    weekday_passes weekday place size part ≡ (if at_front weekday 0 part then true else (if at_front weekday ((place + 6) / 7) part then true else at_back weekday ((size - place) / 7) part))
by_part weekday place size part = elim (cases_Bool (part.weekday == weekday)) [
  | inl there ↦ rw there (by_ordinal place size part.ordinal)
  | inr away ↦ rw away refl
]

mixed : (a b c d e f : Bool) → ((if a then true else (if b then true else c)) || (if d then true else (if e then true else f))) ≡ (if a || d then true else (if b || e then true else c || f))
mixed true b c d e f = refl
mixed false true c true e f = refl
mixed false true c false e f = refl
mixed false false true true e f = refl
mixed false false true false true f = refl
mixed false false true false false f = refl
mixed false false false d e f = refl

by_parts : (weekday place size : ℕ) (parts : List DayPart) →
    list_any (weekday_passes weekday place size) parts
    ≡ (if list_any (at_front weekday 0) parts then true else (if list_any (at_front weekday ((place + 6) / 7)) parts then true else list_any (at_back weekday ((size - place) / 7)) parts))
by_parts weekday place size [] = refl
by_parts weekday place size (part ∷ parts) =
    ap (λ b. b || list_any (weekday_passes weekday place size) parts) (by_part weekday place size part)
    ∙ (ap (λ b. (if at_front weekday 0 part then true else (if at_front weekday ((place + 6) / 7) part then true else at_back weekday ((size - place) / 7) part)) || b) (by_parts weekday place size parts)
    ∙ mixed (at_front weekday 0 part) (at_front weekday ((place + 6) / 7) part) (at_back weekday ((size - place) / 7) part)
    (list_any (at_front weekday 0) parts) (list_any (at_front weekday ((place + 6) / 7)) parts) (list_any (at_back weekday ((size - place) / 7)) parts))

-- the words of the values of BYDAY mean what these do
pub asks_of-parts : (parts : List DayPart) (ordinals : Ordinals) → AreOrdinals parts ordinals → (weekday place size : ℕ) → weekday < 7 → place ≤ 430 → size ≤ 366 →
    asks_of ordinals weekday place size ≡ list_any (weekday_passes weekday place size) parts
asks_of-parts parts ordinals are weekday place size small near few =
    let each = are.front weekday 0 small (omega arith) in
    let front = are.front weekday ((place + 6) / 7) small (omega (arith, near)) in
    let back = are.back weekday ((size - place) / 7) small (omega (arith, few)) in
    ap (λ b. if b then true else (if marks ordinals.front weekday ((place + 6) / 7) then true else marks ordinals.back weekday ((size - place) / 7))) each
    ∙ (ap (λ b. if list_any (at_front weekday 0) parts then true else (if b then true else marks ordinals.back weekday ((size - place) / 7))) front
    ∙ (ap (λ b. if list_any (at_front weekday 0) parts then true else (if list_any (at_front weekday ((place + 6) / 7)) parts then true else b)) back
    ∙ sym (by_parts weekday place size parts)))

-- what sets of these bits mean
pub asks_for-same : (ordinals : Ordinals) (weekday place size : ℕ) (front back : ℕ → Bool) → ((i : ℕ) → front i ≡ marks ordinals.front weekday i) → ((i : ℕ) → back i ≡ marks ordinals.back weekday i) →
    asks_for front back place size ≡ asks_of ordinals weekday place size
asks_for-same ordinals weekday place size front back by_front by_end =
    let a = by_front 0 in let b = by_front ((place + 6) / 7) in let c = by_end ((size - place) / 7) in rw (a, b, c) refl

pub asks_of-none : (ordinals : Ordinals) (weekday place size : ℕ) → ((i : ℕ) → marks ordinals.front weekday i ≡ false) → ((i : ℕ) → marks ordinals.back weekday i ≡ false) → asks_of ordinals weekday place size ≡ false
asks_of-none ordinals weekday place size no_front no_back =
    let a = no_front 0 in let b = no_front ((place + 6) / 7) in let c = no_back ((size - place) / 7) in rw (a, b, c) refl

-- a set where nothing is asked for
pub none_more : (on asks had : Bool) → asks ≡ false → had ≡ (if on then (if asks then true else had) else had)
none_more true asks had none = rw none refl
none_more false asks had none = refl

same_way : (a b : ℕ) → (a == b) ≡ (b == a)
same_way a b =
    elim (cases_Bool (a == b)) [
      | inl same ↦ same ∙ sym (eq-eqb b a (sym (eqb-true a b same)))
      | inr other ↦ elim (cases_Bool (b == a)) [
        | inl same ↦ absurd (eqb-false a b other (sym (eqb-true b a same)))
        | inr differs ↦ other ∙ sym differs
      ]
    ]

nested : (on asks had : Bool) → (if (if on then asks else false) then true else had) ≡ (if on then (if asks then true else had) else had)
nested true asks had = refl
nested false asks had = refl

pub by_weekday : (weekday of_day : ℕ) (asks means had : Bool) → asks ≡ means → (if (if weekday == of_day then asks else false) then true else had) ≡ (if of_day == weekday then (if means then true else had) else had)
by_weekday weekday of_day asks means had same =
    nested (weekday == of_day) asks had
    ∙ (ap (λ on. if on then (if asks then true else had) else had) (same_way weekday of_day)
    ∙ ap (λ b. if of_day == weekday then (if b then true else had) else had) same)
