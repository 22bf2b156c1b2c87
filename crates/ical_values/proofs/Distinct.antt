-- How many numbers of a list differ, one after another, and when the times of day are few.
use Rattle.std.proofs.Common.{◌≡◌, ℕ, zero, suc, ◌+◌, ◌*◌, ◌<◌, ◌≤◌, min, Bool, true, false, ◌||◌, ◌==◌, nat_le, if◌then◌else◌, List, [], ◌∷◌, ◌++◌, length, take, get_or, replicate, slice_index_or, refl, sym, ap, ◌∙◌, arith, inl, inr}
use Rattle.std.specs.List.{list_any}
use Rattle.std.proofs.Math.Nat.{le-mul_of_pos_right, mul_comm}
use Rattle.std.proofs.Math.Seq.{take-suc}
use Rattle.std.proofs.lemmas.List.{get_or-replicate, get_or_past}
use Rattle.std.proofs.lemmas.Bool.{cases_Bool, cases_lt, eqb-true, eq-eqb, eqb-false, leb-true}
use Rattle.cal_model.specs.Values.RuleTexts.{distinct}

abbrev is_in : List ℕ → ℕ → Bool
is_in ns n = list_any (λ one. one == n) ns

or_none : (b : Bool) → (b || false) ≡ b
or_none true = refl
or_none false = refl

or_three : (a b c : Bool) → (a || (b || c)) ≡ ((a || b) || c)
or_three true b c = refl
or_three false b c = refl

pub in_last : (ns : List ℕ) (last n : ℕ) → is_in (ns ++ last ∷ []) n ≡ (is_in ns n || (last == n))
in_last [] last n = or_none (last == n)
in_last (first ∷ ns) last n = ap (λ b. (first == n) || b) (in_last ns last n) ∙ or_three (first == n) (is_in ns n) (last == n)

same_way : (a b : ℕ) → (a == b) ≡ (b == a)
same_way a b =
    elim (cases_Bool (a == b)) [
      | inl same ↦ same ∙ sym (eq-eqb b a (sym (eqb-true a b same)))
      | inr other ↦ elim (cases_Bool (b == a)) [
        | inl same ↦ absurd (eqb-false a b other (sym (eqb-true b a same)))
        | inr differs ↦ other ∙ sym differs
      ]
    ]

-- one more number
pub distinct_last : (ns : List ℕ) (last : ℕ) → distinct (ns ++ last ∷ []) ≡ (if is_in ns last then distinct ns else distinct ns + 1)
distinct_last [] last = refl
distinct_last (first ∷ ns) last =
    let by_last = λ (b : Bool) (d : ℕ). if b then d else d + 1 in
    let more = distinct_last ns last in
    let first_in = in_last ns last first in
    elim (cases_Bool (first == last)) [
      | inl same ↦ (let is : first ≡ last = eqb-true first last same in
          let there : is_in (ns ++ last ∷ []) first ≡ true = first_in ∙ (ap (λ b. is_in ns first || b) (same_way last first ∙ same) ∙ or_true (is_in ns first)) in
          ap (λ b. by_last b (distinct (ns ++ last ∷ []))) there
          ∙ (more ∙ (ap (λ n. by_last (is_in ns n) (distinct ns)) (sym is) ∙ sym (ap (λ b. by_last (b || is_in ns last) (distinct (first ∷ ns))) same))))
      | inr other ↦ (let there : is_in (ns ++ last ∷ []) first ≡ is_in ns first = first_in ∙ (ap (λ b. is_in ns first || b) (same_way last first ∙ other) ∙ or_none (is_in ns first)) in
          ap (λ b. by_last b (distinct (ns ++ last ∷ []))) there
          ∙ (ap (by_last (is_in ns first)) more
          ∙ (both (is_in ns first) (is_in ns last) (distinct ns) ∙ sym (ap (λ b. by_last (b || is_in ns last) (distinct (first ∷ ns))) other))))
    ]
  where
    or_true : (b : Bool) → (b || true) ≡ true
    or_true true = refl
    or_true false = refl

    both : (a b : Bool) (d : ℕ) → (if a then (if b then d else d + 1) else (if b then d else d + 1) + 1) ≡ (if b then (if a then d else d + 1) else (if a then d else d + 1) + 1)
    both true true d = refl
    both true false d = refl
    both false true d = refl
    both false false d = refl

-- Products of numbers that are at least 1

many : (n : ℕ) → 25 ≤ n → nat_le n 24 ≡ false
many n above =
    elim (cases_Bool (nat_le n 24)) [
      | inl few ↦ absurd (omega (arith, leb-true n 24 few, above))
      | inr not ↦ not
    ]

first_many : (a b c : ℕ) → 25 ≤ a → 1 ≤ b → 1 ≤ c → 25 ≤ a * b * c
first_many a b c x y z = omega (arith, x, le-mul_of_pos_right {m = b} a (omega (arith, y)), le-mul_of_pos_right {m = c} (a * b) (omega (arith, z)))

second_many : (a b c : ℕ) → 1 ≤ a → 25 ≤ b → 1 ≤ c → 25 ≤ a * b * c
second_many a b c x y z = omega (arith, y, le-mul_of_pos_right {m = a} b (omega (arith, x)), mul_comm b a, le-mul_of_pos_right {m = c} (a * b) (omega (arith, z)))

third_many : (a b c : ℕ) → 1 ≤ a → 1 ≤ b → 25 ≤ c → 25 ≤ a * b * c
third_many a b c x y z =
    let some : 1 ≤ a * b = omega (arith, x, le-mul_of_pos_right {m = b} a (omega (arith, y))) in
    omega (arith, z, le-mul_of_pos_right {m = a * b} c (omega (arith, some)), mul_comm c (a * b))

-- They are compared with 24 as those of the same numbers, each at most 25, are.
pub few_times : (a b c : ℕ) → 1 ≤ a → 1 ≤ b → 1 ≤ c → nat_le (min 25 a * min 25 b * min 25 c) 24 ≡ nat_le (a * b * c) 24
few_times a b c x y z =
    let p : 1 ≤ min 25 a = omega (arith, x) in
    let q : 1 ≤ min 25 b = omega (arith, y) in
    let r : 1 ≤ min 25 c = omega (arith, z) in
    let capped = min 25 a * min 25 b * min 25 c in
    elim (cases_lt 24 a) [
      | inl above ↦ (let least : 25 ≤ min 25 a = omega (arith, above) in many capped (first_many (min 25 a) (min 25 b) (min 25 c) least q r) ∙ sym (many (a * b * c) (first_many a b c (omega (arith, above)) y z)))
      | inr first ↦ elim (cases_lt 24 b) [
        | inl above ↦ (let least : 25 ≤ min 25 b = omega (arith, above) in many capped (second_many (min 25 a) (min 25 b) (min 25 c) p least r) ∙ sym (many (a * b * c) (second_many a b c x (omega (arith, above)) z)))
        | inr second ↦ elim (cases_lt 24 c) [
          | inl above ↦ (let least : 25 ≤ min 25 c = omega (arith, above) in many capped (third_many (min 25 a) (min 25 b) (min 25 c) p q least) ∙ sym (many (a * b * c) (third_many a b c x y (omega (arith, above)))))
          | inr third ↦ (let ea : min 25 a ≡ a = omega (arith, first) in
              let eb : min 25 b ≡ b = omega (arith, second) in
              let ec : min 25 c ≡ c = omega (arith, third) in
              λ i. nat_le (ea i * eb i * ec i) 24)
        ]
      ]
    ]

-- Numbers that are marked one after another

pub none_marked : (other : ℕ) → slice_index_or (replicate 256 false) other false ≡ false
none_marked other =
    elim (cases_lt other 256) [
      | inl below ↦ get_or-replicate 256 other false false below
      | inr above ↦ get_or_past (replicate 256 false) other false (omega (arith, above, length-replicate 256))
    ]
  where
    length-replicate : (room : ℕ) → length (replicate {A = Bool} room false) ≡ room
    length-replicate zero = refl
    length-replicate (suc room) = ap suc (length-replicate room)

module _ (ns : List ℕ) (i d : ℕ) (inside : i < length ns) (old new : List Bool)
    (marked : (other : ℕ) → slice_index_or old other false ≡ list_any (λ one. one == other) (take i ns))
    (marks : (other : ℕ) → slice_index_or new other false ≡ ((get_or ns i d == other) || slice_index_or old other false)) where
  one_more : take (i + 1) ns ≡ take i ns ++ get_or ns i d ∷ []
  one_more = let next : i + 1 ≡ suc i = omega arith in ap (λ n. take n ns) next ∙ take-suc ns i d inside

  pub marked_more : (other : ℕ) → slice_index_or new other false ≡ list_any (λ one. one == other) (take (i + 1) ns)
  marked_more other =
      marks other
      ∙ (ap (λ b. (get_or ns i d == other) || b) (marked other)
      ∙ (or_other (get_or ns i d == other) (is_in (take i ns) other)
      ∙ sym (ap (λ t. is_in t other) one_more ∙ in_last (take i ns) (get_or ns i d) other)))
    where
      or_other : (a b : Bool) → (a || b) ≡ (b || a)
      or_other true true = refl
      or_other true false = refl
      or_other false true = refl
      or_other false false = refl

  pub counted_more : (count add : ℕ) → count ≡ distinct (take i ns) → add ≡ (if slice_index_or old (get_or ns i d) false then 0 else 1) → count + add ≡ distinct (take (i + 1) ns)
  counted_more count add so_far is =
      by_test (is_in (take i ns) (get_or ns i d)) (is ∙ ap (λ b. if b then 0 else 1) (marked (get_or ns i d)))
      ∙ sym (ap distinct one_more ∙ distinct_last (take i ns) (get_or ns i d))
    where
      by_test : (b : Bool) → add ≡ (if b then 0 else 1) → count + add ≡ (if b then distinct (take i ns) else distinct (take i ns) + 1)
      by_test true none = omega (arith, so_far, none)
      by_test false one = omega (arith, so_far, one)

pub at_most_one : (b : Bool) (add : ℕ) → add ≡ (if b then 0 else 1) → add ≤ 1
at_most_one true add is = omega (arith, is)
at_most_one false add is = omega (arith, is)
