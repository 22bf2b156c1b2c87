-- How many numbers in a row pass a test, part by part.
use Rattle.std.proofs.Common.{◌≡◌, ◌⊎◌, ℕ, zero, suc, ◌+◌, ◌-◌, ◌*◌, ◌<◌, ◌≤◌, List, [], ◌∷◌, length, refl, sym, ap, ◌∙◌, arith, Bool, true, false, inl, inr}
use Rattle.std.specs.Prelude.{count_by, cond, if◌then◌else◌}
use Rattle.std.proofs.lemmas.Bool.{cases_Bool}
use Rattle.std.proofs.lemmas.Nat.{mul-le}
use Rattle.std.proofs.lemmas.List.Sums.{sum_by-append, length-filter, count_by-le-length}
use Rattle.cal_model.specs.Words.Lists.{counted_from, numbers_between}
use Rattle.cal_model.proofs.Words.CountedLemmas.{numbers_between-cut, filter-none}
use Rattle.cal_model.proofs.Recurrence.Periods.{count_one, count_zero}

-- how many from one number up to another pass
abbrev pub count_in : (ℕ → Bool) → ℕ → ℕ → ℕ
count_in p a b = count_by p (numbers_between a b)

pub count_in-cut : (p : ℕ → Bool) (a b c : ℕ) → a ≤ b → b ≤ c → count_in p a c ≡ count_in p a b + count_in p b c
count_in-cut p a b c low high = ap (count_by p) (numbers_between-cut a b c low high) ∙ sum_by-append (λ x. cond (p x) 1 0) (numbers_between a b) (numbers_between b c)

pub count_in-none : (p : ℕ → Bool) (a b : ℕ) → ((m : ℕ) → a ≤ m → m < b → p m ≡ false) → count_in p a b ≡ 0
count_in-none p a b h = sym (length-filter p (numbers_between a b)) ∙ ap length (filter-none p a b h)

-- where all that pass lie in a stretch, no more pass elsewhere
pub count_in-within : (p : ℕ → Bool) (low high a b : ℕ) → low ≤ high → a ≤ b → ((m : ℕ) → p m ≡ true → (low ≤ m) × (m < high)) → count_in p a b ≤ count_in p low high
count_in-within p low high a b rises le h =
    let end = b + high in
    let first = count_in-cut p 0 a (b + high) (omega arith) (omega (arith, le)) in
    let second = count_in-cut p a b (b + high) le (omega arith) in
    let third = count_in-cut p 0 low (b + high) (omega arith) (omega (arith, rises)) in
    let fourth = count_in-cut p low high (b + high) rises (omega arith) in
    let before = count_in-none p 0 low (λ m from to. elim (cases_Bool (p m)) [ inl w ↦ absurd (let within = h m w in omega (arith, within, to)) | inr w ↦ w ]) in
    let after = count_in-none p high (b + high) (λ m from to. elim (cases_Bool (p m)) [ inl w ↦ absurd (let within = h m w in omega (arith, within, from)) | inr w ↦ w ]) in
    omega (arith, first, second, third, fourth, before, after)

counted_from-length : (first n : ℕ) → length (counted_from first n) ≡ n
unfolding counted_from
counted_from-length first zero = refl
counted_from-length first (suc n) = let rest = counted_from-length (first + 1) n in rw rest refl

pub count_in-all : (p : ℕ → Bool) (a b : ℕ) → count_in p a b ≤ b - a
count_in-all p a b = let most = count_by-le-length p (numbers_between a b) in let size = counted_from-length a (b - a) in omega (arith, most, size)

-- one number more
pub count_in-next : (p : ℕ → Bool) (a b : ℕ) → a ≤ b → count_in p a (b + 1) ≡ count_in p a b + (if p b then 1 else 0)
unfolding counted_from
count_in-next p a b le =
    let cut = count_in-cut p a b (b + 1) le (omega arith) in
    let size : b + 1 - b ≡ suc 0 = omega arith in
    let last : count_in p b (b + 1) ≡ (if p b then 1 else 0) = rw size (elim (cases_Bool (p b)) [ inl w ↦ rw w refl | inr w ↦ rw w refl ]) in
    omega (arith, cut, last)

-- one number alone passes once at most
pub count_in-one : (p : ℕ → Bool) (n a b : ℕ) → a ≤ b → ((m : ℕ) → p m ≡ true → m ≡ n) → count_in p a b ≤ 1
count_in-one p n a b le h =
    let within = count_in-within p n (n + 1) a b (omega arith) le (λ m w. let is = h m w in (omega (arith, is), omega (arith, is))) in
    let most = count_in-all p n (n + 1) in
    omega (arith, within, most)

-- as many in a row from another number on
count_moved : (p q : ℕ → Bool) (a b n : ℕ) → ((i : ℕ) → i < n → p (a + i) ≡ true → q (b + i) ≡ true) → count_by p (counted_from a n) ≤ count_by q (counted_from b n)
unfolding counted_from
count_moved p q a b zero h = omega arith
count_moved p q a b (suc n) h =
    let here_a : a + 0 ≡ a = omega arith in
    let here_b : b + 0 ≡ b = omega arith in
    let here : p a ≡ true → q b ≡ true = rw (here_a, here_b) at (h 0 (omega arith)) in
    let rest = count_moved p q (a + 1) (b + 1) n
    (λ i lt w. let at_a : a + suc i ≡ a + 1 + i = omega arith in let at_b : b + suc i ≡ b + 1 + i = omega arith in (rw (at_a, at_b) at (h (suc i) (omega (arith, lt)))) w) in
    elim (cases_Bool (p a)) [
      | inl w ↦ (let x = count_one p a (counted_from (a + 1) n) w in let y = count_one q b (counted_from (b + 1) n) (here w) in omega (arith, rest, x, y))
      | inr w ↦ (let x = count_zero p a (counted_from (a + 1) n) w in elim (cases_Bool (q b)) [
        | inl v ↦ (let y = count_one q b (counted_from (b + 1) n) v in omega (arith, rest, x, y))
        | inr v ↦ (let y = count_zero q b (counted_from (b + 1) n) v in omega (arith, rest, x, y))
      ])
    ]

-- one stretch beside another of the same length
pub count_in-moved : (p q : ℕ → Bool) (a b n last end : ℕ) → last ≡ a + n → end ≡ b + n → ((i : ℕ) → i < n → p (a + i) ≡ true → q (b + i) ≡ true) → count_in p a last ≤ count_in q b end
count_in-moved p q a b n last end is_a is_b h =
    let size_a : last - a ≡ n = omega (arith, is_a) in
    let size_b : end - b ≡ n = omega (arith, is_b) in
    rw (size_a, size_b) (count_moved p q a b n h)

-- a stretch as it lies from 0 on
pub count_in-shifted : (p q : ℕ → Bool) (off n end : ℕ) → end ≡ off + n → ((i : ℕ) → i < n → p (off + i) ≡ true → q i ≡ true) → count_in p off end ≤ count_in q 0 n
count_in-shifted p q off n end is h = count_in-moved p q off 0 n end n is (omega arith) (λ i lt w. let at : 0 + i ≡ i = omega arith in rw at (h i lt w))

-- what passes one test passes one of two
pub count_in-either : (p q r : ℕ → Bool) (a b : ℕ) → ((m : ℕ) → p m ≡ true → (q m ≡ true) ⊎ (r m ≡ true)) → count_in p a b ≤ count_in q a b + count_in r a b
count_in-either p q r a b h = either (numbers_between a b)
  where
    either : (xs : List ℕ) → count_by p xs ≤ count_by q xs + count_by r xs
    either [] = omega arith
    either (x ∷ xs) =
        let rest = either xs in
        let more_q : count_by q xs ≤ count_by q (x ∷ xs) = elim (cases_Bool (q x)) [ inl w ↦ (let is = count_one q x xs w in omega (arith, is)) | inr w ↦ (let is = count_zero q x xs w in omega (arith, is)) ] in
        let more_r : count_by r xs ≤ count_by r (x ∷ xs) = elim (cases_Bool (r x)) [ inl w ↦ (let is = count_one r x xs w in omega (arith, is)) | inr w ↦ (let is = count_zero r x xs w in omega (arith, is)) ] in
        elim (cases_Bool (p x)) [
          | inl w ↦ (let is = count_one p x xs w in
              elim (h x w) [
                | inl v ↦ (let one = count_one q x xs v in omega (arith, rest, is, one, more_r))
                | inr v ↦ (let one = count_one r x xs v in omega (arith, rest, is, one, more_q))
              ])
          | inr w ↦ (let is = count_zero p x xs w in omega (arith, rest, is, more_q, more_r))
        ]

-- Blocks of one length each, of which a test lets some have passing numbers.
module _ (p has : ℕ → Bool) (begin block_of : ℕ → ℕ) (most : ℕ)
    (rises : (d : ℕ) → begin d ≤ begin (d + 1))
    (lies : (d m : ℕ) → begin d ≤ m → m < begin (d + 1) → block_of m ≡ d)
    (few : (d : ℕ) → count_in p (begin d) (begin (d + 1)) ≤ most)
    (named : (m : ℕ) → p m ≡ true → has (block_of m) ≡ true) where
  pub blocks_rise : (n d : ℕ) → begin d ≤ begin (d + n)
  blocks_rise zero d = let at : d + 0 ≡ d = omega arith in rw at (omega arith)
  blocks_rise (suc n) d =
      let at : d + suc n ≡ d + n + 1 = omega arith in
      let rest = blocks_rise n d in let last = rises (d + n) in
      rw at (omega (arith, rest, last))

  in_block : (d : ℕ) → count_in p (begin d) (begin (d + 1)) ≤ (if has d then most else 0)
  in_block d = elim (cases_Bool (has d)) [
    | inl w ↦ rw w (few d)
    | inr w ↦ (let none = count_in-none p (begin d) (begin (d + 1)) (λ m low high. elim (cases_Bool (p m)) [
      | inl v ↦ (let is = lies d m low high in let some = named m v in let there = rw is at some in let bad : true ≡ false = sym there ∙ w in absurd cc)
      | inr v ↦ v
    ]) in rw w (omega (arith, none)))
  ]

  pub count_in-blocks : (n d : ℕ) → count_in p (begin d) (begin (d + n)) ≤ count_in has d (d + n) * most
  count_in-blocks zero d = let at : d + 0 ≡ d = omega arith in rw at (let none = count_in-all p (begin d) (begin d) in omega (arith, none))
  count_in-blocks (suc n) d =
      let at : d + suc n ≡ d + n + 1 = omega arith in
      let rest = count_in-blocks n d in
      let cut = count_in-cut p (begin d) (begin (d + n)) (begin (d + n + 1)) (blocks_rise n d) (rises (d + n)) in
      let last = in_block (d + n) in
      rw (at, count_in-next has d (d + n) (omega arith)) (elim (cases_Bool (has (d + n))) [
        | inl w ↦ (let one = rw w at last in rw w (omega (arith, rest, cut, one)))
        | inr w ↦ (let one = rw w at last in rw w (omega (arith, rest, cut, one)))
      ])

  pub count_in-blocks_at_most : (n d some : ℕ) → count_in has d (d + n) ≤ some → count_in p (begin d) (begin (d + n)) ≤ some * most
  count_in-blocks_at_most n d some le =
      let all = count_in-blocks n d in
      let more = mul-le (count_in has d (d + n)) most some most le (omega arith) in
      omega (arith, all, more)
