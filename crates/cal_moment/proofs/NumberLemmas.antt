-- Where the digits of a number in a range stop.
use Rattle.std.proofs.Common.{◌≡◌, ℕ, suc, ◌+◌, ◌-◌, ◌*◌, ◌/◌, ◌%◌, ◌^◌, ◌<◌, ◌≤◌, List, [], ◌∷◌, ◌++◌, refl, sym, ap, ◌∙◌, arith, ◌⊎◌, inl, inr}
use Rattle.std.proofs.lemmas.List.{append-nil}
use Rattle.std.proofs.Math.Nat.{pow-suc, mul-le-mul_right}
use Rattle.cal_moment.specs.Texts.{digits}
use Rattle.cal_moment.specs.Stops.{GoOnAlike, Stops, Opens, IsNumber, BeginsWithNoDigit}
use Rattle.cal_moment.proofs.DigitLemmas.{digits_more, number_parts, tail_below, digit_below}
use Rattle.cal_moment.proofs.StopsLemmas.{stops_here, stops_after, stops_in, stops_same}

no_digit : (d : ℕ) (rest text : List ℕ) → d < 10 → BeginsWithNoDigit text → ¬ GoOnAlike ((48 + d) ∷ rest) text
no_digit d rest [] h none alike = alike
no_digit d rest (c ∷ text) h none alike =
    elim none [ inl under ↦ omega (arith, alike, under) | inr above ↦ omega (arith, alike, above, h) ]

-- no first digit of the range goes on as the text does
pub number_stops : (count low high : ℕ) (text : List ℕ) → low ≤ high → low < 10 ^ suc count → ((n : ℕ) (rest : List ℕ) → low ≤ n → n ≤ high → n < 10 ^ suc count → ¬ GoOnAlike ((48 + n / 10 ^ count) ∷ rest) text) → Stops (Opens (IsNumber (suc count) low high)) text text
number_stops count low high text some fits apart =
    stops_here (Opens (IsNumber (suc count) low high)) text (digits (suc count) low)
    (digits (suc count) low, [], (low, omega arith, some, fits, refl), sym (append-nil _))
    (λ next opens. let n = opens.2.0 in
    let is : next ≡ (48 + n / 10 ^ count) ∷ (digits count (n % 10 ^ count) ++ opens.1) = opens.3 ∙ ap (λ t. t ++ opens.1) opens.2.4 in
    rw is (apart n (digits count (n % 10 ^ count) ++ opens.1) opens.2.1 opens.2.2 opens.2.3))

-- behind a first digit the range is the rest of it
pub number_more : (count low high d : ℕ) (text left : List ℕ) → d ≤ 9 → d * 10 ^ count ≤ high → Stops (Opens (IsNumber count (low - d * 10 ^ count) (high - d * 10 ^ count))) text left → Stops (Opens (IsNumber (suc count) low high)) ((48 + d) ∷ text) left
number_more count low high d text left digit begun s =
    stops_after (Opens (IsNumber (suc count) low high)) ((48 + d) ∷ []) text left
    (stops_same _ _ text left
    (λ t opens. let n = opens.2.0 in let unit = 10 ^ count in (
      (48 + d) ∷ opens.0,
      opens.1,
      (d * unit + n, omega (arith, opens.2.1), omega (arith, opens.2.2, begun), omega (arith, opens.2.3, pow-suc 10 count, mul-le-mul_right unit digit), ap (λ s. (48 + d) ∷ s) opens.2.4 ∙ sym (digits_more count d n opens.2.3)),
      ap (λ s. (48 + d) ∷ s) opens.3,
    ))
    (λ t opens. let n = opens.2.0 in let unit = 10 ^ count in
    let is : (48 + d) ∷ t ≡ (48 + n / unit) ∷ (digits count (n % unit) ++ opens.1) = opens.3 ∙ ap (λ t. t ++ opens.1) opens.2.4 in
    let first : 48 + d ≡ 48 + n / unit = cc in
    let quotient : n / unit ≡ d = omega (arith, first) in
    let parts = rw quotient at (number_parts count n) in (
      digits count (n % unit),
      opens.1,
      (n % unit, omega (arith, opens.2.1, parts), omega (arith, opens.2.2, parts), tail_below count n, refl),
      cc,
    ))
    s)

-- the same by the width, which has a digit
module _ (width count : ℕ) (one_more : width ≡ suc count) where
  -- a text that begins with no digit
  pub number_stops_no_digit : (low high : ℕ) (text : List ℕ) → low ≤ high → low < 10 ^ width → BeginsWithNoDigit text → Stops (Opens (IsNumber width low high)) text text
  number_stops_no_digit low high text some fits none =
      rw one_more (number_stops count low high text some (rw one_more at fits) (λ n rest _ _ below. no_digit (n / 10 ^ count) rest text (digit_below count n below) none))

  -- a first digit with which no number of the range begins
  pub number_stops_digit : (low high d : ℕ) (rest : List ℕ) → low ≤ high → low < 10 ^ width → (high < d * 10 ^ count) ⊎ (d * 10 ^ count + 10 ^ count ≤ low) → Stops (Opens (IsNumber width low high)) ((48 + d) ∷ rest) ((48 + d) ∷ rest)
  number_stops_digit low high d rest some fits out =
      rw one_more (number_stops count low high ((48 + d) ∷ rest) some (rw one_more at fits)
      (λ n more from until below same.
      let quotient : n / 10 ^ count ≡ d = omega (arith, same) in
      let parts = rw quotient at (number_parts count n) in
      let tail = tail_below count n in
      elim out [ inl above ↦ omega (arith, above, parts, until) | inr under ↦ omega (arith, under, parts, from, tail) ]))

  -- a first digit, and the number behind it
  pub number_read : (low high d n : ℕ) (text rest : List ℕ) → d ≤ 9 → d * 10 ^ count ≤ high → low - d * 10 ^ count ≤ n → n ≤ high - d * 10 ^ count → n < 10 ^ count → text ≡ digits count n ++ rest → (low ≤ d * 10 ^ count + n) × (d * 10 ^ count + n ≤ high) × (d * 10 ^ count + n < 10 ^ width) × ((48 + d) ∷ text ≡ digits width (d * 10 ^ count + n) ++ rest)
  number_read low high d n text rest digit begun from until below e =
      rw one_more (omega (arith, from), omega (arith, until, begun), omega (arith, below, pow-suc 10 count, mul-le-mul_right (10 ^ count) digit), ap (λ s. (48 + d) ∷ s) e ∙ ap (λ s. s ++ rest) (sym (digits_more count d n below)))

  -- a first digit, and the place behind it where the number stops
  pub number_stops_more : (low high d : ℕ) (text left : List ℕ) → d ≤ 9 → d * 10 ^ count ≤ high → Stops (Opens (IsNumber count (low - d * 10 ^ count) (high - d * 10 ^ count))) text left → Stops (Opens (IsNumber width low high)) ((48 + d) ∷ text) left
  number_stops_more low high d text left digit begun s = rw one_more (number_more count low high d text left digit begun s)

-- a text that begins with a number of the range
pub record BeginsWithNumber (width low high : ℕ) (text : List ℕ) : Type 0 where
  pub n : ℕ
  pub rest : List ℕ
  pub from : low ≤ n
  pub until : n ≤ high
  pub fits : n < 10 ^ width
  pub split : text ≡ digits width n ++ rest

-- where the number stops that each text of a set begins with, the set stops
pub stops_number : (width low high : ℕ) (Texts : List ℕ → Type 0) (text left : List ℕ) → ((n : ℕ) → low ≤ n → n ≤ high → n < 10 ^ width → (rest : List ℕ) × Texts (digits width n ++ rest)) → ((t : List ℕ) → Texts t → BeginsWithNumber width low high t) → Stops (Opens (IsNumber width low high)) text left → Stops Texts text left
stops_number width low high Texts text left complete only s =
    stops_in (IsNumber width low high) Texts text left
    (λ t number. let more = complete number.0 number.1 number.2 number.3 in (more.0, rw number.4 more.1))
    (λ t whole. let b = only t whole in inl (digits width b.n, b.rest, (b.n, b.from, b.until, b.fits, refl), b.split))
    s
