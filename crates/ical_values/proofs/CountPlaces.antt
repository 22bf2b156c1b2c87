-- Where digits leave the numbers within bounds.
use Rattle.std.proofs.Common.{◌≡◌, ℕ, zero, suc, ◌+◌, ◌-◌, ◌*◌, ◌^◌, ◌<◌, ◌≤◌, Bool, true, false, ◌&&◌, ◌||◌, nat_le, nat_lt, if◌then◌else◌, List, [], ◌∷◌, ◌++◌, length, get_or, take, drop, fold, Some, None, option_and_then, refl, sym, ap, ap₂, subst, ◌∙◌, arith, ◌⊎◌, inl, inr, add-one}
use Rattle.std.proofs.Math.Seq.{take-length}
use Rattle.std.proofs.lemmas.Bool.{cases_lt, le-leb, leb-true, lt-ltb, ltb-true, and_parts, false≢true}
use Rattle.std.proofs.lemmas.List.{length-append, length-take, append-nil, take-append-drop}
use Rattle.std.proofs.lemmas.List.Sums.{fold-append}
use Rattle.std.proofs.lemmas.Option.{none-some, same_Some}
use Rattle.cal_moment.specs.BadPlace.{IsIn, BeginsOne, IsBadAt}
use Rattle.cal_moment.specs.LengthTexts.{SpellsCount}
use Rattle.cal_moment.specs.Texts.{digits}
use Rattle.cal_moment.proofs.CountLemmas.{count_length}
use Rattle.cal_moment.proofs.DigitLemmas.{digits_push, length-digits}
use Rattle.cal_model.specs.Values.BadValues.{Reads}
use Rattle.cal_model.specs.Values.ValueTexts.{count_of}
use Rattle.cal_model.proofs.Values.BadValueLaws.{bad_by_next}
use Rattle.cal_model.proofs.Values.CutLemmas.{and_then_some, if_some, count_of-SpellsCount, SpellsCount-count_of, fold-digits}
use Rattle.ical_values.specs.LineTexts.{IsDigitOctet}
use Rattle.ical_values.specs.RuleNumbers.{if_within, count_within}
use Rattle.ical_values.proofs.Counts.{no_count_at, next_digit, more_digits}

-- A front that goes on where one more octet does not is the place.
pub bad_before : {V : Type 0} (Spells : List ℕ → V → Type 0) (text : List ℕ) (place : ℕ) → place < length text → BeginsOne Spells (take place text) → ¬ BeginsOne Spells (take (place + 1) text) → IsBadAt Spells text place
bad_before {V} Spells text place within begins next =
    bad_by_next Spells text place (λ is. next (drop (place + 1) text, (is.0, subst (λ (t : List ℕ). Spells t is.0) (sym (take-append-drop (place + 1) text)) is.1))) (omega (arith, within)) begins (λ _. next)

-- A text that goes on but is not whole is bad at its end.
pub bad_at_end : {V : Type 0} (Spells : List ℕ → V → Type 0) (text : List ℕ) → ¬ IsIn Spells text → BeginsOne Spells text → IsBadAt Spells text (length text)
bad_at_end {V} Spells text outside begins = record {
  outside = outside;
  within = omega arith;
  begins = subst (λ (t : List ℕ). BeginsOne Spells t) (sym (take-length text)) begins;
  longest = λ n above most _. omega (arith, above, most);
}

-- Numbers within bounds

within_is : (low high n : ℕ) → low ≤ n → n ≤ high → if_within low high n ≡ Some n
within_is low high n some most = ap (λ b. if b then Some n else None) (λ i. le-leb low n some i && le-leb n high most i)

record IsWithin (low high n m : ℕ) : Type 0 where
  same : n ≡ m
  some : low ≤ m
  most : m ≤ high

within_some : (low high n m : ℕ) → if_within low high n ≡ Some m → IsWithin low high n m
within_some low high n m e =
    let test = if_some (nat_le low n && nat_le n high) (Some n) m e in
    let parts = and_parts (nat_le low n) (nat_le n high) test.0 in
    let same = same_Some n m test.1 in
    record { same = same; some = omega (arith, same, leb-true low n parts.0); most = omega (arith, same, leb-true n high parts.1) }

-- digits that are within bounds
pub count_is_within : (low high : ℕ) (text : List ℕ) (n : ℕ) → SpellsCount text n → low ≤ n → n ≤ high → count_within low high text ≡ Some n
count_is_within low high text n spells some most = ap (option_and_then (if_within low high)) (count_of-SpellsCount text n spells) ∙ within_is low high n some most

record HasCount (low high : ℕ) (text : List ℕ) : Type 0 where
  number : ℕ
  spells : SpellsCount text number
  some : low ≤ number
  most : number ≤ high

has_count : (low high : ℕ) (text : List ℕ) → IsIn (Reads (count_within low high)) text → HasCount low high text
has_count low high text is =
    let count = and_then_some (if_within low high) (count_of text) is.0 is.1 in
    let within = within_some low high count.0 is.0 count.2 in
    record { number = count.0; spells = SpellsCount-count_of text count.0 count.1; some = omega (arith, within.same, within.some); most = omega (arith, within.same, within.most) }

-- Fronts that go on

-- so many digits of such a number go on to a number within bounds
pub record GoesOn (low high width n : ℕ) : Type 0 where
  pub fits : n < 10 ^ width
  pub most : n ≤ high
  pub width_in : width ≤ 9
  pub alive : (low ≤ n) ⊎ (width ≤ 8)

no_digits : (width n : ℕ) → n < 10 ^ width → width ≤ 0 → n ≡ 0
no_digits zero n fits none = omega (arith, fits)
no_digits (suc width) n fits none = absurd (omega (arith, none))

spelled_digits : (width n : ℕ) → 1 ≤ width → width ≤ 9 → n < 10 ^ width → SpellsCount (digits width n) n
spelled_digits width n some most fits = record { width = width; some = some; most = most; fits = fits; spelled = refl }

ready : (low high width n : ℕ) → low ≤ 1 → GoesOn low high width n → ((1 ≤ width) × (low ≤ n)) ⊎ ((width ≤ 8) × (n ≡ 0))
ready low high width n least g =
    elim (cases_lt 0 width) [
      | inl some ↦ elim (cases_lt n low) [
        | inl less ↦ inr (elim g.alive [ inl le ↦ omega (arith, le, less) | inr short ↦ short ], omega (arith, less, least))
        | inr le ↦ inl (omega (arith, some), le)
      ]
      | inr none ↦ inr (omega (arith, none), no_digits width n g.fits none)
    ]

pub digits_begin : (low high width n : ℕ) → low ≤ 1 → low ≤ high → GoesOn low high width n → BeginsOne (Reads (count_within low high)) (digits width n)
digits_begin low high width n least bounds g =
    elim (ready low high width n least g) [
      | inl whole ↦ ([], (n, ap (count_within low high) (append-nil (digits width n)) ∙ count_is_within low high (digits width n) n (spelled_digits width n whole.0 g.width_in g.fits) whole.1 g.most))
      | inr none ↦ (let m = 10 * n + low in
          let is : m ≡ low = omega (arith, none.1) in
          let fits : m < 10 ^ suc width = subst (λ (k : ℕ). m < 10 ^ k) (add-one width) (next_digit width n low g.fits (omega (arith, least))) in
          let spells = spelled_digits (suc width) m (omega arith) (omega (arith, none.0)) fits in
          let more : digits (suc width) m ≡ digits width n ++ ((48 + low) ∷ []) = digits_push width low n (omega (arith, least)) g.fits in
          ((48 + low) ∷ [], (m, ap (count_within low high) (sym more) ∙ count_is_within low high (digits (suc width) m) m spells (omega (arith, is)) (omega (arith, is, bounds)))))
    ]

-- Fronts that do not

value_after : ℕ → List ℕ → ℕ
value_after m text = fold (λ (k : ℕ) (octet : ℕ). k * 10 + (octet - 48)) m text

value_grows : (m : ℕ) (text : List ℕ) → m ≤ value_after m text
unfolding value_after
value_grows m [] = omega arith
value_grows m (c ∷ text) = omega (arith, value_grows (m * 10 + (c - 48)) text)

-- the number of digits and what follows them
value_behind : (width n m : ℕ) (rest : List ℕ) → n < 10 ^ width → SpellsCount (digits width n ++ rest) m → m ≡ value_after n rest
unfolding value_after
value_behind width n m rest fits s =
    let step = λ (k : ℕ) (octet : ℕ). k * 10 + (octet - 48) in
    let whole : fold step 0 (digits width n ++ rest) ≡ 0 * 10 ^ s.width + m = ap (fold step 0) s.spelled ∙ fold-digits s.width m 0 s.fits in
    let front : fold step 0 (digits width n) ≡ 0 * 10 ^ width + n = fold-digits width n 0 fits in
    let split : fold step 0 (digits width n ++ rest) ≡ fold step (fold step 0 (digits width n)) rest = fold-append step 0 (digits width n) rest in
    let n_is : fold step 0 (digits width n) ≡ n = omega (arith, front) in
    let same : fold step (fold step 0 (digits width n)) rest ≡ fold step n rest = ap (λ k. fold step k rest) n_is in
    omega (arith, whole, split, same)

pub too_much : (low high width n : ℕ) → n < 10 ^ width → high < n → ¬ BeginsOne (Reads (count_within low high)) (digits width n)
too_much low high width n fits above = λ begins.
    let count = has_count low high (digits width n ++ begins.0) begins.1 in
    omega (arith, value_behind width n count.number begins.0 fits count.spells, value_grows n begins.0, count.most, above)

pub too_long : (low high : ℕ) (text : List ℕ) → 9 < length text → ¬ BeginsOne (Reads (count_within low high)) text
too_long low high text above = λ begins.
    let count = has_count low high (text ++ begins.0) begins.1 in
    omega (arith, (count_length (text ++ begins.0) count.number count.spells).1, length-append text begins.0, above)

nothing_after : (n : ℕ) (rest : List ℕ) → length rest ≤ 0 → value_after n rest ≡ n
unfolding value_after
nothing_after n [] none = refl
nothing_after n (c ∷ rest) none = absurd (omega (arith, none))

-- nine digits of a number below the least
pub too_little : (low high n : ℕ) → n < 10 ^ 9 → n < low → ¬ BeginsOne (Reads (count_within low high)) (digits 9 n)
too_little low high n fits less = λ begins.
    let count = has_count low high (digits 9 n ++ begins.0) begins.1 in
    let sizes = length-append (digits 9 n) begins.0 in
    let none : length begins.0 ≤ 0 = omega (arith, (count_length (digits 9 n ++ begins.0) count.number count.spells).1, sizes, length-digits 9 n) in
    omega (arith, value_behind 9 n count.number begins.0 fits count.spells, nothing_after n begins.0 none, count.some, less)

get_front : (place : ℕ) (text rest : List ℕ) → place < length text → get_or (take (suc place) text ++ rest) place 0 ≡ get_or text place 0
get_front zero [] rest within = absurd (omega (arith, within))
get_front (suc place) [] rest within = absurd (omega (arith, within))
get_front zero (c ∷ text) rest within = refl
get_front (suc place) (c ∷ text) rest within = get_front place text rest (omega (arith, within))

pub no_digit : (low high : ℕ) (text : List ℕ) (place : ℕ) → place < length text → (IsDigitOctet (get_or text place 0) → ⊥) → ¬ BeginsOne (Reads (count_within low high)) (take (place + 1) text)
no_digit low high text place within other = λ begins.
    let front = take (place + 1) text in
    let whole = front ++ begins.0 in
    let count = and_then_some (if_within low high) (count_of whole) begins.1.0 begins.1.1 in
    let here : get_or whole place 0 ≡ get_or text place 0 = ap (λ k. get_or (take k text ++ begins.0) place 0) (add-one place) ∙ get_front place text begins.0 within in
    let inside : place < length whole = omega (arith, length-append front begins.0, length-take (place + 1) text, within) in
    none-some count.0 (sym (no_count_at whole place inside (λ digit. other (subst IsDigitOctet here digit))) ∙ count.1)

-- Places

module _ (low high : ℕ) (least : low ≤ 1) (bounds : low ≤ high) (text : List ℕ) (place n : ℕ) (spelled : take place text ≡ digits place n) (goes_on : GoesOn low high place n) where
  begins_here : BeginsOne (Reads (count_within low high)) (take place text)
  begins_here = subst (λ (t : List ℕ). BeginsOne (Reads (count_within low high)) t) (sym spelled) (digits_begin low high place n least bounds goes_on)

  pub bad_octet : place < length text → (IsDigitOctet (get_or text place 0) → ⊥) → IsBadAt (Reads (count_within low high)) text place
  bad_octet within other = bad_before (Reads (count_within low high)) text place within begins_here (no_digit low high text place within other)

  pub bad_tenth : place < length text → place ≡ 9 → IsBadAt (Reads (count_within low high)) text place
  bad_tenth within nine = bad_before (Reads (count_within low high)) text place within begins_here (too_long low high (take (place + 1) text) (omega (arith, length-take (place + 1) text, within, nine)))

  pub bad_digit : (d : ℕ) → place < length text → place ≤ 8 → d ≤ 9 → get_or text place 0 ≡ 48 + d → (high < 10 * n + d) ⊎ ((10 * n + d < low) × (place ≡ 8)) → IsBadAt (Reads (count_within low high)) text place
  bad_digit d within short small octet out =
      let more : take (place + 1) text ≡ digits (place + 1) (10 * n + d) = more_digits text place n d within goes_on.fits small spelled octet in
      let fits = next_digit place n d goes_on.fits small in
      let stops : ¬ BeginsOne (Reads (count_within low high)) (digits (place + 1) (10 * n + d)) = elim out [
        | inl above ↦ too_much low high (place + 1) (10 * n + d) fits above
        | inr below ↦ (let nine : place + 1 ≡ 9 = omega (arith, below.1) in
            subst (λ (k : ℕ). ¬ BeginsOne (Reads (count_within low high)) (digits k (10 * n + d))) (sym nine) (too_little low high (10 * n + d) (subst (λ (k : ℕ). 10 * n + d < 10 ^ k) nine fits) below.0))
      ] in
      bad_before (Reads (count_within low high)) text place within begins_here (subst (λ (t : List ℕ). ¬ BeginsOne (Reads (count_within low high)) t) (sym more) stops)

  pub goes_further : (d : ℕ) → place ≤ 8 → d ≤ 9 → 10 * n + d ≤ high → (10 * n + d < low → place ≡ 8 → ⊥) → GoesOn low high (place + 1) (10 * n + d)
  goes_further d short small most alive = record {
    fits = next_digit place n d goes_on.fits small;
    most = most;
    width_in = omega (arith, short);
    alive = elim (cases_lt (10 * n + d) low) [
      | inl less ↦ elim (cases_lt place 8) [ inl early ↦ inr (omega (arith, early)) | inr late ↦ absurd (alive less (omega (arith, late, short))) ]
      | inr le ↦ inl le
    ];
  }

  whole_text : place ≡ length text → text ≡ digits place n
  whole_text end = sym (take-length text) ∙ (ap (λ k. take k text) (sym end) ∙ spelled)

  pub count_read : place ≡ length text → 1 ≤ place → low ≤ n → count_within low high text ≡ Some n
  count_read end some le = ap (count_within low high) (whole_text end) ∙ count_is_within low high (digits place n) n (spelled_digits place n some goes_on.width_in goes_on.fits) le goes_on.most

  pub bad_end : place ≡ length text → (place ≤ 0) ⊎ (n < low) → IsBadAt (Reads (count_within low high)) text (length text)
  bad_end end out =
      let outside : ¬ IsIn (Reads (count_within low high)) text = λ is.
      let count = has_count low high (digits place n ++ []) (is.0, ap (count_within low high) (append-nil (digits place n) ∙ sym (whole_text end)) ∙ is.1) in
      let same = value_behind place n count.number [] goes_on.fits count.spells in
      elim out [
        | inl none ↦ omega (arith, (count_length (digits place n ++ []) count.number count.spells).0, length-append (digits place n) [], length-digits place n, none)
        | inr less ↦ omega (arith, same, nothing_after n [] (omega arith), count.some, less)
      ] in
      bad_at_end (Reads (count_within low high)) text outside (subst (λ (t : List ℕ). BeginsOne (Reads (count_within low high)) t) (sym (whole_text end)) (digits_begin low high place n least bounds goes_on))

-- Tests of the number so far

pub still_takes : (place n low high : ℕ) → (nat_le n high && (nat_lt place 8 || nat_le low n)) ≡ true → (n ≤ high) × (n < low → place ≡ 8 → ⊥)
still_takes place n low high e =
    let parts = and_parts (nat_le n high) (nat_lt place 8 || nat_le low n) e in
    (leb-true n high parts.0, λ less last. elim (or_parts (nat_lt place 8) (nat_le low n) parts.1) [ inl early ↦ omega (arith, ltb-true place 8 early, last) | inr le ↦ omega (arith, leb-true low n le, less) ])
  where
    or_parts : (a b : Bool) → (a || b) ≡ true → (a ≡ true) ⊎ (b ≡ true)
    or_parts true b e = inl refl
    or_parts false b e = inr e

pub takes_none : (place n low high : ℕ) → place ≤ 8 → (nat_le n high && (nat_lt place 8 || nat_le low n)) ≡ false → (high < n) ⊎ ((n < low) × (place ≡ 8))
takes_none place n low high short e =
    elim (cases_lt high n) [
      | inl above ↦ inl above
      | inr most ↦ elim (cases_lt place 8) [
        | inl early ↦ absurd (false≢true (sym e ∙ ap₂ (λ a b. a && (b || nat_le low n)) (le-leb n high most) (lt-ltb place 8 early)))
        | inr late ↦ elim (cases_lt n low) [
          | inl less ↦ inr (less, omega (arith, late, short))
          | inr le ↦ absurd (false≢true (sym e ∙ (ap₂ (λ a b. a && (nat_lt place 8 || b)) (le-leb n high most) (le-leb low n le) ∙ or_true (nat_lt place 8))))
        ]
      ]
    ]
  where
    or_true : (b : Bool) → (true && (b || true)) ≡ true
    or_true true = refl
    or_true false = refl
