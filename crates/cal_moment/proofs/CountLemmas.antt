-- Where a number of one to nine digits ends.
use Rattle.std.proofs.Common.{◌≡◌, ℕ, zero, suc, ◌+◌, ◌*◌, ◌%◌, ◌^◌, ◌<◌, ◌≤◌, ◌⊎◌, inl, inr, List, [], ◌∷◌, ◌++◌, length, refl, sym, ap, subst, ◌∙◌, arith, add-one, append_assoc}
use Rattle.cal_moment.specs.LengthPieces.{GoesOnToCount, IsLongestCount}
use Rattle.cal_moment.specs.LengthTexts.{SpellsCount}
use Rattle.cal_moment.specs.Stops.{BeginsWithNoDigit, GoOnAlike, Stops}
use Rattle.cal_moment.specs.Texts.{digits}
use Rattle.cal_moment.proofs.DigitLemmas.{digits_push, digits_injective, digit_below, tail_below, length-digits}
use Rattle.cal_moment.proofs.StopsLemmas.{stops_after, stops_here, stops_wider}

-- one digit more
pub goes_on : (width value d n : ℕ) (text rest : List ℕ) → d ≤ 9 → value < 10 ^ width → GoesOnToCount (width + 1) (10 * value + d) text n rest → GoesOnToCount width value ((48 + d) ∷ text) n rest
goes_on width value d n text rest digit fits g =
    let pushed = digits_push width d value digit fits in
    record {
      whole = g.whole;
      from = omega (arith, g.from);
      most = g.most;
      fits = g.fits;
      same = sym (append_assoc (digits width value) ((48 + d) ∷ []) text) ∙ ap (λ t. t ++ text) (sym pushed) ∙ rw add-one at g.same;
      ended = g.ended;
    }

abbrev AreDigits : List ℕ → Type 0
AreDigits [] = Unit {0}
AreDigits (c ∷ cs) = (48 ≤ c) × (c ≤ 57) × AreDigits cs

digits_are : (count n : ℕ) → n < 10 ^ count → AreDigits (digits count n)
digits_are zero n h = tt
digits_are (suc count) n h =
    let first = digit_below count n h in
    (omega arith, omega (arith, first), digits_are count (n % 10 ^ count) (tail_below count n))

count_digits : (number : List ℕ) (n : ℕ) → SpellsCount number n → AreDigits number
count_digits number n s = rw s.spelled (digits_are s.width n s.fits)

-- a number has one to nine digits
pub count_length : (number : List ℕ) (n : ℕ) → SpellsCount number n → (1 ≤ length number) × (length number ≤ 9)
count_length number n s =
    let width = ap length s.spelled ∙ length-digits s.width n in omega (arith, width, s.some, s.most)

-- digits spell one number
pub one_count : (number : List ℕ) (m n : ℕ) → SpellsCount number m → SpellsCount number n → m ≡ n
one_count number m n a b =
    let widths : b.width ≡ a.width = sym (length-digits b.width n) ∙ ap length (sym b.spelled ∙ a.spelled) ∙ length-digits a.width m in
    digits_injective a.width m n a.fits (rw widths at b.fits) (sym a.spelled ∙ b.spelled ∙ ap (λ w. digits w n) widths)

-- a text that begins with an octet above the digits
pub record BeginsWithLetter (text : List ℕ) : Type 0 where
  pub octet : ℕ
  pub rest : List ℕ
  pub above : 57 < octet
  pub split : text ≡ octet ∷ rest

letter_no_digit : (text : List ℕ) → BeginsWithLetter text → BeginsWithNoDigit text
letter_no_digit text b = rw b.split (inr b.above)

not_digit : (c : ℕ) (cs : List ℕ) → 48 ≤ c → c ≤ 57 → ¬ BeginsWithNoDigit (c ∷ cs)
not_digit c cs low high none = elim none [ inl under ↦ omega (arith, under, low) | inr above ↦ omega (arith, above, high) ]

-- digits at the front of one text: the second are the first, or go on with more
digits_cases : (a b c d : List ℕ) → AreDigits a → AreDigits c → BeginsWithNoDigit d → a ++ b ≡ c ++ d → ((a ≡ c) × (b ≡ d)) ⊎ ((length a < length c) × ¬ BeginsWithNoDigit b)
digits_cases [] b [] d da dc none e = inl (refl, e)
digits_cases [] b (y ∷ c) d da dc none e = inr (omega arith, λ no. not_digit y (c ++ d) dc.0 dc.1 (rw e at no))
digits_cases (x ∷ a) b [] d da dc none e = absurd (not_digit x (a ++ b) da.0 da.1 (rw (← e) at none))
digits_cases (x ∷ a) b (y ∷ c) d da dc none e =
    let head : x ≡ y = cc in
    let rest : a ++ b ≡ c ++ d = cc in
    elim (digits_cases a b c d da.2 dc.2 none rest) [
      | inl w ↦ inl (cc, w.1)
      | inr w ↦ inr (omega (arith, w.0), w.1)
    ]

-- two numbers before letters are one
pub counts_then : (a b c d : List ℕ) (m n : ℕ) → SpellsCount a m → SpellsCount c n → BeginsWithLetter b → BeginsWithLetter d → a ++ b ≡ c ++ d → (m ≡ n) × (b ≡ d)
counts_then a b c d m n first second before also e =
    elim (digits_cases a b c d (count_digits a m first) (count_digits c n second) (letter_no_digit d also) e) [
      | inl w ↦ (one_count c m n (rw w.0 at first) second, w.1)
      | inr w ↦ absurd (w.1 (letter_no_digit b before))
    ]

-- a text that begins with a number, and goes on as one of a set by that number
pub record WithCount (Behind : ℕ → List ℕ → Type 0) (text : List ℕ) : Type 0 where
  pub number : List ℕ
  pub n : ℕ
  pub rest : List ℕ
  pub spells : SpellsCount number n
  pub behind : Behind n rest
  pub split : text ≡ number ++ rest

-- 0
pub zero_counts : SpellsCount (48 ∷ []) 0
zero_counts = record { width = 1; some = omega arith; most = omega arith; fits = omega arith; spelled = refl }

no_digit_alike : (a b : List ℕ) → GoOnAlike a b → BeginsWithNoDigit b → BeginsWithNoDigit a
no_digit_alike [] b alike none = tt
no_digit_alike (c ∷ a) [] alike none = absurd alike
no_digit_alike (c ∷ a) (d ∷ b) alike none = rw alike none

module _ (Behind : ℕ → List ℕ → Type 0) where
  -- behind the longest number the place is that of what follows it
  pub stops_behind_count : (text : List ℕ) (n : ℕ) (rest left : List ℕ) → ((m : ℕ) (t : List ℕ) → Behind m t → BeginsWithLetter t) → IsLongestCount text n rest → Stops (Behind n) rest left → Stops (WithCount Behind) text left
  stops_behind_count text n rest left letters count s =
      rw count.split
      (stops_after (WithCount Behind) count.number rest left
      (stops_wider (Behind n) (λ t. WithCount Behind (count.number ++ t)) BeginsWithNoDigit rest left no_digit_alike
      (λ t h. record { number = count.number; n = n; rest = t; spells = count.spells; behind = h; split = refl })
      (λ t w. elim (digits_cases count.number t w.number w.rest (count_digits count.number n count.spells) (count_digits w.number w.n w.spells) (letter_no_digit w.rest (letters w.n w.rest w.behind)) w.split) [
        | inl same ↦ inl (same_behind t w same.0 same.1)
        | inr longer ↦ inr (
          longer.1,
          elim count.ended [
            | inl nine ↦ absurd (omega (arith, nine, longer.0, count_length w.number w.n w.spells))
            | inr none ↦ none
          ],
        )
      ])
      s))
    where
      same_behind : (t : List ℕ) (w : WithCount Behind (count.number ++ t)) → count.number ≡ w.number → t ≡ w.rest → Behind n t
      same_behind t w number same =
          let n_is : w.n ≡ n = one_count count.number w.n n (subst (λ (s : List ℕ). SpellsCount s w.n) (sym number) w.spells) count.spells in
          subst (λ (s : List ℕ). Behind n s) (sym same) (subst (λ (m : ℕ). Behind m w.rest) n_is w.behind)

  -- it begins with a digit
  pub with_count_digit : (text : List ℕ) → WithCount Behind text → ¬ BeginsWithNoDigit text
  with_count_digit text w none =
      first_digit w.number (count_digits w.number w.n w.spells) (count_length w.number w.n w.spells).0 w.rest (rw w.split at none)
    where
      first_digit : (number : List ℕ) → AreDigits number → 1 ≤ length number → (rest : List ℕ) → ¬ BeginsWithNoDigit (number ++ rest)
      first_digit [] d h rest none = omega (arith, h)
      first_digit (c ∷ number) d h rest none = not_digit c (number ++ rest) d.0 d.1 none

  -- a text that begins with no digit
  pub stops_no_count : (text rest : List ℕ) → Behind 0 rest → BeginsWithNoDigit text → Stops (WithCount Behind) text text
  stops_no_count text rest behind none =
      stops_here (WithCount Behind) text (48 ∷ rest)
      (record { number = 48 ∷ []; n = 0; rest = rest; spells = zero_counts; behind = behind; split = refl })
      (λ next w alike. with_count_digit next w (no_digit_alike next text alike none))
