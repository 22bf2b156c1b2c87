-- Fronts of integers: where a text begins an integer, it is one or becomes one with one more digit, which is nearer to 0 or is 1.
use Rattle.std.proofs.Common.{◌≡◌, ℕ, zero, suc, ◌+◌, ◌-◌, ◌*◌, ◌/◌, ◌%◌, ◌^◌, ◌<◌, ◌≤◌, Bool, true, false, ◌&&◌, ◌||◌, ◌==◌, if◌then◌else◌, List, [], ◌∷◌, ◌++◌, length, drop, fold, codes, Some, option_map, ℤ, pos, refl, sym, ap, ap₂, subst, ◌∙◌, arith, ◌⊎◌, inl, inr}
use Rattle.std.specs.Prelude.{nat_abs}
use Rattle.std.proofs.Math.Nat.{pow-suc, mul-le-mul_right}
use Rattle.std.proofs.lemmas.Bool.{cases_Bool, cases_lt, eqb-true}
use Rattle.std.proofs.lemmas.List.{length-append, append-nil}
use Rattle.std.proofs.lemmas.List.Sums.{fold-append}
use Rattle.std.proofs.lemmas.Nat.{div-mul-add, mod-mul-add}
use Rattle.cal_moment.specs.LengthTexts.{SpellsCount}
use Rattle.cal_moment.specs.Texts.{digits, signed}
use Rattle.cal_moment.proofs.DigitLemmas.{length-digits}
use Rattle.cal_model.specs.Values.ValueTexts.{count_of, integer_of}
use Rattle.cal_model.proofs.Values.CutLemmas.{option_map_some, first_below, rest_below, fold-digits, SpellsCount-count_of, count_of-SpellsCount}

-- Digits

pub record IsDigit (octet : ℕ) : Type 0 where
  pub low : 48 ≤ octet
  pub high : octet ≤ 57

abbrev pub AreDigits : List ℕ → Type 0
AreDigits [] = Unit {0}
AreDigits (c ∷ text) = IsDigit c × AreDigits text

digits_are : (count n : ℕ) → n < 10 ^ count → AreDigits (digits count n)
digits_are zero n h = tt
digits_are (suc count) n h =
    let first = first_below count n h in
    (record { low = omega arith; high = omega (arith, first) }, digits_are count (n % 10 ^ count) (rest_below count n h))

digits_front : (a b : List ℕ) → AreDigits (a ++ b) → AreDigits a
digits_front [] b are = tt
digits_front (c ∷ a) b are = (are.0, digits_front a b are.1)

-- the number of digits behind another
abbrev value_after : ℕ → List ℕ → ℕ
value_after m text = fold (λ (k : ℕ) (octet : ℕ). k * 10 + (octet - 48)) m text

value_grows : (m : ℕ) (text : List ℕ) → m ≤ value_after m text
value_grows m [] = omega arith
value_grows m (c ∷ text) = omega (arith, value_grows (m * 10 + (c - 48)) text)

-- digits are those of their number
digits_of_value : (text : List ℕ) → AreDigits text → (value_after 0 text < 10 ^ length text) × (text ≡ digits (length text) (value_after 0 text))
digits_of_value [] are = (omega arith, refl)
digits_of_value (c ∷ text) are =
    let k = length text in
    let unit = 10 ^ k in
    let rest = digits_of_value text are.1 in
    let r = value_after 0 text in
    let q = 0 * 10 + (c - 48) in
    let small : q ≤ 9 = omega (arith, are.0.high) in
    let whole : value_after q text ≡ q * unit + r = ap (value_after q) rest.1 ∙ fold-digits k r q rest.0 in
    let power : 10 ^ suc k ≡ unit * 10 = pow-suc 10 k in
    let product : q * unit ≤ 9 * unit = mul-le-mul_right unit small in
    let first : (q * unit + r) / unit ≡ q = div-mul-add q unit r rest.0 in
    let last : (q * unit + r) % unit ≡ r = mod-mul-add q unit r rest.0 in
    let head : c ≡ 48 + q = omega (arith, are.0.low) in
    (rw whole (omega (arith, power, product, rest.0)), ap₂ (λ a b. a ∷ b) head rest.1 ∙ sym (ap (digits (suc k)) whole ∙ ap₂ (λ a b. (48 + a) ∷ digits k b) first last))

-- one to nine digits are a number
count_of_digits : (text : List ℕ) → AreDigits text → 1 ≤ length text → length text ≤ 9 → SpellsCount text (value_after 0 text)
count_of_digits text are some most =
    let of = digits_of_value text are in
    record { width = length text; some = some; most = most; fits = of.0; spelled = of.1 }

-- the number of a text that spells one
value_of_count : (text : List ℕ) (n : ℕ) → SpellsCount text n → AreDigits text × (value_after 0 text ≡ n) × (1 ≤ length text) × (length text ≤ 9)
value_of_count text n s =
    let wide : length text ≡ s.width = ap length s.spelled ∙ length-digits s.width n in
    (rw s.spelled (digits_are s.width n s.fits), ap (value_after 0) s.spelled ∙ (fold-digits s.width n 0 s.fits ∙ omega arith), omega (arith, wide, s.some), omega (arith, wide, s.most))

-- Numbers

-- the ends that make a front a number; a zero only where the number is 0
pub data IsDigitEnd (end : List ℕ) (n : ℕ) : Type 0 where
  nothing : end ≡ [] → IsDigitEnd end n
  a_zero : end ≡ codes "0" → n ≡ 0 → IsDigitEnd end n
  a_one : end ≡ codes "1" → IsDigitEnd end n

-- a front of the digits of a number, with an end that makes it the number, or one from 1 to it
record CountFront (text : List ℕ) (n : ℕ) : Type 0 where
  end : List ℕ
  is_end : IsDigitEnd end n
  number : ℕ
  counts : count_of (text ++ end) ≡ Some number
  near : (number ≡ n) ⊎ ((1 ≤ number) × (number ≤ n))

-- one more digit
digits_push_one : (text : List ℕ) → AreDigits text → AreDigits (text ++ codes "1")
digits_push_one [] are = (record { low = omega arith; high = omega arith }, tt)
digits_push_one (c ∷ text) are = (are.0, digits_push_one text are.1)

empty_front : (h : List ℕ) (n : ℕ) → CountFront [] n
empty_front h zero = record { end = codes "0"; is_end = a_zero refl refl; number = 0; counts = count_of-SpellsCount (codes "0") 0 (count_of_digits (codes "0") (record { low = omega arith; high = omega arith }, tt) (omega arith) (omega arith)); near = inl refl }
empty_front h (suc n) = record { end = codes "1"; is_end = a_one refl; number = 1; counts = count_of-SpellsCount (codes "1") 1 (count_of_digits (codes "1") (record { low = omega arith; high = omega arith }, tt) (omega arith) (omega arith)); near = inr (omega arith, omega arith) }

-- a front with a digit, of a number
some_front : (text h : List ℕ) (n : ℕ) → 1 ≤ length text → count_of (text ++ h) ≡ Some n → CountFront text n
some_front text h n some e =
    let whole = value_of_count (text ++ h) n (SpellsCount-count_of (text ++ h) n e) in
    let are = digits_front text h whole.0 in
    let m = value_after 0 text in
    let split : value_after 0 (text ++ h) ≡ value_after m h = fold-append (λ (k : ℕ) (octet : ℕ). k * 10 + (octet - 48)) 0 text h in
    let sum = length-append text h in
    let below : m ≤ n = omega (arith, value_grows m h, split, whole.1) in
    let wide : length text ≤ 9 = omega (arith, sum, whole.3) in
    let as_is : count_of (text ++ []) ≡ Some m = ap count_of (append-nil text) ∙ count_of-SpellsCount text m (count_of_digits text are some wide) in
    elim (cases_lt 0 m) [
      | inl positive ↦ record { end = []; is_end = nothing refl; number = m; counts = as_is; near = inr (omega (arith, positive), below) }
      | inr none ↦ elim (cases_lt (length text) 9) [
        | inl shorter ↦ elim (cases_lt 0 n) [
          | inl more ↦ record {
            end = codes "1";
            is_end = a_one refl;
            number = value_after 0 (text ++ codes "1");
            counts = count_of-SpellsCount (text ++ codes "1") (value_after 0 (text ++ codes "1")) (count_of_digits (text ++ codes "1") (digits_push_one text are) (omega (arith, length-append text (codes "1"))) (omega (arith, shorter, length-append text (codes "1"))));
            near = (let is = fold-append (λ (k : ℕ) (octet : ℕ). k * 10 + (octet - 48)) 0 text (codes "1") in inr (omega (arith, is, none), omega (arith, is, none, more)));
          }
          | inr zero_too ↦ record { end = []; is_end = nothing refl; number = m; counts = as_is; near = inl (omega (arith, none, zero_too)) }
        ]
        | inr nine ↦ record { end = []; is_end = nothing refl; number = m; counts = as_is; near = inl (nothing_behind h (omega (arith, nine, sum, whole.3)) split whole.1) }
      ]
    ]
  where
    nothing_behind : (h : List ℕ) → length h ≤ 0 → value_after 0 (text ++ h) ≡ value_after (value_after 0 text) h → value_after 0 (text ++ h) ≡ n → value_after 0 text ≡ n
    nothing_behind [] le split e = sym split ∙ e
    nothing_behind (c ∷ h) le split e = absurd (omega (arith, le))

-- Integers

-- a number is nearer to 0 than another, with its sign, or is 1
pub data Nearer (number z : ℤ) : Type 0 where
  same : number ≡ z → Nearer number z
  one : number ≡ pos 1 → Nearer number z
  less : (negative : Bool) (m n : ℕ) → 1 ≤ m → m ≤ n → number ≡ signed negative m → z ≡ signed negative n → Nearer number z

-- a front of an integer, with such an end
pub record IntegerFront (text : List ℕ) (z : ℤ) : Type 0 where
  pub end : List ℕ
  pub is_end : IsDigitEnd end (nat_abs z)
  pub number : ℤ
  pub reads : integer_of (text ++ end) ≡ Some number
  pub near : Nearer number z

-- an integer that begins with an octet has its number behind a sign, or from that octet on
abbrev IsSign : ℕ → Bool → Type 0
IsSign c negative = (text : List ℕ) → integer_of (c ∷ text) ≡ option_map (signed negative) (count_of text)

abbrev IsNoSign : ℕ → Type 0
IsNoSign c = (text : List ℕ) → integer_of (c ∷ text) ≡ option_map (signed false) (count_of (c ∷ text))

cases_sign : (c : ℕ) → ((negative : Bool) × IsSign c negative) ⊎ IsNoSign c
unfolding integer_of
cases_sign c =
    elim (cases_Bool (c == 43)) [
      | inl plus ↦ inl (false, λ text. ap (λ o. integer_of (o ∷ text)) (eqb-true c 43 plus))
      | inr no_plus ↦ elim (cases_Bool (c == 45)) [
        | inl minus ↦ inl (true, λ text. ap (λ o. integer_of (o ∷ text)) (eqb-true c 45 minus))
        | inr no_minus ↦ inr (λ text. ap₂ (λ a b. option_map (signed (b && true)) (count_of (drop (if a || b then 1 else 0) (c ∷ text)))) no_plus no_minus)
      ]
    ]

pub abs-signed : (negative : Bool) (n : ℕ) → nat_abs (signed negative n) ≡ n
abs-signed false n = refl
abs-signed true zero = refl
abs-signed true (suc n) = refl

near_signed : (negative : Bool) (m n : ℕ) → (m ≡ n) ⊎ ((1 ≤ m) × (m ≤ n)) → Nearer (signed negative m) (signed negative n)
near_signed negative m n near = elim near [ inl e ↦ same (ap (signed negative) e) | inr between ↦ less negative m n between.0 between.1 refl refl ]

signed_front : (negative : Bool) (c : ℕ) (digits_text : List ℕ) (text : List ℕ) (n : ℕ) (z : ℤ) → signed negative n ≡ z → (front : CountFront digits_text n) → integer_of (text ++ front.end) ≡ option_map (signed negative) (count_of (digits_text ++ front.end)) → IntegerFront text z
signed_front negative c digits_text text n z is front reads = record {
  end = front.end;
  is_end = subst (λ (k : ℕ). IsDigitEnd front.end k) (sym (sym (ap nat_abs is) ∙ abs-signed negative n)) front.is_end;
  number = signed negative front.number;
  reads = reads ∙ ap (option_map (signed negative)) front.counts;
  near = subst (λ (a : ℤ). Nearer (signed negative front.number) a) is (near_signed negative front.number n front.near);
}

one_is : integer_of (codes "1") ≡ Some (pos 1)
unfolding integer_of count_of
one_is = refl

-- The front of an integer goes on with one of these ends.
pub integer_front : (text h : List ℕ) (z : ℤ) → integer_of (text ++ h) ≡ Some z → IntegerFront text z
integer_front [] h z e = record { end = codes "1"; is_end = a_one refl; number = pos 1; reads = one_is; near = one refl }
integer_front (c ∷ text) h z e =
    elim (cases_sign c) [
      | inl sign ↦ (let number = option_map_some (signed sign.0) (count_of (text ++ h)) z (sym (sign.1 (text ++ h)) ∙ e) in
          elim (cases_empty text) [
            | inl none ↦ (let front = subst (λ (t : List ℕ). CountFront t number.0) (sym none) (empty_front h number.0) in signed_front sign.0 c text (c ∷ text) number.0 z number.2 front (sign.1 (text ++ front.end)))
            | inr some ↦ (let front = some_front text h number.0 some number.1 in signed_front sign.0 c text (c ∷ text) number.0 z number.2 front (sign.1 (text ++ front.end)))
          ])
      | inr no_sign ↦ (let number = option_map_some (signed false) (count_of (c ∷ text ++ h)) z (sym (no_sign (text ++ h)) ∙ e) in
          let front = some_front (c ∷ text) h number.0 (omega arith) number.1 in
          signed_front false c (c ∷ text) (c ∷ text) number.0 z number.2 front (no_sign (text ++ front.end)))
    ]
  where
    cases_empty : (text : List ℕ) → (text ≡ []) ⊎ (1 ≤ length text)
    cases_empty [] = inl refl
    cases_empty (d ∷ text) = inr (omega arith)
