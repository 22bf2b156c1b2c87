-- Texts cut at an octet, and numbers of one to nine digits.
use Rattle.std.proofs.Common.{◌≡◌, ◌≢◌, ℕ, zero, suc, ◌+◌, ◌-◌, ◌*◌, ◌/◌, ◌%◌, ◌^◌, ◌<◌, Bool, true, false, ◌&&◌, ◌==◌, nat_le, nat_lt, if◌then◌else◌, List, [], ◌∷◌, ◌++◌, length, take, fold, bytes_eq, Option, Some, None, option_map, option_and_then, refl, sym, ap, ap₂, subst, ◌∙◌, arith, ◌⊎◌, inl, inr}
use Rattle.std.proofs.Math.Nat.{pow-suc, one-le-pow}
use Rattle.std.proofs.Math.Seq.{take-length}
use Rattle.std.proofs.lemmas.Bool.{le-leb, leb-true, lt-ltb, ltb-true, eqb-true, eq-eqb, ne_eqb, and_parts, cases_Bool}
use Rattle.std.proofs.lemmas.Nat.{div-add-mod', mod_below, div_below}
use Rattle.std.proofs.lemmas.Option.{cond_some, none-some, same_Some}
use Rattle.std.proofs.lemmas.Slice.Eq.{bytes_eq-Decides}
use Rattle.cal_moment.specs.LengthTexts.{SpellsCount}
use Rattle.cal_moment.specs.Texts.{digits}
use Rattle.cal_moment.proofs.DigitLemmas.{length-digits}
use Rattle.cal_model.specs.Values.ValueTexts.{number_at, count_of, cut, counted, count_before}

-- An option is none or some value
pub cases_Option : {A : Type 0} → (o : Option A) → (o ≡ None) ⊎ ((x : A) × (o ≡ Some x))
cases_Option None = inl refl
cases_Option (Some x) = inr (x, refl)

-- where a mapped option is some value, so is the option
pub option_map_some : {A B : Type 0} → (f : A → B) (o : Option A) (y : B) → option_map f o ≡ Some y → (x : A) × (o ≡ Some x) × (f x ≡ y)
option_map_some f None y e = absurd (none-some y e)
option_map_some f (Some x) y e = (x, refl, same_Some (f x) y e)

-- the same of a chain
pub and_then_some : {A B : Type 0} → (f : A → Option B) (o : Option A) (y : B) → option_and_then f o ≡ Some y → (x : A) × (o ≡ Some x) × (f x ≡ Some y)
and_then_some f None y e = absurd (none-some y e)
and_then_some f (Some x) y e = (x, refl, e)

-- where a test guards an option that is some value, it passed
pub if_some : {A : Type 0} → (b : Bool) (o : Option A) (y : A) → (if b then o else None) ≡ Some y → (b ≡ true) × (o ≡ Some y)
if_some true o y e = (refl, e)
if_some false o y e = absurd (none-some y e)

-- a text is equal to itself
pub same_text : (text : List ℕ) → bytes_eq text text ≡ true
same_text text = (bytes_eq-Decides text text).1 refl

pub is_same_text : (a b : List ℕ) → bytes_eq a b ≡ true → a ≡ b
is_same_text a b e = (bytes_eq-Decides a b).0 e

-- only the empty text has no octets
pub no_octets : (text : List ℕ) → (length text == 0) ≡ true → text ≡ []
no_octets [] e = refl
no_octets (c ∷ text) e = absurd (omega (arith, eqb-true (length (c ∷ text)) 0 e))

-- Digits

module _ (count n : ℕ) (h : n < 10 ^ suc count) where
  pub first_below : n / 10 ^ count < 10
  first_below = div_below n (10 ^ count) 10 (one-le-pow count 10 (omega arith)) (omega (arith, pow-suc 10 count, h))

  pub rest_below : n % 10 ^ count < 10 ^ count
  rest_below = mod_below n (10 ^ count) (one-le-pow count 10 (omega arith))

-- a product of a sum
pub sum_times : (m q unit r : ℕ) → (m * 10 + q) * unit + r ≡ m * (unit * 10) + (q * unit + r)
sum_times m q unit r = grind arith

pub fold-digits : (count n m : ℕ) → n < 10 ^ count → fold (λ (k : ℕ) (octet : ℕ). k * 10 + (octet - 48)) m (digits count n) ≡ m * 10 ^ count + n
fold-digits zero n m h = omega (arith, h)
fold-digits (suc count) n m h =
    let q = n / 10 ^ count in
    let r = n % 10 ^ count in
    let first : 48 + q - 48 ≡ q = omega arith in
    ap (λ d. fold (λ (k : ℕ) (octet : ℕ). k * 10 + (octet - 48)) (m * 10 + d) (digits count r)) first
    ∙ (fold-digits count r (m * 10 + q) (rest_below count n h)
    ∙ (sum_times m q (10 ^ count) r
    ∙ ap₂ (λ a b. m * a + b) (sym (pow-suc 10 count)) (div-add-mod' n (10 ^ count))))

pub number_at-digits : (count n : ℕ) → n < 10 ^ count → number_at 0 count (digits count n) ≡ n
number_at-digits count n h =
    let all : take count (digits count n) ≡ digits count n = subst (λ (k : ℕ). take k (digits count n) ≡ digits count n) (length-digits count n) (take-length (digits count n)) in
    ap (λ t. fold (λ (k : ℕ) (octet : ℕ). k * 10 + (octet - 48)) 0 t) all ∙ (fold-digits count n 0 h ∙ omega arith)

-- the number of a text of one to nine digits, by its width and the number there
abbrev count_by : List ℕ → ℕ → ℕ → Option ℕ
count_by text width number =
    if nat_le 1 width && nat_le width 9 && nat_lt number (10 ^ width) && bytes_eq text (digits width number) then Some number else None

-- A text of one to nine digits has the number that it spells.
pub count_of-SpellsCount : (text : List ℕ) (n : ℕ) → SpellsCount text n → count_of text ≡ Some n
unfolding count_of
count_of-SpellsCount text n s =
    let w = s.width in
    let wide : length text ≡ w = ap length s.spelled ∙ length-digits w n in
    let number : number_at 0 w text ≡ n = ap (number_at 0 w) s.spelled ∙ number_at-digits w n s.fits in
    let tests : (nat_le 1 w && nat_le w 9 && nat_lt n (10 ^ w) && bytes_eq text (digits w n)) ≡ true =
    λ i. le-leb 1 w s.some i && le-leb w 9 s.most i && lt-ltb n (10 ^ w) s.fits i && (bytes_eq-Decides text (digits w n)).1 s.spelled i in
    ap (λ k. count_by text k (number_at 0 k text)) wide
    ∙ (ap (count_by text w) number ∙ ap (λ b. if b then Some n else None) tests)

-- A text that has a number spells it.
pub SpellsCount-count_of : (text : List ℕ) (n : ℕ) → count_of text ≡ Some n → SpellsCount text n
unfolding count_of
SpellsCount-count_of text n e =
    let w = length text in
    let m = number_at 0 w text in
    let found = cond_some (nat_le 1 w && nat_le w 9 && nat_lt m (10 ^ w) && bytes_eq text (digits w m)) m n e in
    let same = and_parts (nat_le 1 w && nat_le w 9 && nat_lt m (10 ^ w)) (bytes_eq text (digits w m)) found.0 in
    let fits = and_parts (nat_le 1 w && nat_le w 9) (nat_lt m (10 ^ w)) same.0 in
    let wide = and_parts (nat_le 1 w) (nat_le w 9) fits.0 in
    record {
      width = w;
      some = leb-true 1 w wide.0;
      most = leb-true w 9 wide.1;
      fits = rw (← found.1) (ltb-true m (10 ^ w) fits.1);
      spelled = is_same_text text (digits w m) same.1 ∙ ap (digits w) found.1;
    }

-- Cuts

-- an octet is none of a text
abbrev pub Lacks : ℕ → List ℕ → Type 0
Lacks octet [] = Unit {0}
Lacks octet (c ∷ text) = (c ≢ octet) × Lacks octet text

pub lacks-append : (octet : ℕ) (a b : List ℕ) → Lacks octet a → Lacks octet b → Lacks octet (a ++ b)
lacks-append octet [] b la lb = lb
lacks-append octet (c ∷ a) b la lb = (la.0, lacks-append octet a b la.1 lb)

pub lacks-digits : (octet count n : ℕ) → 57 < octet → n < 10 ^ count → Lacks octet (digits count n)
lacks-digits octet zero n above h = tt
lacks-digits octet (suc count) n above h =
    let first = first_below count n h in
    (λ e. omega (arith, e, first, above), lacks-digits octet count (n % 10 ^ count) above (rest_below count n h))

pub lacks-count : (octet : ℕ) (number : List ℕ) (n : ℕ) → 57 < octet → SpellsCount number n → Lacks octet number
lacks-count octet number n above s = rw s.spelled (lacks-digits octet s.width n above s.fits)

-- one more octet before a cut text
abbrev onto_cut : ℕ → Option (List ℕ × List ℕ) → Option (List ℕ × List ℕ)
onto_cut c o = option_map (λ (parts : List ℕ × List ℕ). (c ∷ parts.0, parts.1)) o

-- the cut of a text by its first octet
cut-other : (octet c : ℕ) (text : List ℕ) → c ≢ octet → cut octet (c ∷ text) ≡ onto_cut c (cut octet text)
cut-other octet c text other =
    ap (λ b. if b then Some ([], text) else onto_cut c (cut octet text)) (ne_eqb c octet other)

pub cut-none : (octet : ℕ) (text : List ℕ) → Lacks octet text → cut octet text ≡ None
cut-none octet [] lacks = refl
cut-none octet (c ∷ text) lacks = cut-other octet c text lacks.0 ∙ ap (onto_cut c) (cut-none octet text lacks.1)

pub cut-append : (octet : ℕ) (a b : List ℕ) → Lacks octet a → cut octet (a ++ (octet ∷ b)) ≡ Some (a, b)
cut-append octet [] b lacks =
    ap (λ t. if t then Some ([], b) else onto_cut octet (cut octet b)) (eq-eqb octet octet refl)
cut-append octet (c ∷ a) b lacks =
    cut-other octet c (a ++ (octet ∷ b)) lacks.0 ∙ ap (onto_cut c) (cut-append octet a b lacks.1)

-- a text that is cut is its two parts with the octet between
pub cut-some : (octet : ℕ) (text : List ℕ) (parts : List ℕ × List ℕ) → cut octet text ≡ Some parts → text ≡ parts.0 ++ (octet ∷ parts.1)
cut-some octet [] parts e = absurd (none-some parts e)
cut-some octet (c ∷ text) parts e =
    elim (cases_Bool (c == octet)) [
      | inl same ↦ (let found = sym (ap (λ b. if b then Some ([], text) else onto_cut c (cut octet text)) same) ∙ e in
          let these : ([], text) ≡ parts = same_Some ([], text) parts found in
          ap (λ o. o ∷ text) (eqb-true c octet same) ∙ ap (λ (p : List ℕ × List ℕ). p.0 ++ (octet ∷ p.1)) these)
      | inr other ↦ (let found = sym (ap (λ b. if b then Some ([], text) else onto_cut c (cut octet text)) other) ∙ e in
          let behind = option_map_some (λ (p : List ℕ × List ℕ). (c ∷ p.0, p.1)) (cut octet text) parts found in
          ap (λ t. c ∷ t) (cut-some octet text behind.0 behind.1) ∙ ap (λ (p : List ℕ × List ℕ). p.0 ++ (octet ∷ p.1)) behind.2)
    ]

-- A number and a letter behind it.
pub count_before-append : (letter : ℕ) (number rest : List ℕ) (n : ℕ) → 57 < letter → SpellsCount number n → count_before letter (number ++ (letter ∷ rest)) ≡ Some (n, rest)
count_before-append letter number rest n above s =
    ap (option_and_then counted) (cut-append letter number rest (lacks-count letter number n above s))
    ∙ ap (option_map (λ m. (m, rest))) (count_of-SpellsCount number n s)

pub count_before-none : (letter : ℕ) (text : List ℕ) → Lacks letter text → count_before letter text ≡ None
count_before-none letter text lacks = ap (option_and_then counted) (cut-none letter text lacks)

-- a text that begins with a number and a letter
pub record BeginsWithCount (letter : ℕ) (text : List ℕ) (n : ℕ) (rest : List ℕ) : Type 0 where
  pub number : List ℕ
  pub spells : SpellsCount number n
  pub split : text ≡ number ++ (letter ∷ rest)

pub count_before-some : (letter : ℕ) (text : List ℕ) (n : ℕ) (rest : List ℕ) → count_before letter text ≡ Some (n, rest) → BeginsWithCount letter text n rest
count_before-some letter text n rest e =
    let parts = and_then_some counted (cut letter text) (n, rest) e in
    let number = option_map_some (λ m. (m, parts.0.1)) (count_of parts.0.0) (n, rest) parts.2 in
    let is : number.0 ≡ n = ap (λ (p : ℕ × List ℕ). p.0) number.2 in
    let behind : parts.0.1 ≡ rest = ap (λ (p : ℕ × List ℕ). p.1) number.2 in
    record {
      number = parts.0.0;
      spells = SpellsCount-count_of parts.0.0 n (number.1 ∙ ap (λ m. Some m) is);
      split = cut-some letter text parts.0 parts.1 ∙ ap (λ t. parts.0.0 ++ (letter ∷ t)) behind;
    }
