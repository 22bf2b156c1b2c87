-- Where the numbers of rules are bad: where their digits are, behind their sign.
use Rattle.std.proofs.Common.{◌≡◌, ℕ, zero, suc, ◌+◌, ◌-◌, ◌/◌, ◌^◌, ◌<◌, ◌≤◌, Bool, true, false, ◌&&◌, ◌||◌, ◌==◌, nat_le, if◌then◌else◌, List, [], ◌∷◌, ◌++◌, length, take, drop, Option, Some, None, option_map, option_and_then, refl, sym, ap, ap₂, subst, ◌∙◌, arith, inl, inr}
use Rattle.std.proofs.lemmas.Bool.{cases_Bool, false≢true, eqb-true, le-leb, leb-true, ne_eqb}
use Rattle.std.proofs.lemmas.Option.{none-some}
use Rattle.cal_moment.specs.BadPlace.{IsIn, BeginsOne, IsBadAt}
use Rattle.cal_moment.specs.Texts.{digits, signed}
use Rattle.cal_model.specs.Values.BadValues.{Reads}
use Rattle.cal_model.specs.Values.RuleTexts.{if_between, number_of, if_place, place_number}
use Rattle.cal_model.specs.Values.ValueTexts.{count_of, integer_of, is_negative, sign_length}
use Rattle.cal_model.proofs.Values.CutLemmas.{option_map_some, and_then_some, SpellsCount-count_of}
use Rattle.cal_model.proofs.Values.NumberFronts.{abs-signed}
use Rattle.ical_values.specs.RuleNumbers.{if_within, count_within}
use Rattle.ical_values.proofs.CountPlaces.{digits_begin}

-- the texts that a function reads are those that another reads
abbrev pub Same : {V W : Type 0} → (List ℕ → Option V) → (List ℕ → Option W) → List ℕ → List ℕ → Type 0
Same {V} {W} read other text rest = (IsIn (Reads read) text → IsIn (Reads other) rest) × (IsIn (Reads other) rest → IsIn (Reads read) text)

-- the digits of a text
abbrev pub unsigned : List ℕ → List ℕ
unsigned text = drop (sign_length text) text

-- Behind a sign

-- What stands behind an octet is bad at a place behind it.
pub bad_behind_octet : {V W : Type 0} (read : List ℕ → Option V) (other : List ℕ → Option W) (c : ℕ) → ((rest : List ℕ) → Same read other (c ∷ rest) rest) → (rest : List ℕ) (place : ℕ) → IsBadAt (Reads other) rest place → IsBadAt (Reads read) (c ∷ rest) (suc place)
bad_behind_octet {V} {W} read other c same rest place bad = record {
  outside = λ is. bad.outside ((same rest).0 is);
  within = omega (arith, bad.within);
  begins = (bad.begins.0, (same (take place rest ++ bad.begins.0)).1 bad.begins.1);
  longest = λ n above most begins. longer n above most begins;
}
  where
    longer : (n : ℕ) → suc place < n → n ≤ length (c ∷ rest) → BeginsOne (Reads read) (take n (c ∷ rest)) → ⊥
    longer zero above most begins = omega (arith, above)
    longer (suc n) above most begins = bad.longest n (omega (arith, above)) (omega (arith, most)) (begins.0, (same (take n rest ++ begins.0)).0 begins.1)

-- Where there is no sign, the digits are the text.
pub bad_without_sign : {V W : Type 0} (read : List ℕ → Option V) (other : List ℕ → Option W) → ((text : List ℕ) → sign_length text ≡ 0 → Same read other text text) → ((text : List ℕ) → IsIn (Reads other) text → sign_length text ≡ 0) → (text : List ℕ) (place : ℕ) → sign_length text ≡ 0 → IsBadAt (Reads other) text place → IsBadAt (Reads read) text place
bad_without_sign {V} {W} read other same plain text place none bad = record {
  outside = λ is. bad.outside ((same text none).0 is);
  within = bad.within;
  begins = (let whole = take place text ++ bad.begins.0 in (bad.begins.0, (same whole (plain whole bad.begins.1)).1 bad.begins.1));
  longest = λ n above most begins. longer text n none above most begins bad;
}
  where
    longer : (text : List ℕ) (n : ℕ) → sign_length text ≡ 0 → place < n → n ≤ length text → BeginsOne (Reads read) (take n text) → IsBadAt (Reads other) text place → ⊥
    longer [] n none above most begins bad = omega (arith, above, most)
    longer (c ∷ text) zero none above most begins bad = omega (arith, above)
    longer (c ∷ text) (suc n) none above most begins bad = bad.longest (suc n) above most (begins.0, (same (take (suc n) (c ∷ text) ++ begins.0) none).0 begins.1)

-- Chains of options

chained : {X Y Z : Type 0} (f : Y → Option Z) (g : X → Y) (o : Option X) → option_and_then f (option_map g o) ≡ option_and_then (λ x. f (g x)) o
chained f g None = refl
chained f g (Some x) = refl

chained_same : {X Z : Type 0} (f g : X → Option Z) → ((x : X) → f x ≡ g x) → (o : Option X) → option_and_then f o ≡ option_and_then g o
chained_same f g same None = refl
chained_same f g same (Some x) = same x

chained_map : {X Y Z : Type 0} (f : X → Option Y) (g : Y → Z) (o : Option X) → option_and_then (λ x. option_map g (f x)) o ≡ option_map g (option_and_then f o)
chained_map f g None = refl
chained_map f g (Some x) = refl

chained_none : {X Z : Type 0} (f : X → Option Z) → ((x : X) → f x ≡ None) → (o : Option X) → option_and_then f o ≡ None
chained_none f none None = refl
chained_none f none (Some x) = none x

-- Numbers

integer_is : (text : List ℕ) → integer_of text ≡ option_map (signed (is_negative text)) (count_of (unsigned text))
unfolding integer_of
integer_is text = refl

number_is : (low high : ℕ) (text : List ℕ) → number_of low high text ≡ option_and_then (λ n. if_between low high (signed (is_negative text) n)) (count_of (unsigned text))
number_is low high text = ap (option_and_then (if_between low high)) (integer_is text) ∙ chained (if_between low high) (signed (is_negative text)) (count_of (unsigned text))

pub number_plain : (low high : ℕ) (text : List ℕ) → is_negative text ≡ false → number_of low high text ≡ count_within low high (unsigned text)
number_plain low high text plus =
    number_is low high text ∙ ap (λ b. option_and_then (λ n. if_between low high (signed b n)) (count_of (unsigned text))) plus

minus_zero : (high n : ℕ) → if_between 0 high (signed true n) ≡ if_within 0 0 n
minus_zero high zero = ap (λ b. if b then Some 0 else None) (le-leb 0 high (omega arith))
minus_zero high (suc n) =
    elim (cases_Bool (nat_le (suc n) 0)) [
      | inl le ↦ absurd (omega (arith, leb-true (suc n) 0 le))
      | inr more ↦ sym (ap (λ b. if nat_le 0 (suc n) && b then Some (suc n) else None) more ∙ neither (nat_le 0 (suc n)))
    ]
  where
    neither : (b : Bool) → (if b && false then Some (suc n) else None) ≡ None
    neither true = refl
    neither false = refl

minus_none : (low high n : ℕ) → 1 ≤ low → if_between low high (signed true n) ≡ None
minus_none zero high n some = absurd (omega (arith, some))
minus_none (suc low) high zero some =
    elim (cases_Bool (nat_le (suc low) 0)) [
      | inl le ↦ absurd (omega (arith, leb-true (suc low) 0 le))
      | inr less ↦ ap (λ b. if b && nat_le 0 high then Some 0 else None) less
    ]
minus_none (suc low) high (suc n) some = refl

pub number_minus : (low high : ℕ) (text : List ℕ) → is_negative text ≡ true → low ≡ 0 → number_of low high text ≡ count_within 0 0 (unsigned text)
number_minus low high text minus none =
    ap (λ k. number_of k high text) none ∙ (number_is 0 high text
    ∙ (ap (λ b. option_and_then (λ n. if_between 0 high (signed b n)) (count_of (unsigned text))) minus
    ∙ chained_same (λ n. if_between 0 high (signed true n)) (if_within 0 0) (minus_zero high) (count_of (unsigned text))))

pub number_none : (low high : ℕ) (text : List ℕ) → is_negative text ≡ true → 1 ≤ low → number_of low high text ≡ None
number_none low high text minus some =
    number_is low high text
    ∙ (ap (λ b. option_and_then (λ n. if_between low high (signed b n)) (count_of (unsigned text))) minus
    ∙ chained_none (λ n. if_between low high (signed true n)) (λ n. minus_none low high n some) (count_of (unsigned text)))

if_place_is : (most : ℕ) (negative : Bool) (n : ℕ) → if_place most (signed negative n) ≡ option_map (signed negative) (if_within 1 most n)
if_place_is most negative n =
    ap (λ k. if nat_le 1 k && nat_le k most then Some (signed negative n) else None) (abs-signed negative n) ∙ guarded (nat_le 1 n && nat_le n most)
  where
    guarded : (b : Bool) → (if b then Some (signed negative n) else None) ≡ option_map (signed negative) (if b then Some n else None)
    guarded true = refl
    guarded false = refl

pub place_is : (most : ℕ) (text : List ℕ) → place_number most text ≡ option_map (signed (is_negative text)) (count_within 1 most (unsigned text))
place_is most text =
    let sign = signed (is_negative text) in
    ap (option_and_then (if_place most)) (integer_is text)
    ∙ (chained (if_place most) sign (count_of (unsigned text))
    ∙ (chained_same (λ n. if_place most (sign n)) (λ n. option_map sign (if_within 1 most n)) (if_place_is most (is_negative text)) (count_of (unsigned text))
    ∙ chained_map (if_within 1 most) sign (count_of (unsigned text))))

-- Fronts of both

-- a text begins with a minus, with a plus, or with no sign
pub data SignCase (text : List ℕ) : Type 0 where
  has_minus : (rest : List ℕ) → text ≡ 45 ∷ rest → SignCase text
  has_plus : (rest : List ℕ) → text ≡ 43 ∷ rest → SignCase text
  no_sign : sign_length text ≡ 0 → is_negative text ≡ false → SignCase text

pub sign_case : (text : List ℕ) → SignCase text
sign_case [] = no_sign refl refl
sign_case (c ∷ text) =
    elim (cases_Bool (c == 45)) [
      | inl is_minus ↦ has_minus text (ap (λ o. o ∷ text) (eqb-true c 45 is_minus))
      | inr no_minus ↦ elim (cases_Bool (c == 43)) [
        | inl is_plus ↦ has_plus text (ap (λ o. o ∷ text) (eqb-true c 43 is_plus))
        | inr no_plus ↦ no_sign (ap₂ (λ a b. if a || b then 1 else 0) no_plus no_minus) (ap (λ b. b && true) no_minus)
      ]
    ]

without_minus : (text : List ℕ) → sign_length text ≡ 0 → is_negative text ≡ false
without_minus text e =
    elim (sign_case text) [
      | has_minus rest is ↦ absurd (omega (arith, e, ap sign_length is))
      | has_plus rest is ↦ ap is_negative is
      | no_sign size plain ↦ plain
    ]

-- digits have no sign
pub digits_plain : (low high : ℕ) (text : List ℕ) → IsIn (Reads (count_within low high)) text → sign_length text ≡ 0
digits_plain low high text is =
    let count = and_then_some (if_within low high) (count_of text) is.0 is.1 in
    let s = SpellsCount-count_of text count.0 count.1 in
    ap sign_length s.spelled ∙ plain s.width count.0 s.some
  where
    plain : (width n : ℕ) → 1 ≤ width → sign_length (digits width n) ≡ 0
    plain zero n some = absurd (omega (arith, some))
    plain (suc width) n some = ap₂ (λ a b. if a || b then 1 else 0) (ne_eqb (48 + n / 10 ^ width) 43 (λ e. omega (arith, e))) (ne_eqb (48 + n / 10 ^ width) 45 (λ e. omega (arith, e)))

-- What is read of a text as of its digits is bad where the digits are.
pub bad_signed : {V W : Type 0} (read : List ℕ → Option V) (other : List ℕ → Option W) (negative : Bool)
    → ((text : List ℕ) → is_negative text ≡ negative → Same read other text (unsigned text)) → ((text : List ℕ) → IsIn (Reads other) text → sign_length text ≡ 0)
    → (text : List ℕ) (place : ℕ) → is_negative text ≡ negative → IsBadAt (Reads other) (unsigned text) place → IsBadAt (Reads read) text (sign_length text + place)
bad_signed {V} {W} read other negative same plain text place sign bad =
    elim (sign_case text) [
      | has_minus rest is ↦ behind 45 rest is (λ more. same (45 ∷ more) (sym (ap is_negative is) ∙ sign)) (subst (λ (t : List ℕ). IsBadAt (Reads other) (unsigned t) place) is bad) refl
      | has_plus rest is ↦ behind 43 rest is (λ more. same (43 ∷ more) (sym (ap is_negative is) ∙ sign)) (subst (λ (t : List ℕ). IsBadAt (Reads other) (unsigned t) place) is bad) refl
      | no_sign size no_minus ↦ (let here : IsBadAt (Reads other) text place = subst (λ (k : ℕ). IsBadAt (Reads other) (drop k text) place) size bad in
          let found = bad_without_sign read other (λ t e. subst (λ (k : ℕ). Same read other t (drop k t)) e (same t (without_minus t e ∙ (sym no_minus ∙ sign)))) plain text place size here in
          let there : place ≡ sign_length text + place = omega (arith, size) in
          subst (IsBadAt (Reads read) text) there found)
    ]
  where
    behind : (c : ℕ) (rest : List ℕ) → text ≡ c ∷ rest → ((more : List ℕ) → Same read other (c ∷ more) more) → IsBadAt (Reads other) rest place → sign_length (c ∷ rest) ≡ 1 → IsBadAt (Reads read) text (sign_length text + place)
    behind c rest is those below size =
        let found = bad_behind_octet read other c those rest place below in
        let there : suc place ≡ sign_length text + place = omega (arith, ap sign_length is, size) in
        subst (IsBadAt (Reads read) text) there (subst (λ (t : List ℕ). IsBadAt (Reads read) t (suc place)) (sym is) found)

same_by : {V : Type 0} (read other : List ℕ → Option V) (text rest : List ℕ) → read text ≡ other rest → Same read other text rest
same_by read other text rest e = (λ is. (is.0, sym e ∙ is.1), λ is. (is.0, e ∙ is.1))

same_by_map : {V W : Type 0} (f : W → V) (read : List ℕ → Option V) (other : List ℕ → Option W) (text rest : List ℕ) → read text ≡ option_map f (other rest) → Same read other text rest
same_by_map {V} {W} f read other text rest e =
    (λ is. (let found = option_map_some f (other rest) is.0 (sym e ∙ is.1) in (found.0, found.1)), λ is. (f is.0, e ∙ ap (option_map f) is.1))

pub bad_plain : (low high : ℕ) (text : List ℕ) (place : ℕ) → is_negative text ≡ false → IsBadAt (Reads (count_within low high)) (unsigned text) place → IsBadAt (Reads (number_of low high)) text (sign_length text + place)
bad_plain low high = bad_signed (number_of low high) (count_within low high) false (λ text plus. same_by (number_of low high) (count_within low high) text (unsigned text) (number_plain low high text plus)) (digits_plain low high)

pub bad_zero : (low high : ℕ) (text : List ℕ) (place : ℕ) → low ≡ 0 → is_negative text ≡ true → IsBadAt (Reads (count_within 0 0)) (unsigned text) place → IsBadAt (Reads (number_of low high)) text (sign_length text + place)
bad_zero low high text place nothing = bad_signed (number_of low high) (count_within 0 0) true (λ text minus. same_by (number_of low high) (count_within 0 0) text (unsigned text) (number_minus low high text minus nothing)) (digits_plain 0 0) text place

pub bad_place : (most : ℕ) (text : List ℕ) (place : ℕ) → IsBadAt (Reads (count_within 1 most)) (unsigned text) place → IsBadAt (Reads (place_number most)) text (sign_length text + place)
bad_place most text place = bad_signed (place_number most) (count_within 1 most) (is_negative text) (λ t _. same_by_map (signed (is_negative t)) (place_number most) (count_within 1 most) t (unsigned t) (place_is most t)) (digits_plain 1 most) text place refl

-- a minus before numbers from 1 on
pub bad_minus_sign : (low high : ℕ) (text : List ℕ) → low ≡ 1 → 1 ≤ high → is_negative text ≡ true → IsBadAt (Reads (number_of low high)) text 0
bad_minus_sign low high text one most minus =
    let some : 1 ≤ low = omega (arith, one) in
    let begun = digits_begin low high 0 0 (omega (arith, one)) (omega (arith, one, most)) (record { fits = omega arith; most = omega arith; width_in = omega arith; alive = inr (omega arith) }) in
    let plain = digits_plain low high begun.0 begun.1 in
    let read : number_of low high begun.0 ≡ Some begun.1.0 = number_plain low high begun.0 (without_minus begun.0 plain) ∙ (ap (λ k. count_within low high (drop k begun.0)) plain ∙ begun.1.1) in
    record {
      outside = λ is. none-some is.0 (sym (number_none low high text minus some) ∙ is.1);
      within = omega arith;
      begins = (begun.0, (begun.1.0, ap (number_of low high) (nothing text begun.0) ∙ read));
      longest = λ n above most begins. none-some begins.1.0 (sym (number_none low high (take n text ++ begins.0) (still_minus text begins.0 n above minus) some) ∙ begins.1.1);
    }
  where
    nothing : (text rest : List ℕ) → take 0 text ++ rest ≡ rest
    nothing [] rest = refl
    nothing (c ∷ text) rest = refl

    still_minus : (text rest : List ℕ) (n : ℕ) → 0 < n → is_negative text ≡ true → is_negative (take n text ++ rest) ≡ true
    still_minus [] rest n some minus = absurd (false≢true minus)
    still_minus (c ∷ text) rest zero some minus = absurd (omega (arith, some))
    still_minus (c ∷ text) rest (suc n) some minus = minus

-- how many octets the sign has
pub sign_size : (text : List ℕ) → length text - length (unsigned text) ≡ sign_length text
sign_size text =
    elim (sign_case text) [
      | has_minus rest is ↦ ap (λ t. length t - length (unsigned t)) is ∙ (one rest ∙ sym (ap sign_length is))
      | has_plus rest is ↦ ap (λ t. length t - length (unsigned t)) is ∙ (one rest ∙ sym (ap sign_length is))
      | no_sign size _ ↦ (let same : length (unsigned text) ≡ length text = ap (λ k. length (drop k text)) size in omega (arith, same, size))
    ]
  where
    one : (rest : List ℕ) → suc (length rest) - length rest ≡ 1
    one rest = omega arith
