-- Days of BYDAY: a weekday, or an ordinal and a weekday, and where a text is bad as the second.
-- No octet of an ordinal is above 57, and each of a weekday is.
use Rattle.std.proofs.Common.{◌≡◌, ℕ, zero, suc, ◌+◌, ◌-◌, ◌%◌, ◌^◌, ◌<◌, ◌≤◌, List, [], ◌∷◌, ◌++◌, length, take, drop, codes, Option, Some, None, ℤ, refl, sym, ap, ap₂, subst, ◌∙◌, arith, inl, inr, append_assoc}
use Rattle.std.proofs.Math.Seq.{take-append-add}
use Rattle.std.proofs.lemmas.Bool.{cases_lt}
use Rattle.std.proofs.lemmas.List.{length-append, take-append-le}
use Rattle.cal_base.specs.Texts.Text.{raised, raised_all}
use Rattle.cal_moment.specs.BadPlace.{IsIn, BeginsOne, IsBadAt}
use Rattle.cal_moment.specs.Texts.{digits, signed}
use Rattle.cal_model.specs.Values.BadValues.{Reads}
use Rattle.cal_model.specs.Values.RuleTexts.{weekdays, weekday_named, if_place, place_number}
use Rattle.cal_model.specs.Values.ValueTexts.{count_of, integer_of, is_negative}
use Rattle.cal_model.proofs.Values.CutLemmas.{option_map_some, and_then_some, SpellsCount-count_of, first_below, rest_below}
use Rattle.cal_model.proofs.Values.DayFronts.{HasRow, word_row}
use Rattle.ical_values.specs.DayForms.{Low, BeginsHigh, EndsLow, SpellsOrdinalDay}
use Rattle.ical_values.proofs.SignPlaces.{sign_case, unsigned}
use Rattle.ical_values.proofs.SignPlaces.SignCase.{has_minus, has_plus, no_sign}

-- Octets of both

abbrev pub High : List ℕ → Type 0
High [] = Unit {0}
High (c ∷ text) = (57 < c) × High text

low_take : (n : ℕ) (text : List ℕ) → Low text → Low (take n text)
low_take zero [] low = tt
low_take zero (c ∷ text) low = tt
low_take (suc n) [] low = tt
low_take (suc n) (c ∷ text) low = (low.0, low_take n text low.1)

-- low octets in front of others are those of an ordinal in front of a weekday, and perhaps more of it follow
record Front (front behind ordinal : List ℕ) (weekday : List ℕ) : Type 0 where
  more : List ℕ
  ordinal_is : ordinal ≡ front ++ more
  behind_is : behind ≡ more ++ weekday

split_low : (front behind ordinal weekday : List ℕ) → Low front → High weekday → front ++ behind ≡ ordinal ++ weekday → Front front behind ordinal weekday
split_low [] behind ordinal weekday low high e = record { more = ordinal; ordinal_is = refl; behind_is = e }
split_low (c ∷ front) behind [] [] low high e = absurd (omega (arith, ap length e))
split_low (c ∷ front) behind [] (d ∷ weekday) low high e = let same : c ≡ d = cc in absurd (omega (arith, same, low.0, high.0))
split_low (c ∷ front) behind (d ∷ ordinal) weekday low high e =
    let first : c ≡ d = cc in
    let tail : front ++ behind ≡ ordinal ++ weekday = cc in
    let rest = split_low front behind ordinal weekday low.1 high tail in
    record { more = rest.more; ordinal_is = ap₂ (λ o t. o ∷ t) (sym first) rest.ordinal_is; behind_is = rest.behind_is }

-- where a high octet follows, that is all of the ordinal
split_whole : (front behind ordinal weekday : List ℕ) → Low front → BeginsHigh behind → Low ordinal → High weekday → front ++ behind ≡ ordinal ++ weekday → (ordinal ≡ front) × (behind ≡ weekday)
split_whole [] behind [] weekday low begins low_ordinal high e = (refl, e)
split_whole [] [] (d ∷ ordinal) weekday low begins low_ordinal high e = absurd begins
split_whole [] (c ∷ behind) (d ∷ ordinal) weekday low begins low_ordinal high e = let same : c ≡ d = cc in absurd (omega (arith, same, begins, low_ordinal.0))
split_whole (c ∷ front) behind [] [] low begins low_ordinal high e = absurd (omega (arith, ap length e))
split_whole (c ∷ front) behind [] (d ∷ weekday) low begins low_ordinal high e = let same : c ≡ d = cc in absurd (omega (arith, same, low.0, high.0))
split_whole (c ∷ front) behind (d ∷ ordinal) weekday low begins low_ordinal high e =
    let first : c ≡ d = cc in
    let tail : front ++ behind ≡ ordinal ++ weekday = cc in
    let rest = split_whole front behind ordinal weekday low.1 begins low_ordinal.1 high tail in
    (ap₂ (λ o t. o ∷ t) (sym first) rest.0, rest.1)

-- Ordinals are low

digits_low : (width n : ℕ) → n < 10 ^ width → Low (digits width n)
digits_low zero n fits = tt
digits_low (suc width) n fits = let first = first_below width n fits in (omega (arith, first), digits_low width (n % 10 ^ width) (rest_below width n fits))

integer_low : (text : List ℕ) (z : ℤ) → integer_of text ≡ Some z → Low text
unfolding integer_of
integer_low text z is =
    let count = option_map_some (signed (is_negative text)) (count_of (unsigned text)) z is in
    let s = SpellsCount-count_of (unsigned text) count.0 count.1 in
    let low : Low (unsigned text) = subst Low (sym s.spelled) (digits_low s.width count.0 s.fits) in
    elim (sign_case text) [
      | has_minus rest e ↦ subst Low (sym e) (omega arith, subst (λ (t : List ℕ). Low (unsigned t)) e low)
      | has_plus rest e ↦ subst Low (sym e) (omega arith, subst (λ (t : List ℕ). Low (unsigned t)) e low)
      | no_sign size _ ↦ subst (λ (k : ℕ). Low (drop k text)) size low
    ]

place_low : (text : List ℕ) → IsIn (Reads (place_number 53)) text → Low text
place_low text is = let z = and_then_some (if_place 53) (integer_of text) is.0 is.1 in integer_low text z.0 z.1

-- Weekdays are high

raised_high : (text : List ℕ) → High (raised_all text) → High text
raised_high [] high = tt
raised_high (c ∷ text) high = (raised_above c high.0, raised_high text high.1)
  where
    raised_above : (c : ℕ) → 57 < raised c → 57 < c
    raised_above c above = grind arith

weekday_high : (text : List ℕ) → IsIn (Reads weekday_named) text → High text
weekday_high text is = by_row weekdays all_high (word_row weekdays text is.0 is.1)
  where
    AllHigh : List (List ℕ × ℕ) → Type 0
    AllHigh [] = Unit {0}
    AllHigh (row ∷ rows) = High row.0 × AllHigh rows

    by_row : (rows : List (List ℕ × ℕ)) → AllHigh rows → HasRow rows text is.0 → High text
    by_row [] all has = absurd has
    by_row (row ∷ rows) all has = elim has [ inl here ↦ raised_high text (subst High (sym here.0) all.0) | inr more ↦ by_row rows all.1 more ]

    all_high : AllHigh weekdays
    all_high = grind arith

-- An ordinal and a weekday

made : (front behind : List ℕ) → IsIn (Reads (place_number 53)) front → IsIn (Reads weekday_named) behind → IsIn SpellsOrdinalDay (front ++ behind)
made front behind ordinal weekday = (record { ordinal = ordinal.0; weekday = weekday.0 }, record { front = front; behind = behind; split = refl; ordinal = ordinal.1; weekday = weekday.1 })

monday : IsIn (Reads weekday_named) (codes "MO")
monday = (0, refl)

module _ (front behind : List ℕ) (low : Low front) where
  -- the whole of low octets is the ordinal
  parts_of_day : BeginsHigh behind → IsIn SpellsOrdinalDay (front ++ behind) → IsIn (Reads (place_number 53)) front × IsIn (Reads weekday_named) behind
  parts_of_day begins is =
      let s = is.1 in
      let same = split_whole front behind s.front s.behind low begins (place_low s.front (is.0.ordinal, s.ordinal)) (weekday_high s.behind (is.0.weekday, s.weekday)) s.split in
      ((is.0.ordinal, ap (place_number 53) (sym same.0) ∙ s.ordinal), (is.0.weekday, ap weekday_named same.1 ∙ s.weekday))

-- low octets in front of a day begin an ordinal
front_begins : (front : List ℕ) → Low front → BeginsOne SpellsOrdinalDay front → BeginsOne (Reads (place_number 53)) front
front_begins front low begins =
    let s = begins.1.1 in
    let found = split_low front begins.0 s.front s.behind low (weekday_high s.behind (begins.1.0.weekday, s.weekday)) s.split in
    (found.more, (begins.1.0.ordinal, ap (place_number 53) (sym found.ordinal_is) ∙ s.ordinal))

high_front : (m : ℕ) (behind rest : List ℕ) → 0 < m → m ≤ length behind → BeginsHigh behind → BeginsHigh (take m behind ++ rest)
high_front m [] rest some most begins = absurd begins
high_front zero (c ∷ behind) rest some most begins = absurd (omega (arith, some))
high_front (suc m) (c ∷ behind) rest some most begins = begins

-- A bad ordinal.
pub bad_ordinal : (front behind : List ℕ) (place : ℕ) → Low front → EndsLow behind → IsBadAt (Reads (place_number 53)) front place → IsBadAt SpellsOrdinalDay (front ++ behind) place
bad_ordinal front behind place low ends bad = record {
  outside = λ is. elim ends [
    | inl none ↦ (let s = is.1 in
        let found = split_low front behind s.front s.behind low (weekday_high s.behind (is.0.weekday, s.weekday)) s.split in
        no_weekday s.behind found.more (is.0.weekday, s.weekday) (sym found.behind_is ∙ none))
    | inr begins ↦ bad.outside (parts_of_day front behind low begins is).0
  ];
  within = omega (arith, bad.within, length-append front behind);
  begins = (let ordinal = take place front ++ bad.begins.0 in
      subst (λ (t : List ℕ). BeginsOne SpellsOrdinalDay t) (sym (take-append-le place front behind bad.within))
      (bad.begins.0 ++ codes "MO", subst (λ (t : List ℕ). IsIn SpellsOrdinalDay t) (append_assoc (take place front) bad.begins.0 (codes "MO")) (made ordinal (codes "MO") bad.begins.1 monday)));
  longest = λ n above most begins. elim (cases_lt (length front) n) [
    | inr within ↦ bad.longest n above within (front_begins (take n front) (low_take n front low) (subst (λ (t : List ℕ). BeginsOne SpellsOrdinalDay t) (take-append-le n front behind within) begins))
    | inl past ↦ (let m = n - length front in
        let size = length-append front behind in
        let split : take n (front ++ behind) ≡ front ++ take m behind = ap (λ k. take k (front ++ behind)) (same_number n past) ∙ take-append-add front behind m in
        let whole = subst (λ (t : List ℕ). IsIn SpellsOrdinalDay t) (ap (λ t. t ++ begins.0) split ∙ append_assoc front (take m behind) begins.0) begins.1 in
        elim ends [
          | inl none ↦ omega (arith, past, most, size, ap length none)
          | inr high ↦ bad.outside (parts_of_day front (take m behind ++ begins.0) low (high_front m behind begins.0 (omega (arith, past)) (omega (arith, most, size)) high) whole).0
        ])
  ];
}
  where
    same_number : (n : ℕ) → length front < n → n ≡ length front + (n - length front)
    same_number n past = omega (arith, past)

    no_weekday : (weekday more : List ℕ) → IsIn (Reads weekday_named) weekday → more ++ weekday ≡ [] → ⊥
    no_weekday [] more is e = none_empty (weekday_named []) refl is.1
      where
        none_empty : (o : Option ℕ) → o ≡ None → o ≡ Some is.0 → ⊥
        none_empty None n s = cc
        none_empty (Some x) n s = cc
    no_weekday (c ∷ weekday) more is e = omega (arith, ap length e, length-append more (c ∷ weekday))

-- A bad weekday behind an ordinal.
pub bad_weekday_behind : (front behind : List ℕ) (place : ℕ) → Low front → EndsLow behind → IsIn (Reads (place_number 53)) front → IsBadAt (Reads weekday_named) behind place → IsBadAt SpellsOrdinalDay (front ++ behind) (length front + place)
bad_weekday_behind front behind place low ends ordinal bad =
    let size = length-append front behind in
    record {
      outside = λ is. elim ends [
        | inl none ↦ (let s = is.1 in
            let found = split_low front behind s.front s.behind low (weekday_high s.behind (is.0.weekday, s.weekday)) s.split in
            bad.outside (is.0.weekday, ap weekday_named (only_behind found.more s.behind (sym found.behind_is ∙ none) found.behind_is) ∙ s.weekday))
        | inr begins ↦ bad.outside (parts_of_day front behind low begins is).1
      ];
      within = omega (arith, bad.within, size);
      begins = subst (λ (t : List ℕ). BeginsOne SpellsOrdinalDay t) (sym (take-append-add front behind place))
          (bad.begins.0, subst (λ (t : List ℕ). IsIn SpellsOrdinalDay t) (sym (append_assoc front (take place behind) bad.begins.0)) (made front (take place behind ++ bad.begins.0) ordinal bad.begins.1));
      longest = λ n above most begins. (let m = n - length front in
          let split : take n (front ++ behind) ≡ front ++ take m behind = ap (λ k. take k (front ++ behind)) (same_number n above) ∙ take-append-add front behind m in
          let whole = subst (λ (t : List ℕ). IsIn SpellsOrdinalDay t) (ap (λ t. t ++ begins.0) split ∙ append_assoc front (take m behind) begins.0) begins.1 in
          elim ends [
            | inl none ↦ omega (arith, above, most, size, ap length none)
            | inr high ↦ bad.longest m (omega (arith, above)) (omega (arith, most, size)) (begins.0, (parts_of_day front (take m behind ++ begins.0) low (high_front m behind begins.0 (omega (arith, above)) (omega (arith, most, size)) high) whole).1)
          ]);
    }
  where
    same_number : (n : ℕ) → length front + place < n → n ≡ length front + (n - length front)
    same_number n above = omega (arith, above)

    only_behind : (more weekday : List ℕ) → more ++ weekday ≡ [] → behind ≡ more ++ weekday → behind ≡ weekday
    only_behind [] weekday e is = is
    only_behind (c ∷ more) weekday e is = absurd (omega (arith, ap length e))
