-- Where a text leaves the words of a table: where it leaves the one along which it goes farthest.
use Rattle.std.proofs.Common.{◌≡◌, ℕ, zero, suc, ◌+◌, ◌≤◌, max, Bool, true, false, ◌==◌, if◌then◌else◌, List, [], ◌∷◌, ◌++◌, length, take, drop, find, bytes_eq, codes, Option, Some, None, option_map, option_and_then, refl, sym, ap, ap₂, subst, ◌∙◌, arith, ◌⊎◌, inl, inr}
use Rattle.std.proofs.lemmas.Bool.{cases_Bool, cases_lt, eqb-true, eq-eqb, false≢true}
use Rattle.std.proofs.lemmas.List.{take-append-drop}
use Rattle.std.proofs.lemmas.Option.{none-some}
use Rattle.cal_base.specs.Texts.Text.{raised, raised_all}
use Rattle.cal_moment.specs.BadPlace.{IsIn, BeginsOne, IsBadAt}
use Rattle.cal_model.specs.declared.rule.Freq.{Freq}
use Rattle.cal_model.specs.declared.rule.Freq.TheVariants.{Yearly}
use Rattle.cal_model.specs.Values.BadValues.{Reads}
use Rattle.cal_model.specs.Values.RuleTexts.{word_of, frequencies, freq_of, weekdays, weekday_named}
use Rattle.cal_model.proofs.Values.CutLemmas.{is_same_text, same_text}
use Rattle.cal_model.proofs.Values.DayFronts.{HasRow, word_row}
use Rattle.ical_values.specs.RuleWords.{common, most_common, words_of}

-- all words are upper case
abbrev pub AreUpper : {X : Type 0} → List (List ℕ × X) → Type 0
AreUpper {X} [] = Unit {0}
AreUpper {X} (row ∷ rows) = (raised_all row.0 ≡ row.0) × AreUpper rows

-- one of the rows
abbrev pub IsRow : {X : Type 0} → List ℕ → List (List ℕ × X) → Type 0
IsRow {X} word [] = ⊥
IsRow {X} word (row ∷ rows) = (word ≡ row.0) ⊎ IsRow word rows

-- one of the rows, with its value
abbrev IsRowOf : {X : Type 0} → List (List ℕ × X) → List ℕ → X → Type 0
IsRowOf {X} [] word x = ⊥
IsRowOf {X} (row ∷ rows) word x = ((word ≡ row.0) × (row.1 ≡ x)) ⊎ IsRowOf rows word x

upper_row : {X : Type 0} (rows : List (List ℕ × X)) (word : List ℕ) → AreUpper rows → IsRow word rows → raised_all word ≡ word
upper_row [] word upper is = absurd is
upper_row (row ∷ rows) word upper is = elim is [ inl e ↦ ap raised_all e ∙ (upper.0 ∙ sym e) | inr more ↦ upper_row rows word upper.1 more ]

-- a word of the table is read
row_read : {X : Type 0} (rows : List (List ℕ × X)) (word text : List ℕ) → IsRow word rows → raised_all text ≡ word → IsIn (Reads (word_of rows)) text
row_read [] word text is same = absurd is
row_read {X} (row ∷ rows) word text is same =
    let others = find (λ (row : List ℕ × X). bytes_eq row.0 (raised_all text)) rows in
    let by_test = λ (b : Bool). option_map (λ (row : List ℕ × X). row.1) (if b then Some row else others) in
    elim (cases_Bool (bytes_eq row.0 (raised_all text))) [
      | inl this ↦ (row.1, ap by_test this)
      | inr another ↦ elim is [
        | inl e ↦ absurd (not_both (sym another ∙ (ap (bytes_eq row.0) (same ∙ e) ∙ same_text row.0)))
        | inr more ↦ (let found = row_read rows word text more same in (found.0, ap by_test another ∙ found.1))
      ]
    ]
  where
    not_both : false ≡ true → ⊥
    not_both e = cc

-- What is common

pub common_within : (text word : List ℕ) → common text word ≤ length text
common_within [] word = omega arith
common_within (c ∷ text) [] = omega arith
common_within (c ∷ text) (d ∷ word) = guarded (c == d) (common_within text word)
  where
    guarded : (b : Bool) → common text word ≤ length text → (if b then 1 + common text word else 0) ≤ length (c ∷ text)
    guarded true within = omega (arith, within)
    guarded false within = omega arith

common_front : (text word : List ℕ) → take (common text word) text ≡ take (common text word) word
common_front [] [] = refl
common_front [] (d ∷ word) = refl
common_front (c ∷ text) [] = refl
common_front (c ∷ text) (d ∷ word) =
    elim (cases_Bool (c == d)) [
      | inl same ↦ (let is : (if c == d then 1 + common text word else 0) ≡ suc (common text word) = ap (λ b. if b then 1 + common text word else 0) same ∙ omega arith in
          subst (λ (n : ℕ). take n (c ∷ text) ≡ take n (d ∷ word)) (sym is) (ap₂ (λ a t. a ∷ t) (eqb-true c d same) (common_front text word)))
      | inr other ↦ (let is : (if c == d then 1 + common text word else 0) ≡ 0 = ap (λ b. if b then 1 + common text word else 0) other in
          subst (λ (n : ℕ). take n (c ∷ text) ≡ take n (d ∷ word)) (sym is) refl)
    ]

raised-append : (a b : List ℕ) → raised_all (a ++ b) ≡ raised_all a ++ raised_all b
raised-append [] b = refl
raised-append (c ∷ a) b = ap (λ t. raised c ∷ t) (raised-append a b)

raised-take : (n : ℕ) (text : List ℕ) → raised_all (take n text) ≡ take n (raised_all text)
raised-take zero [] = refl
raised-take zero (c ∷ text) = refl
raised-take (suc n) [] = refl
raised-take (suc n) (c ∷ text) = ap (λ t. raised c ∷ t) (raised-take n text)

raised-drop : (n : ℕ) (text : List ℕ) → raised_all (drop n text) ≡ drop n (raised_all text)
raised-drop zero text = refl
raised-drop (suc n) [] = refl
raised-drop (suc n) (c ∷ text) = raised-drop n text

length-raised : (text : List ℕ) → length (raised_all text) ≡ length text
length-raised [] = refl
length-raised (c ∷ text) = ap suc (length-raised text)

-- what is common goes on to the word
pub goes_on : (text word : List ℕ) → raised_all word ≡ word → raised_all (take (common (raised_all text) word) text ++ drop (common (raised_all text) word) word) ≡ word
goes_on text word upper =
    let n = common (raised_all text) word in
    raised-append (take n text) (drop n word)
    ∙ (ap₂ (λ a b. a ++ b) (raised-take n text ∙ common_front (raised_all text) word) (raised-drop n word ∙ ap (drop n) upper)
    ∙ take-append-drop n word)

-- a front of a word is common
pub front_common : (n : ℕ) (text rest : List ℕ) → n ≤ length text → n ≤ common (raised_all text) (raised_all (take n text ++ rest))
front_common zero text rest within = omega arith
front_common (suc n) [] rest within = absurd (omega (arith, within))
front_common (suc n) (c ∷ text) rest within =
    let more = common (raised_all text) (raised_all (take n text ++ rest)) in
    let is : (if raised c == raised c then 1 + more else 0) ≡ 1 + more = ap (λ b. if b then 1 + more else 0) (eq-eqb (raised c) (raised c) refl) in
    omega (arith, is, front_common n text rest (omega (arith, within)))

-- the row along which a text goes farthest
farthest : {X : Type 0} (rows : List (List ℕ × X)) (word text : List ℕ) → IsRow word rows → (far : List ℕ) × IsRow far rows × (common text far ≡ most_common rows text)
farthest [] word text is = absurd is
farthest (row ∷ []) word text is = (row.0, inl refl, omega arith)
farthest (row ∷ next ∷ rows) word text is =
    let rest = farthest (next ∷ rows) next.0 text (inl refl) in
    elim (cases_lt (common text row.0) (most_common (next ∷ rows) text)) [
      | inl less ↦ (rest.0, inr rest.1, omega (arith, rest.2, less))
      | inr most ↦ (row.0, inl refl, omega (arith, most))
    ]

row_common : {X : Type 0} (rows : List (List ℕ × X)) (n : ℕ) (text rest : List ℕ) (x : X) → n ≤ length text → HasRow rows (take n text ++ rest) x → n ≤ most_common rows (raised_all text)
row_common [] n text rest x within has = absurd has
row_common (row ∷ rows) n text rest x within has =
    elim has [
      | inl is ↦ (let here : n ≤ common (raised_all text) row.0 = subst (λ (word : List ℕ). n ≤ common (raised_all text) word) is.0 (front_common n text rest within) in omega (arith, here))
      | inr more ↦ omega (arith, row_common rows n text rest x within more)
    ]

most_within : {X : Type 0} (rows : List (List ℕ × X)) (text : List ℕ) → most_common rows text ≤ length text
most_within [] text = omega arith
most_within (row ∷ rows) text = omega (arith, common_within text row.0, most_within rows text)

-- A text that is no word of a table is bad where it leaves the word along which it goes farthest.
pub bad_word : {X : Type 0} (table : List (List ℕ × X)) (word text : List ℕ) → IsRow word table → AreUpper table → word_of table text ≡ None → IsBadAt (Reads (word_of table)) text (most_common table (raised_all text))
bad_word {X} table word text some upper none =
    let far = farthest table word (raised_all text) some in
    let n = common (raised_all text) far.0 in
    let made = goes_on text far.0 (upper_row table far.0 upper far.1) in
    let read = row_read table far.0 (take n text ++ drop n far.0) far.1 made in
    record {
      outside = λ is. none-some is.0 (sym none ∙ is.1);
      within = omega (arith, most_within table (raised_all text), length-raised text);
      begins = subst (λ (k : ℕ). BeginsOne (Reads (word_of table)) (take k text)) far.2 (drop n far.0, read);
      longest = λ k above most begins. omega (arith, above, row_common table k text begins.0 begins.1.0 most (word_row table (take k text ++ begins.0) begins.1.0 begins.1.1));
    }

weekdays_upper : AreUpper weekdays
weekdays_upper = (refl, (refl, (refl, (refl, (refl, (refl, (refl, tt)))))))

pub bad_weekday : (text : List ℕ) → weekday_named text ≡ None → IsBadAt (Reads weekday_named) text (most_common weekdays (raised_all text))
bad_weekday text none = bad_word weekdays (codes "MO") text (inl refl) weekdays_upper none

-- Texts that are no word

-- the text is none of the words
abbrev AreNone : {X : Type 0} → List ℕ → List (List ℕ × X) → Type 0
AreNone {X} word [] = Unit {0}
AreNone {X} word (row ∷ rows) = (bytes_eq word row.0 ≡ false) × AreNone word rows

other_way : (word other : List ℕ) → bytes_eq word other ≡ false → bytes_eq other word ≡ false
other_way word other e =
    elim (cases_Bool (bytes_eq other word)) [
      | inl same ↦ absurd (false≢true (sym e ∙ (ap (λ t. bytes_eq t other) (sym (is_same_text other word same)) ∙ same_text other)))
      | inr differs ↦ differs
    ]

no_word : {X : Type 0} (rows : List (List ℕ × X)) (text : List ℕ) → AreNone (raised_all text) rows → word_of rows text ≡ None
no_word [] text none = refl
no_word {X} (row ∷ rows) text none =
    ap (λ b. option_map (λ (row : List ℕ × X). row.1) (if b then Some row else find (λ (row : List ℕ × X). bytes_eq row.0 (raised_all text)) rows)) (other_way (raised_all text) row.0 none.0) ∙ no_word rows text none.1

pub no_weekday : (text : List ℕ) → bytes_eq (raised_all text) (codes "MO") ≡ false → bytes_eq (raised_all text) (codes "TU") ≡ false → bytes_eq (raised_all text) (codes "WE") ≡ false → bytes_eq (raised_all text) (codes "TH") ≡ false → bytes_eq (raised_all text) (codes "FR") ≡ false → bytes_eq (raised_all text) (codes "SA") ≡ false → bytes_eq (raised_all text) (codes "SU") ≡ false → weekday_named text ≡ None
no_weekday text mo tu we th fr sa su = no_word weekdays text (mo, (tu, (we, (th, (fr, (sa, (su, tt)))))))

pub no_frequency : (text : List ℕ) → bytes_eq (raised_all text) (codes "SECONDLY") ≡ false → bytes_eq (raised_all text) (codes "MINUTELY") ≡ false → bytes_eq (raised_all text) (codes "HOURLY") ≡ false → bytes_eq (raised_all text) (codes "DAILY") ≡ false → bytes_eq (raised_all text) (codes "WEEKLY") ≡ false → bytes_eq (raised_all text) (codes "MONTHLY") ≡ false → bytes_eq (raised_all text) (codes "YEARLY") ≡ false → freq_of text ≡ None
no_frequency text a b c d e f g = no_word frequencies text (a, (b, (c, (d, (e, (f, (g, tt)))))))

-- The words of a table that are kept

-- no word stands twice
abbrev pub AreApart : {X : Type 0} → List (List ℕ × X) → Type 0
AreApart {X} [] = Unit {0}
AreApart {X} (row ∷ rows) = (find (λ (other : List ℕ × X). bytes_eq other.0 row.0) rows ≡ None) × AreApart rows

kept_find : {X : Type 0} (keep : X → Bool) (rows : List (List ℕ × X)) (word : List ℕ) → find (λ (other : List ℕ × X). bytes_eq other.0 word) rows ≡ None → find (λ (other : List ℕ × X). bytes_eq other.0 word) (words_of keep rows) ≡ None
kept_find keep [] word none = none
kept_find {X} keep (row ∷ rows) word none =
    let test = λ (other : List ℕ × X). bytes_eq other.0 word in
    elim (cases_Bool (bytes_eq row.0 word)) [
      | inl this ↦ absurd (none-some row (sym none ∙ ap (λ b. if b then Some row else find test rows) this))
      | inr another ↦ (let rest = kept_find keep rows word (sym (ap (λ b. if b then Some row else find test rows) another) ∙ none) in
          elim (cases_Bool (keep row.1)) [
            | inl kept ↦ ap (λ b. find test (if b then row ∷ words_of keep rows else words_of keep rows)) kept ∙ (ap (λ b. if b then Some row else find test (words_of keep rows)) another ∙ rest)
            | inr left ↦ ap (λ b. find test (if b then row ∷ words_of keep rows else words_of keep rows)) left ∙ rest
          ])
    ]

-- A word is a kept one if it is one and is kept.
pub kept_word : {X : Type 0} (keep : X → Bool) (rows : List (List ℕ × X)) (text : List ℕ) → AreApart rows → word_of (words_of keep rows) text ≡ option_and_then (λ x. if keep x then Some x else None) (word_of rows text)
kept_word keep [] text apart = refl
kept_word {X} keep (row ∷ rows) text apart =
    let test = λ (other : List ℕ × X). bytes_eq other.0 (raised_all text) in
    let kept_rows = words_of keep rows in
    let chain = λ (o : Option X). option_and_then (λ x. if keep x then Some x else None) o in
    elim (cases_Bool (bytes_eq row.0 (raised_all text))) [
      | inl this ↦ (let none = kept_find keep rows (raised_all text) (ap (λ w. find (λ (other : List ℕ × X). bytes_eq other.0 w) rows) (sym (is_same_text row.0 (raised_all text) this)) ∙ apart.0) in
          elim (cases_Bool (keep row.1)) [
            | inl kept ↦ ap (λ b. option_map (λ (r : List ℕ × X). r.1) (find test (if b then row ∷ kept_rows else kept_rows))) kept
                ∙ (ap (λ b. option_map (λ (r : List ℕ × X). r.1) (if b then Some row else find test kept_rows)) this
                ∙ sym (ap (λ b. chain (option_map (λ (r : List ℕ × X). r.1) (if b then Some row else find test rows))) this ∙ ap (λ b. if b then Some row.1 else None) kept))
            | inr left ↦ ap (λ b. option_map (λ (r : List ℕ × X). r.1) (find test (if b then row ∷ kept_rows else kept_rows))) left
                ∙ (ap (option_map (λ (r : List ℕ × X). r.1)) none
                ∙ sym (ap (λ b. chain (option_map (λ (r : List ℕ × X). r.1) (if b then Some row else find test rows))) this ∙ ap (λ b. if b then Some row.1 else None) left))
          ])
      | inr another ↦ (let rest = kept_word keep rows text apart.1 in
          let whole = sym (ap (λ b. chain (option_map (λ (r : List ℕ × X). r.1) (if b then Some row else find test rows))) another) in
          elim (cases_Bool (keep row.1)) [
            | inl kept ↦ ap (λ b. option_map (λ (r : List ℕ × X). r.1) (find test (if b then row ∷ kept_rows else kept_rows))) kept
                ∙ (ap (λ b. option_map (λ (r : List ℕ × X). r.1) (if b then Some row else find test kept_rows)) another ∙ (rest ∙ whole))
            | inr left ↦ ap (λ b. option_map (λ (r : List ℕ × X). r.1) (find test (if b then row ∷ kept_rows else kept_rows))) left ∙ (rest ∙ whole)
          ])
    ]

pub kept_most : {X : Type 0} (keep : X → Bool) (row : List ℕ × X) (rows : List (List ℕ × X)) (text : List ℕ) → most_common (words_of keep (row ∷ rows)) text ≡ max (if keep row.1 then common text row.0 else 0) (most_common (words_of keep rows) text)
kept_most keep row rows text =
    elim (cases_Bool (keep row.1)) [
      | inl kept ↦ ap (λ b. most_common (if b then row ∷ words_of keep rows else words_of keep rows) text) kept ∙ sym (ap (λ b. max (if b then common text row.0 else 0) (most_common (words_of keep rows) text)) kept)
      | inr left ↦ (let most = most_common (words_of keep rows) text in
          let none : most ≡ max 0 most = omega arith in
          ap (λ b. most_common (if b then row ∷ words_of keep rows else words_of keep rows) text) left ∙ (none ∙ sym (ap (λ b. max (if b then common text row.0 else 0) most) left)))
    ]

kept_upper : {X : Type 0} (keep : X → Bool) (rows : List (List ℕ × X)) → AreUpper rows → AreUpper (words_of keep rows)
kept_upper keep [] upper = tt
kept_upper {X} keep (row ∷ rows) upper =
    elim (cases_Bool (keep row.1)) [
      | inl kept ↦ subst AreUpper (sym (ap (λ b. if b then row ∷ words_of keep rows else words_of keep rows) kept)) (upper.0, kept_upper keep rows upper.1)
      | inr left ↦ subst AreUpper (sym (ap (λ b. if b then row ∷ words_of keep rows else words_of keep rows) left)) (kept_upper keep rows upper.1)
    ]

-- Frequencies

frequencies_upper : AreUpper frequencies
frequencies_upper = (refl, (refl, (refl, (refl, (refl, (refl, (refl, tt)))))))

pub frequencies_apart : AreApart frequencies
frequencies_apart = (refl, (refl, (refl, (refl, (refl, (refl, (refl, tt)))))))

-- a word whose value is kept
kept_row : {X : Type 0} (keep : X → Bool) (rows : List (List ℕ × X)) (word : List ℕ) (x : X) → keep x ≡ true → IsRowOf rows word x → IsRow word (words_of keep rows)
kept_row keep [] word x kept is = absurd is
kept_row {X} keep (row ∷ rows) word x kept is =
    elim is [
      | inl here ↦ subst (IsRow word) (sym (ap (λ b. if b then row ∷ words_of keep rows else words_of keep rows) (ap keep here.1 ∙ kept))) (inl here.0)
      | inr more ↦ onto (keep row.1) (kept_row keep rows word x kept more)
    ]
  where
    onto : (b : Bool) → IsRow word (words_of keep rows) → IsRow word (if b then row ∷ words_of keep rows else words_of keep rows)
    onto true there = inr there
    onto false there = there

pub bad_frequency : (keep : Freq → Bool) (text : List ℕ) → keep Yearly ≡ true → word_of (words_of keep frequencies) text ≡ None → IsBadAt (Reads (word_of (words_of keep frequencies))) text (most_common (words_of keep frequencies) (raised_all text))
bad_frequency keep text yearly none = bad_word (words_of keep frequencies) (codes "YEARLY") text (kept_row keep frequencies (codes "YEARLY") Yearly yearly (inr (inr (inr (inr (inr (inr (inl (refl, refl))))))))) (kept_upper keep frequencies frequencies_upper) none
