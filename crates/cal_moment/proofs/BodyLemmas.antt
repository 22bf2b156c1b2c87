-- Where the text behind the P of a length stops.
use Rattle.std.proofs.Common.{◌≡◌, ◌≢◌, ℕ, ◌*◌, ◌⊎◌, inl, inr, List, [], ◌∷◌, ◌++◌, refl, sym, ap, ◌∙◌, arith}
use Rattle.cal_moment.specs.BadPlace.{IsIn}
use Rattle.cal_moment.specs.LengthPieces.{IsBody, IsLongestCount, SpellsBehindDays}
use Rattle.cal_moment.specs.LengthTexts.{SpellsBody, SpellsCount, SpellsTimes}
use Rattle.cal_moment.specs.LengthTexts.SpellsBody.{weeks, days_alone, times_alone, days_and_times}
use Rattle.cal_moment.specs.Stops.{BeginsWithNo, BeginsWithNoDigit, Stops}
use Rattle.cal_moment.proofs.CountLemmas.{BeginsWithLetter, WithCount, counts_then, stops_behind_count, stops_no_count, with_count_digit}
use Rattle.cal_moment.proofs.PartLemmas.{no_alike, not_empty_alike, one_times}
use Rattle.cal_moment.proofs.StopsLemmas.{stops_after, stops_end, stops_here, stops_same, stops_wider}

-- what stands behind a first number: W, or D and perhaps times
abbrev BodyBehind : ℕ → List ℕ → ℕ → ℕ → Type 0
BodyBehind n rest days seconds =
    ((rest ≡ 87 ∷ []) × (days ≡ 7 * n) × (seconds ≡ 0)) ⊎ ((behind : List ℕ) × (rest ≡ 68 ∷ behind) × (days ≡ n) × SpellsBehindDays behind seconds)

abbrev Behind : ℕ → List ℕ → Type 0
Behind n rest = (days seconds : ℕ) × BodyBehind n rest days seconds

pub record Counted (text : List ℕ) (days seconds : ℕ) : Type 0 where
  pub number : List ℕ
  pub n : ℕ
  pub rest : List ℕ
  pub count : SpellsCount number n
  pub behind : BodyBehind n rest days seconds
  pub split : text ≡ number ++ rest

-- T and times, or a number first
body_form : (text : List ℕ) (days seconds : ℕ) → SpellsBody text days seconds → ((times : List ℕ) × SpellsTimes times seconds × (text ≡ 84 ∷ times) × (days ≡ 0)) ⊎ Counted text days seconds
body_form text days seconds (weeks number n count e d s) =
    inr (record { number = number; n = n; rest = 87 ∷ []; count = count; behind = inl (refl, d, s); split = e })
body_form text days seconds (days_alone number count e s) =
    inr (record { number = number; n = days; rest = 68 ∷ []; count = count; behind = inr ([], refl, refl, inl (refl, s)); split = e })
body_form text days seconds (times_alone times h e d) = inl (times, h, e, d)
body_form text days seconds (days_and_times number times count h e) =
    inr (record { number = number; n = days; rest = 68 ∷ 84 ∷ times; count = count; behind = inr (84 ∷ times, refl, refl, inr (times, h, refl)); split = e })

pub counted_body : (number : List ℕ) (n : ℕ) (rest : List ℕ) (days seconds : ℕ) → SpellsCount number n → BodyBehind n rest days seconds → SpellsBody (number ++ rest) days seconds
counted_body number n rest days seconds count behind =
    elim behind [
      | inl week ↦ weeks number n count (ap (λ t. number ++ t) week.0) week.1 week.2
      | inr day ↦ (let same = rw (← day.2) at count in
          elim day.3 [
            | inl none ↦ days_alone number same (ap (λ t. number ++ t) (day.1 ∙ ap (λ t. 68 ∷ t) none.0)) none.1
            | inr times ↦ days_and_times number times.0 same times.1 (ap (λ t. number ++ t) (day.1 ∙ ap (λ t. 68 ∷ t) times.2))
          ])
    ]

letters : (n : ℕ) (text : List ℕ) → Behind n text → BeginsWithLetter text
letters n text h =
    elim h.2 [
      | inl week ↦ record { octet = 87; rest = []; above = omega arith; split = week.0 }
      | inr day ↦ record { octet = 68; rest = day.0; above = omega arith; split = day.1 }
    ]

with_count : (text : List ℕ) (days seconds : ℕ) → Counted text days seconds → WithCount Behind text
with_count text days seconds w =
    record { number = w.number; n = w.n; rest = w.rest; spells = w.count; behind = (days, seconds, w.behind); split = w.split }

from_count : (text : List ℕ) → WithCount Behind text → IsBody text
from_count text w = (w.behind.0, w.behind.1, rw w.split (counted_body w.number w.n w.rest w.behind.0 w.behind.1 w.spells w.behind.2))

-- a text without T at its front stops where its number does
counted_stops : (text left : List ℕ) → BeginsWithNo 84 text → Stops (WithCount Behind) text left → Stops IsBody text left
counted_stops text left none s =
    stops_wider (WithCount Behind) IsBody (BeginsWithNo 84) text left (no_alike 84)
    from_count
    (λ t body. elim (body_form t body.0 body.1 body.2) [
      | inl times ↦ inr (λ other. (rw times.2 at other) refl, none)
      | inr w ↦ inl (with_count t body.0 body.1 w)
    ])
    s

pub body_stops_behind : (text : List ℕ) (n : ℕ) (rest left : List ℕ) → BeginsWithNo 84 text → IsLongestCount text n rest → Stops (Behind n) rest left → Stops IsBody text left
body_stops_behind text n rest left none count s =
    counted_stops text left none (stops_behind_count Behind text n rest left letters count s)

pub body_stops_count : (text : List ℕ) → BeginsWithNo 84 text → BeginsWithNoDigit text → Stops IsBody text text
body_stops_count text none no_digit =
    counted_stops text text none (stops_no_count Behind text (87 ∷ []) (0, 0, inl (refl, refl, refl)) no_digit)

-- no number begins with T
no_time_counted : (text : List ℕ) (days seconds : ℕ) → Counted (84 ∷ text) days seconds → ⊥
no_time_counted text days seconds w =
    with_count_digit Behind (84 ∷ text) (with_count (84 ∷ text) days seconds w) (inr (omega arith))

pub body_stops_times : (times left : List ℕ) → Stops (IsIn SpellsTimes) times left → Stops IsBody (84 ∷ times) left
body_stops_times times left s =
    stops_after IsBody (84 ∷ []) times left
    (stops_same (IsIn SpellsTimes) (λ t. IsBody (84 ∷ t)) times left
    (λ t times. (0, times.0, times_alone t times.1 refl refl))
    (λ t body. elim (body_form (84 ∷ t) body.0 body.1 body.2) [
      | inl times ↦ (let same : t ≡ times.0 = cc (times.2) in (body.1, rw same times.1))
      | inr w ↦ absurd (no_time_counted t body.0 body.1 w)
    ])
    s)

no_week : (a b : List ℕ) → 87 ∷ a ≡ 68 ∷ b → ⊥
no_week a b e = let head : ◌≡◌ {A = ℕ} 87 68 = cc in omega (arith, head)

-- something behind W
pub body_stops_week : (n : ℕ) (left : List ℕ) → left ≢ [] → Stops (Behind n) (87 ∷ left) left
body_stops_week n left some =
    stops_end (Behind n) (87 ∷ []) left (7 * n, 0, inl (refl, refl, refl))
    (λ next h. elim h.2 [ inl week ↦ cc (week.0) | inr day ↦ absurd (no_week next day.0 day.1) ])
    some

pub body_stops_days : (n : ℕ) (text left : List ℕ) → Stops (IsIn SpellsBehindDays) text left → Stops (Behind n) (68 ∷ text) left
body_stops_days n text left s =
    stops_after (Behind n) (68 ∷ []) text left
    (stops_same (IsIn SpellsBehindDays) (λ t. Behind n (68 ∷ t)) text left
    (λ t days. (n, days.0, inr (t, refl, refl, days.1)))
    (λ t h. elim h.2 [
      | inl week ↦ absurd (no_week [] t (sym week.0))
      | inr day ↦ (let same : t ≡ day.0 = cc (day.1) in (h.1, rw same day.3))
    ])
    s)

-- neither W nor D
pub body_stops_letter : (n : ℕ) (text : List ℕ) → BeginsWithNo 87 text → BeginsWithNo 68 text → Stops (Behind n) text text
body_stops_letter n text no_week no_day =
    stops_here (Behind n) text (87 ∷ []) (7 * n, 0, inl (refl, refl, refl))
    (λ next h alike. elim h.2 [
      | inl week ↦ (rw week.0 at (no_alike 87 next text alike no_week)) refl
      | inr day ↦ (rw day.1 at (no_alike 68 next text alike no_day)) refl
    ])

-- neither the end nor T behind D
pub days_stop_letter : (text : List ℕ) → text ≢ [] → BeginsWithNo 84 text → Stops (IsIn SpellsBehindDays) text text
days_stop_letter text some none =
    stops_here (IsIn SpellsBehindDays) text [] (0, inl (refl, refl))
    (λ next h alike. elim h.1 [
      | inl end ↦ not_empty_alike next text alike some end.0
      | inr times ↦ (rw times.2 at (no_alike 84 next text alike none)) refl
    ])

pub days_stop_times : (times left : List ℕ) → Stops (IsIn SpellsTimes) times left → Stops (IsIn SpellsBehindDays) (84 ∷ times) left
days_stop_times times left s =
    stops_after (IsIn SpellsBehindDays) (84 ∷ []) times left
    (stops_same (IsIn SpellsTimes) (λ t. IsIn SpellsBehindDays (84 ∷ t)) times left
    (λ t times. (times.0, inr (t, times.1, refl)))
    (λ t days. elim days.1 [
      | inl end ↦ cc (end.0)
      | inr times ↦ (let same : t ≡ times.0 = cc (times.2) in (days.0, rw same times.1))
    ])
    s)

-- what the readers find is in the grammar
pub times_body : (text times : List ℕ) (seconds : ℕ) → text ≡ 84 ∷ times → SpellsTimes times seconds → SpellsBody text 0 seconds
times_body text times seconds e h = times_alone times h e refl

pub weeks_body : (number : List ℕ) (n : ℕ) → SpellsCount number n → SpellsBody (number ++ (87 ∷ [])) (7 * n) 0
weeks_body number n count = weeks number n count refl refl refl

pub days_body : (number : List ℕ) (n : ℕ) (behind : List ℕ) (seconds : ℕ) → SpellsCount number n → SpellsBehindDays behind seconds → SpellsBody (number ++ (68 ∷ behind)) n seconds
days_body number n behind seconds count h = counted_body number n (68 ∷ behind) n seconds count (inr (behind, refl, refl, h))

one_behind_days : (text : List ℕ) (a b : ℕ) → SpellsBehindDays text a → SpellsBehindDays text b → a ≡ b
one_behind_days text a b first second =
    elim first [
      | inl v ↦ elim second [
        | inl w ↦ v.1 ∙ sym w.1
        | inr w ↦ cc (v.0, w.2)
      ]
      | inr v ↦ elim second [
        | inl w ↦ cc (v.2, w.0)
        | inr w ↦ (let same : w.0 ≡ v.0 = cc (v.2, w.2) in one_times v.0 a b v.1 (rw same at w.1))
      ]
    ]

one_body_behind : (n : ℕ) (rest : List ℕ) (d s e t : ℕ) → BodyBehind n rest d s → BodyBehind n rest e t → (d ≡ e) × (s ≡ t)
one_body_behind n rest d s e t first second =
    elim first [
      | inl v ↦ elim second [
        | inl w ↦ (v.1 ∙ sym w.1, v.2 ∙ sym w.2)
        | inr w ↦ absurd (no_week [] w.0 (sym v.0 ∙ w.1))
      ]
      | inr v ↦ elim second [
        | inl w ↦ absurd (no_week [] v.0 (sym w.0 ∙ v.1))
        | inr w ↦ (let same : w.0 ≡ v.0 = cc (v.1, w.1) in (v.2 ∙ sym w.2, one_behind_days v.0 s t v.3 (rw same at w.3)))
      ]
    ]

-- a text behind P spells one length
pub one_body : (text : List ℕ) (d s e t : ℕ) → SpellsBody text d s → SpellsBody text e t → (d ≡ e) × (s ≡ t)
one_body text d s e t first second =
    elim (body_form text d s first) [
      | inl v ↦ elim (body_form text e t second) [
        | inl w ↦ (let same : w.0 ≡ v.0 = cc (v.2, w.2) in (v.3 ∙ sym w.3, one_times v.0 s t v.1 (rw same at w.1)))
        | inr w ↦ absurd (no_time_counted v.0 e t (rw v.2 at w))
      ]
      | inr v ↦ elim (body_form text e t second) [
        | inl w ↦ absurd (no_time_counted w.0 d s (rw w.2 at v))
        | inr w ↦ (let same = counts_then v.number v.rest w.number w.rest v.n w.n v.count w.count (letters v.n v.rest (d, s, v.behind)) (letters w.n w.rest (e, t, w.behind)) (sym v.split ∙ w.split) in
            one_body_behind w.n w.rest d s e t (rw same.0 at (rw same.1 at v.behind)) w.behind)
      ]
    ]
