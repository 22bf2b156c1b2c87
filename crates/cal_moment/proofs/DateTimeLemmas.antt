-- Where the text of a date and a time stops.
use Rattle.std.proofs.Common.{◌≡◌, ◌≢◌, ℕ, Bool, true, false, List, [], ◌∷◌, ◌++◌, inl, refl, sym, ap, ◌∙◌}
use Rattle.cal_moment.specs.BadPlace.{IsIn}
use Rattle.cal_moment.specs.Stops.{BeginsWithNo, GoOnAlike, IsUtcText, Stops, Opens}
use Rattle.cal_moment.specs.Texts.{time_text, utc_text, SpellsDate, SpellsTime, SpellsDateTime}
use Rattle.cal_moment.proofs.DateLemmas.{dates_then}
use Rattle.cal_moment.proofs.TimeLemmas.{times_then, midnight}
use Rattle.cal_moment.proofs.StopsLemmas.{stops_here, stops_after, stops_end, stops_in, stops_letter, stops_same}

utc_not_alike : (utc : Bool) (next text : List ℕ) → next ≡ utc_text utc → text ≢ [] → BeginsWithNo 90 text → ¬ GoOnAlike next text
utc_not_alike false [] [] e some none alike = some refl
utc_not_alike false [] (c ∷ text) e some none alike = alike
utc_not_alike false (d ∷ next) text e some none alike = cc
utc_not_alike true [] text e some none alike = cc
utc_not_alike true (d ∷ next) [] e some none alike = alike
utc_not_alike true (d ∷ next) (c ∷ text) e some none alike =
    let z : d ≡ 90 = cc in none (sym z ∙ alike)

-- neither the end nor Z
pub utc_stops : (text : List ℕ) → text ≢ [] → BeginsWithNo 90 text → Stops IsUtcText text text
utc_stops text some none =
    stops_here IsUtcText text [] (false, refl) (λ next h. utc_not_alike h.0 next text h.1 some none)

nothing_behind : (utc : Bool) (next : List ℕ) → 90 ∷ next ≡ utc_text utc → next ≡ []
nothing_behind false next e = cc
nothing_behind true next e = cc

-- something behind Z
pub utc_stops_end : (left : List ℕ) → left ≢ [] → Stops IsUtcText (90 ∷ left) left
utc_stops_end left some =
    stops_end IsUtcText (90 ∷ []) left (true, refl) (λ next h. nothing_behind h.0 next h.1) some

-- what stands behind the date
record BehindDate (text : List ℕ) : Type 0 where
  time : List ℕ
  utc : Bool
  spells_time : IsIn SpellsTime time
  split : text ≡ 84 ∷ (time ++ utc_text utc)

behind_date : (front text : List ℕ) → IsIn SpellsDate front → IsIn SpellsDateTime (front ++ text) → BehindDate text
behind_date front text date whole =
    let w = whole.1 in
    record { time = w.time; utc = whole.0.1; spells_time = (whole.0.0.second, w.spells_time); split = (dates_then front text w.date (84 ∷ (w.time ++ utc_text whole.0.1)) date (record { 0 = whole.0.0.day }, w.spells_date) w.spelled).1 }

with_date : (front text : List ℕ) → IsIn SpellsDate front → BehindDate text → IsIn SpellsDateTime (front ++ text)
with_date front text date b = (
  (record { day = date.0.0; second = b.spells_time.0 }, b.utc),
  record { date = front; time = b.time; spells_date = date.1; spells_time = b.spells_time.1; spelled = ap (λ t. front ++ t) b.split },
)

pub date_time_stops_date : (text left : List ℕ) → Stops (Opens (IsIn SpellsDate)) text left → Stops (IsIn SpellsDateTime) text left
date_time_stops_date text left s =
    stops_in (IsIn SpellsDate) (IsIn SpellsDateTime) text left
    (λ t date. (84 ∷ time_text 0 0 0, with_date t (84 ∷ time_text 0 0 0) date (record { time = time_text 0 0 0; utc = false; spells_time = midnight; split = refl })))
    (λ t whole. let w = whole.1 in inl (w.date, 84 ∷ (w.time ++ utc_text whole.0.1), (record { 0 = whole.0.0.day }, w.spells_date), w.spelled))
    s

module _ (front : List ℕ) (date : IsIn SpellsDate front) where
  pub date_time_stops_letter : (text : List ℕ) → BeginsWithNo 84 text → Stops (IsIn SpellsDateTime) (front ++ text) text
  date_time_stops_letter text none =
      stops_after (IsIn SpellsDateTime) front text text
      (stops_letter (λ t. IsIn SpellsDateTime (front ++ t)) 84 text (time_text 0 0 0)
      (with_date front (84 ∷ time_text 0 0 0) date (record { time = time_text 0 0 0; utc = false; spells_time = midnight; split = refl }))
      (λ next whole. let b = behind_date front next date whole in (b.time ++ utc_text b.utc, b.split))
      none)

  pub date_time_stops_time : (text left : List ℕ) → Stops (Opens (IsIn SpellsTime)) text left → Stops (IsIn SpellsDateTime) (front ++ (84 ∷ text)) left
  date_time_stops_time text left s =
      stops_after (IsIn SpellsDateTime) front (84 ∷ text) left
      (stops_after (λ t. IsIn SpellsDateTime (front ++ t)) (84 ∷ []) text left
      (stops_in (IsIn SpellsTime) (λ t. IsIn SpellsDateTime (front ++ (84 ∷ t))) text left
      (λ t time. ([], with_date front (84 ∷ (t ++ [])) date (record { time = t; utc = false; spells_time = time; split = refl })))
      (λ t whole. let b = behind_date front (84 ∷ t) date whole in
      let rest : t ≡ b.time ++ utc_text b.utc = cc in
      inl (b.time, utc_text b.utc, b.spells_time, rest))
      s))

  pub date_time_stops_utc : (time text left : List ℕ) → IsIn SpellsTime time → Stops IsUtcText text left → Stops (IsIn SpellsDateTime) (front ++ (84 ∷ (time ++ text))) left
  date_time_stops_utc time text left spells s =
      stops_after (IsIn SpellsDateTime) front (84 ∷ (time ++ text)) left
      (stops_after (λ t. IsIn SpellsDateTime (front ++ t)) (84 ∷ time) text left
      (stops_same IsUtcText (λ t. IsIn SpellsDateTime (front ++ (84 ∷ (time ++ t)))) text left
      (λ t z. with_date front (84 ∷ (time ++ t)) date (record { time = time; utc = z.0; spells_time = spells; split = ap (λ t. 84 ∷ (time ++ t)) z.1 }))
      (λ t whole. let b = behind_date front (84 ∷ (time ++ t)) date whole in
      let rest : time ++ t ≡ b.time ++ utc_text b.utc = cc in
      (b.utc, (times_then time t b.time (utc_text b.utc) spells b.spells_time rest).1))
      s))
