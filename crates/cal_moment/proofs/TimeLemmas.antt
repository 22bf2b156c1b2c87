-- Where the text of a time of day stops.
use Rattle.std.proofs.Common.{◌≡◌, ℕ, ◌+◌, ◌*◌, ◌≤◌, List, [], ◌++◌, length, refl, sym, ap, ◌∙◌, arith, min}
use Rattle.cal_moment.specs.BadPlace.{IsIn}
use Rattle.cal_moment.specs.Stops.{Stops, Opens, IsNumber}
use Rattle.cal_moment.specs.Texts.{digits, time_text, SpellsTime}
use Rattle.cal_moment.proofs.DigitLemmas.{digits_then}
use Rattle.cal_moment.proofs.Fronts.{fronts_same}
use Rattle.cal_moment.proofs.NumberLemmas.{BeginsWithNumber, stops_number}
use Rattle.cal_moment.proofs.StopsLemmas.{stops_after}

-- a text that begins with a time of day
record BeginsWithTime (text : List ℕ) : Type 0 where
  hour : ℕ
  minute : ℕ
  second : ℕ
  rest : List ℕ
  hour_in : hour ≤ 23
  minute_in : minute ≤ 59
  second_in : second ≤ 60
  split : text ≡ digits 2 hour ++ (digits 2 minute ++ (digits 2 second ++ rest))

time_spells : (h m s : ℕ) → h ≤ 23 → m ≤ 59 → s ≤ 60 → IsIn SpellsTime (time_text h m s)
time_spells h m s hour minute second =
    (3600 * h + 60 * m + min s 59, record { hour = h; minute = m; second = s; hour_in = hour; minute_in = minute; second_in = second; spelled = refl; number = refl })

opens_time : (h m s : ℕ) (rest : List ℕ) → h ≤ 23 → m ≤ 59 → s ≤ 60 → Opens (IsIn SpellsTime) (digits 2 h ++ (digits 2 m ++ (digits 2 s ++ rest)))
opens_time h m s rest hour minute second = (time_text h m s, rest, time_spells h m s hour minute second, refl)

time_opens : (text : List ℕ) → Opens (IsIn SpellsTime) text → BeginsWithTime text
time_opens text opens =
    let time = opens.2.1 in
    record { hour = time.hour; minute = time.minute; second = time.second; rest = opens.1; hour_in = time.hour_in; minute_in = time.minute_in; second_in = time.second_in; split = opens.3 ∙ ap (λ s. s ++ opens.1) time.spelled }

behind_hour : (h : ℕ) (text : List ℕ) → h ≤ 23 → Opens (IsIn SpellsTime) (digits 2 h ++ text) → BeginsWithNumber 2 0 59 text
behind_hour h text fits opens =
    let b = time_opens (digits 2 h ++ text) opens in
    let same = digits_then 2 h b.hour text (digits 2 b.minute ++ (digits 2 b.second ++ b.rest)) (omega arith) (omega (arith, b.hour_in)) b.split in
    record { n = b.minute; rest = digits 2 b.second ++ b.rest; from = omega arith; until = b.minute_in; fits = omega (arith, b.minute_in); split = same.1 }

behind_minute : (h m : ℕ) (text : List ℕ) → h ≤ 23 → m ≤ 59 → Opens (IsIn SpellsTime) (digits 2 h ++ (digits 2 m ++ text)) → BeginsWithNumber 2 0 60 text
behind_minute h m text fits also opens =
    let b = time_opens (digits 2 h ++ (digits 2 m ++ text)) opens in
    let hours = digits_then 2 h b.hour (digits 2 m ++ text) (digits 2 b.minute ++ (digits 2 b.second ++ b.rest)) (omega arith) (omega (arith, b.hour_in)) b.split in
    let minutes = digits_then 2 m b.minute text (digits 2 b.second ++ b.rest) (omega arith) (omega (arith, b.minute_in)) hours.1 in
    record { n = b.second; rest = b.rest; from = omega arith; until = b.second_in; fits = omega (arith, b.second_in); split = minutes.1 }

pub time_stops_hour : (text left : List ℕ) → Stops (Opens (IsNumber 2 0 23)) text left → Stops (Opens (IsIn SpellsTime)) text left
time_stops_hour text left s =
    stops_number 2 0 23 (Opens (IsIn SpellsTime)) text left
    (λ h low high fits. (digits 2 0 ++ (digits 2 0 ++ []), opens_time h 0 0 [] high (omega arith) (omega arith)))
    (λ t opens. let b = time_opens t opens in
    record { n = b.hour; rest = digits 2 b.minute ++ (digits 2 b.second ++ b.rest); from = omega arith; until = b.hour_in; fits = omega (arith, b.hour_in); split = b.split })
    s

pub time_stops_minute : (h : ℕ) (text left : List ℕ) → h ≤ 23 → Stops (Opens (IsNumber 2 0 59)) text left → Stops (Opens (IsIn SpellsTime)) (digits 2 h ++ text) left
time_stops_minute h text left hour s =
    stops_after (Opens (IsIn SpellsTime)) (digits 2 h) text left
    (stops_number 2 0 59 (λ t. Opens (IsIn SpellsTime) (digits 2 h ++ t)) text left
    (λ m low high fits. (digits 2 0 ++ [], opens_time h m 0 [] hour high (omega arith)))
    (λ t opens. behind_hour h t hour opens)
    s)

pub time_stops_second : (h m : ℕ) (text left : List ℕ) → h ≤ 23 → m ≤ 59 → Stops (Opens (IsNumber 2 0 60)) text left → Stops (Opens (IsIn SpellsTime)) (digits 2 h ++ (digits 2 m ++ text)) left
time_stops_second h m text left hour minute s =
    stops_after (Opens (IsIn SpellsTime)) (digits 2 h ++ digits 2 m) text left
    (stops_number 2 0 60 (λ t. Opens (IsIn SpellsTime) (digits 2 h ++ (digits 2 m ++ t))) text left
    (λ s low high fits. ([], opens_time h m s [] hour minute high))
    (λ t opens. behind_minute h m t hour minute opens)
    s)

length-time : (text : List ℕ) → IsIn SpellsTime text → length text ≡ 6
length-time text spells = ap length spells.1.spelled

-- two times at the front of one text are one
pub times_then : (a b c d : List ℕ) → IsIn SpellsTime a → IsIn SpellsTime c → a ++ b ≡ c ++ d → (a ≡ c) × (b ≡ d)
times_then a b c d first second e = fronts_same a b c d (length-time a first ∙ sym (length-time c second)) e

-- midnight
pub midnight : IsIn SpellsTime (time_text 0 0 0)
midnight = time_spells 0 0 0 (omega arith) (omega arith) (omega arith)
