-- Where the text of a date stops.
use Rattle.std.proofs.Common.{◌≡◌, ℕ, ◌<◌, ◌≤◌, ◌^◌, List, [], ◌++◌, length, refl, sym, ap, ◌∙◌, arith, ◌≢◌, ℤ}
use Rattle.std.proofs.lemmas.List.{append-nil}
use Rattle.cal_moment.specs.declared.stamp.Day.{Day}
use Rattle.cal_moment.proofs.Fronts.{fronts_same}
use Rattle.std.specs.Int.{IsInRange}
use Rattle.cal_moment.specs.BadPlace.{IsIn}
use Rattle.cal_moment.specs.Calendar.{month_length, IsDate, day_of_date, day_since_1970}
use Rattle.cal_moment.specs.Stops.{Stops, Opens, IsNumber}
use Rattle.cal_moment.specs.Texts.{digits, date_text, SpellsDate}
use Rattle.cal_moment.proofs.CalendarLaws.{month_length-bounds}
use Rattle.cal_moment.proofs.DigitLemmas.{digits_then, digits_injective}
use Rattle.cal_moment.proofs.NumberLemmas.{stops_number}
use Rattle.cal_moment.proofs.StopsLemmas.{stops_after, stops_end}

-- a text that begins with a date
pub record BeginsWithDate (text : List ℕ) : Type 0 where
  pub year : ℕ
  pub month : ℕ
  pub day : ℕ
  pub rest : List ℕ
  pub date : IsDate year month day
  pub split : text ≡ digits 4 year ++ (digits 2 month ++ (digits 2 day ++ rest))

pub date_spells : (y m d : ℕ) → IsDate y m d → IsIn SpellsDate (date_text y m d)
date_spells y m d date =
    (record { 0 = day_since_1970 (day_of_date y m d) }, record { year = y; month = m; day = d; date = date; spelled = refl; number = refl })

opens_date : (y m d : ℕ) (rest : List ℕ) → IsDate y m d → Opens (IsIn SpellsDate) (digits 4 y ++ (digits 2 m ++ (digits 2 d ++ rest)))
opens_date y m d rest date = (date_text y m d, rest, date_spells y m d date, refl)

pub date_opens : (text : List ℕ) → Opens (IsIn SpellsDate) text → BeginsWithDate text
date_opens text opens =
    let date = opens.2.1 in
    record { year = date.year; month = date.month; day = date.day; rest = opens.1; date = date.date; split = opens.3 ∙ ap (λ s. s ++ opens.1) date.spelled }

-- a text that goes on with a date behind its year
record BeginsWithMonth (year : ℕ) (text : List ℕ) : Type 0 where
  month : ℕ
  day : ℕ
  rest : List ℕ
  date : IsDate year month day
  split : text ≡ digits 2 month ++ (digits 2 day ++ rest)

behind_year : (y : ℕ) (text whole : List ℕ) → y < 10 ^ 4 → whole ≡ digits 4 y ++ text → BeginsWithDate whole → BeginsWithMonth y text
behind_year y text whole fits e b =
    let same = digits_then 4 y b.year text (digits 2 b.month ++ (digits 2 b.day ++ b.rest)) fits (omega (arith, b.date)) (sym e ∙ b.split) in
    record { month = b.month; day = b.day; rest = b.rest; date = rw same.0 b.date; split = same.1 }

pub date_stops_year : (text left : List ℕ) → Stops (Opens (IsNumber 4 1 9999)) text left → Stops (Opens (IsIn SpellsDate)) text left
date_stops_year text left s =
    stops_number 4 1 9999 (Opens (IsIn SpellsDate)) text left
    (λ y from until fits. (digits 2 1 ++ (digits 2 1 ++ []), opens_date y 1 1 [] ((from, until), omega arith, (omega arith, omega (arith, month_length-bounds y 1)))))
    (λ t opens. let b = date_opens t opens in
    record { n = b.year; rest = digits 2 b.month ++ (digits 2 b.day ++ b.rest); from = b.date.0.0; until = b.date.0.1; fits = omega (arith, b.date); split = b.split })
    s

pub date_stops_month : (y : ℕ) (text left : List ℕ) → 1 ≤ y → y ≤ 9999 → Stops (Opens (IsNumber 2 1 12)) text left → Stops (Opens (IsIn SpellsDate)) (digits 4 y ++ text) left
date_stops_month y text left from until s =
    stops_after (Opens (IsIn SpellsDate)) (digits 4 y) text left
    (stops_number 2 1 12 (λ t. Opens (IsIn SpellsDate) (digits 4 y ++ t)) text left
    (λ m low high fits. (digits 2 1 ++ [], opens_date y m 1 [] ((from, until), (low, high), (omega arith, omega (arith, month_length-bounds y m)))))
    (λ t opens. let b = behind_year y t (digits 4 y ++ t) (omega arith) refl (date_opens (digits 4 y ++ t) opens) in
    record { n = b.month; rest = digits 2 b.day ++ b.rest; from = b.date.1.0; until = b.date.1.1; fits = omega (arith, b.date); split = b.split })
    s)

-- and with a day behind its month
record BeginsWithDay (year month : ℕ) (text : List ℕ) : Type 0 where
  day : ℕ
  rest : List ℕ
  day_in : IsInRange 1 (month_length year month) day
  split : text ≡ digits 2 day ++ rest

behind_month : (y m : ℕ) (text whole : List ℕ) → m < 10 ^ 2 → whole ≡ digits 2 m ++ text → BeginsWithMonth y whole → BeginsWithDay y m text
behind_month y m text whole fits e b =
    let same = digits_then 2 m b.month text (digits 2 b.day ++ b.rest) fits (omega (arith, b.date)) (sym e ∙ b.split) in
    record { day = b.day; rest = b.rest; day_in = rw same.0 b.date.2; split = same.1 }

pub date_stops_day : (y m : ℕ) (text left : List ℕ) → 1 ≤ y → y ≤ 9999 → 1 ≤ m → m ≤ 12 → Stops (Opens (IsNumber 2 1 (month_length y m))) text left → Stops (Opens (IsIn SpellsDate)) (digits 4 y ++ (digits 2 m ++ text)) left
date_stops_day y m text left from until low high s =
    stops_after (Opens (IsIn SpellsDate)) (digits 4 y ++ digits 2 m) text left
    (stops_number 2 1 (month_length y m) (λ t. Opens (IsIn SpellsDate) (digits 4 y ++ (digits 2 m ++ t))) text left
    (λ d first last fits. ([], opens_date y m d [] ((from, until), (low, high), (first, last))))
    (λ t opens.
    let whole = behind_year y (digits 2 m ++ t) (digits 4 y ++ (digits 2 m ++ t)) (omega arith) refl (date_opens (digits 4 y ++ (digits 2 m ++ t)) opens) in
    let b = behind_month y m t (digits 2 m ++ t) (omega arith) refl whole in
    let short = month_length-bounds y m in
    record { n = b.day; rest = b.rest; from = b.day_in.0; until = b.day_in.1; fits = omega (arith, b.day_in, short); split = b.split })
    s)

pub length-date : (text : List ℕ) → IsIn SpellsDate text → length text ≡ 8
length-date text spells = ap length spells.1.spelled

-- two dates at the front of one text are one
pub dates_then : (a b c d : List ℕ) → IsIn SpellsDate a → IsIn SpellsDate c → a ++ b ≡ c ++ d → (a ≡ c) × (b ≡ d)
dates_then a b c d first second e = fronts_same a b c d (length-date a first ∙ sym (length-date c second)) e

-- nothing follows a date
pub date_stops_end : (front left : List ℕ) → IsIn SpellsDate front → left ≢ [] → Stops (IsIn SpellsDate) (front ++ left) left
date_stops_end front left spells some =
    stops_end (IsIn SpellsDate) front left spells (λ next h. (dates_then front next (front ++ next) [] spells h (sym (append-nil (front ++ next)))).1) some

-- a text spells one date
pub one_date : (text : List ℕ) (a b : Day) → SpellsDate text a → SpellsDate text b → a ≡ b
one_date text a b first second =
    let years = digits_then 4 first.year second.year (digits 2 first.month ++ digits 2 first.day) (digits 2 second.month ++ digits 2 second.day) (omega (arith, first.date)) (omega (arith, second.date)) (sym first.spelled ∙ second.spelled) in
    let months = digits_then 2 first.month second.month (digits 2 first.day) (digits 2 second.day) (omega (arith, first.date)) (omega (arith, second.date)) years.1 in
    let short = month_length-bounds first.year first.month in
    let also_short = month_length-bounds second.year second.month in
    let days = digits_injective 2 first.day second.day (omega (arith, first.date, short)) (omega (arith, second.date, also_short)) months.1 in
    let same : a.0 ≡ b.0 = first.number ∙ rw (years.0, months.0, days) (sym second.number) in
    ap (λ (z : ℤ). record { 0 = z }) same
