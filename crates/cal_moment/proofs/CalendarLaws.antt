-- What makes the calendar's numbers right: years and months follow one another without a gap, and a day has one date.
use Rattle.std.proofs.Common.{◌≡◌, ℕ, zero, suc, ◌+◌, ◌-◌, ◌<◌, ◌≤◌, List, Bool, arith, refl, sym, ap, ◌∙◌, add-one, nat_lt, nat_le, inl, inr, ℤ}
use Rattle.std.specs.Prelude.{count_by}
use Rattle.std.specs.Int.{IsInRange}
use Rattle.std.proofs.lemmas.Bool.{cases_Bool, ltb-true, ltb-false, leb-true, leb-false, lt-ltb, le-ltb}
use Rattle.std.proofs.lemmas.Int.{ints}
use Rattle.std.proofs.lemmas.Bool.Decides.{nat_tests}
use Rattle.cal_moment.specs.Calendar.{is_leap, year_length, month_length, first_of_year, days_before_month, day_of_date, near_year, year_of, day_of_year, the_months, month_of, day_of_month, IsFieldsOf, IsCalendarMoment, day_number, day_since_1970, moment_number, day_of_moment, second_of_day, seconds_since_1970, moment_of_seconds}

-- a year begins where the one before it ends
pub first_of_year-suc : (y : ℕ) → first_of_year (suc y) ≡ first_of_year y + year_length y
first_of_year-suc y = grind (arith, nat_tests)

-- the months of a year are the year
pub days_before_month-end : (y : ℕ) → days_before_month y 13 ≡ year_length y
days_before_month-end y =
    elim (cases_Bool (is_leap y)) [ inl leap ↦ rw leap refl | inr common ↦ rw common refl ]

-- a month has 28 to 31 days
pub month_length-bounds : (y m : ℕ) → (28 ≤ month_length y m) × (month_length y m ≤ 31)
month_length-bounds y m = grind arith

-- later years begin later
pub first_of_year-le : (x y : ℕ) → x ≤ y → first_of_year x ≤ first_of_year y
first_of_year-le x y h = omega arith

first_near : (day : ℕ) → first_of_year (near_year day - 1) ≤ day
first_near day = omega arith

last_near : (day : ℕ) → day < first_of_year (near_year day + 1 + 1)
last_near day = omega arith

-- the year of a day begins at or before it
pub year_of-first : (day : ℕ) → first_of_year (year_of day) ≤ day
unfolding year_of
year_of-first day =
    elim (cases_Bool (nat_lt day (first_of_year (near_year day)))) [
      | inl before ↦ rw before (first_near day)
      | inr from ↦ elim (cases_Bool (nat_lt day (first_of_year (near_year day + 1)))) [
        | inl within ↦ rw (from, within) (ltb-false _ _ from)
        | inr after ↦ rw (from, after) (ltb-false _ _ after)
      ]
    ]

-- and the next one after it
pub year_of-last : (day : ℕ) → day < first_of_year (year_of day + 1)
unfolding year_of
year_of-last day =
    elim (cases_Bool (nat_lt day (first_of_year (near_year day)))) [
      | inl before ↦ (let lt : day < first_of_year (near_year day) = ltb-true _ _ before in
          let le = first_of_year-le (near_year day) (near_year day - 1 + 1) (omega arith) in
          rw before (omega (arith, lt, le)))
      | inr from ↦ elim (cases_Bool (nat_lt day (first_of_year (near_year day + 1)))) [
        | inl within ↦ rw (from, within) (ltb-true _ _ within)
        | inr after ↦ rw (from, after) (last_near day)
      ]
    ]

-- no other year does
pub year_of-only : (day y : ℕ) → first_of_year y ≤ day → day < first_of_year (y + 1) → year_of day ≡ y
year_of-only day y first last =
    let a = year_of-first day in let b = year_of-last day in
    elim (cases_Bool (nat_lt (year_of day) y)) [
      | inl lt ↦ (let below : year_of day < y = ltb-true _ _ lt in
          let le = first_of_year-le (year_of day + 1) y (omega arith) in absurd (omega (arith, a, b, le)))
      | inr ge ↦ elim (cases_Bool (nat_lt y (year_of day))) [
        | inl lt ↦ (let above : y < year_of day = ltb-true _ _ lt in
            let le = first_of_year-le (y + 1) (year_of day) (omega arith) in absurd (omega (arith, a, b, le)))
        | inr le ↦ (let x = ltb-false _ _ ge in let z = ltb-false _ _ le in omega (arith, x, z))
      ]
    ]

-- later months begin later
pub days_before_month-le : (y a b : ℕ) → a ≤ b → days_before_month y a ≤ days_before_month y b
days_before_month-le y a zero h = let e : a ≡ 0 = omega arith in rw e (omega arith)
days_before_month-le y zero (suc b) h = omega arith
days_before_month-le y (suc zero) (suc b) h = omega arith
days_before_month-le y (suc (suc a)) (suc zero) h = absurd (omega arith)
days_before_month-le y (suc (suc a)) (suc (suc b)) h =
    elim (cases_Bool (nat_lt a b)) [
      | inl lt ↦ (let below : a < b = ltb-true _ _ lt in
          let rest = days_before_month-le y (suc (suc a)) (suc b) (omega arith) in omega (arith, rest))
      | inr ge ↦ (let above : b ≤ a = ltb-false _ _ ge in
          let same : a ≡ b = omega (arith, above) in rw same (omega arith))
    ]

-- a month ends where the next one begins
pub days_before_month-next : (y m : ℕ) → 1 ≤ m → days_before_month y (m + 1) ≡ days_before_month y m + month_length y m
days_before_month-next y zero h = absurd (omega arith)
days_before_month-next y (suc m) h = rw add-one refl

-- a date lies in its year
pub day_of_date-within : (y m d : ℕ) → IsInRange 1 12 m → IsInRange 1 (month_length y m) d → day_of_date y m d < first_of_year (y + 1)
day_of_date-within y m d month day =
    let next = days_before_month-next y m month.0 in
    let end = days_before_month-le y (m + 1) 13 (omega (arith, month)) in
    let year = days_before_month-end y in
    let after = first_of_year-suc y in
    rw add-one (omega (arith, next, end, year, after, day))

-- and its year is that of its day
pub year_of-day_of_date : (y m d : ℕ) → IsInRange 1 12 m → IsInRange 1 (month_length y m) d → year_of (day_of_date y m d) ≡ y
year_of-day_of_date y m d month day =
    year_of-only (day_of_date y m d) y (omega arith) (day_of_date-within y m d month day)

day_of_year-day_of_date : (y m d : ℕ) → IsInRange 1 12 m → IsInRange 1 (month_length y m) d → day_of_year (day_of_date y m d) ≡ days_before_month y m + d
day_of_year-day_of_date y m d month day =
    rw (year_of-day_of_date y m d month day) (omega (arith, day))

-- a month begins before a day of the month m just where it is at or before m
begun_months : (y m d : ℕ) → IsInRange 1 12 m → IsInRange 1 (month_length y m) d → (k : ℕ) → nat_lt (days_before_month y k) (days_before_month y m + d) ≡ nat_le k m
begun_months y m d month day k =
    elim (cases_Bool (nat_le k m)) [
      | inl at ↦ (let le = days_before_month-le y k m (leb-true _ _ at) in
          rw at (lt-ltb _ _ (omega (arith, le, day))))
      | inr past ↦ (let lt : m < k = leb-false _ _ past in
          let le = days_before_month-le y (m + 1) k (omega (arith, lt)) in
          let next = days_before_month-next y m month.0 in
          rw past (le-ltb _ _ (omega (arith, le, next, day))))
    ]

count_by-same : (p q : ℕ → Bool) → ((k : ℕ) → p k ≡ q k) → (xs : List ℕ) → count_by p xs ≡ count_by q xs
count_by-same p q same xs = ap (λ (r : ℕ → Bool). count_by r xs) (λ i k. same k i)

-- the first m months are so many
pub months_until : (m : ℕ) → m ≤ 12 → count_by (λ k. nat_le k m) the_months ≡ m
months_until zero h = refl
months_until (suc (zero)) h = refl
months_until (suc (suc (zero))) h = refl
months_until (suc (suc (suc (zero)))) h = refl
months_until (suc (suc (suc (suc (zero))))) h = refl
months_until (suc (suc (suc (suc (suc (zero)))))) h = refl
months_until (suc (suc (suc (suc (suc (suc (zero))))))) h = refl
months_until (suc (suc (suc (suc (suc (suc (suc (zero)))))))) h = refl
months_until (suc (suc (suc (suc (suc (suc (suc (suc (zero))))))))) h = refl
months_until (suc (suc (suc (suc (suc (suc (suc (suc (suc (zero)))))))))) h = refl
months_until (suc (suc (suc (suc (suc (suc (suc (suc (suc (suc (zero))))))))))) h = refl
months_until (suc (suc (suc (suc (suc (suc (suc (suc (suc (suc (suc (zero)))))))))))) h = refl
months_until (suc (suc (suc (suc (suc (suc (suc (suc (suc (suc (suc (suc (zero))))))))))))) h = refl
months_until (suc (suc (suc (suc (suc (suc (suc (suc (suc (suc (suc (suc (suc (m)))))))))))))) h = absurd (omega arith)

-- the month of a date is that of its day
pub month_of-day_of_date : (y m d : ℕ) → IsInRange 1 12 m → IsInRange 1 (month_length y m) d → month_of (day_of_date y m d) ≡ m
unfolding month_of
month_of-day_of_date y m d month day =
    rw (day_of_year-day_of_date y m d month day, year_of-day_of_date y m d month day)
    (count_by-same _ _ (begun_months y m d month day) the_months ∙ months_until m month.1)

-- a day has the fields of its date
pub fields_of_date : (y m d : ℕ) → IsInRange 1 12 m → IsInRange 1 (month_length y m) d → IsFieldsOf (day_of_date y m d) y m d
unfolding day_of_month
fields_of_date y m d month day =
    let year = year_of-day_of_date y m d month day in
    let of_year = day_of_year-day_of_date y m d month day in
    let in_month = month_of-day_of_date y m d month day in
    (sym year, sym in_month, rw (of_year, year, in_month) (omega arith))

-- days and moments counted from 1970, and back
pub day_number-day_since_1970 : (day : ℕ) → day_number (day_since_1970 day) ≡ day
day_number-day_since_1970 day = omega (arith, ints)

pub moment_of_seconds-seconds_since_1970 : (moment : ℕ) → moment_of_seconds (seconds_since_1970 moment) ≡ moment
moment_of_seconds-seconds_since_1970 moment = omega (arith, ints)

pub seconds_since_1970-moment_of_seconds : (seconds : ℤ) → IsCalendarMoment seconds → seconds_since_1970 (moment_of_seconds seconds) ≡ seconds
seconds_since_1970-moment_of_seconds seconds h = omega (arith, ints, h)

-- the day and the second of a moment are those of the moment
pub moment_number-parts : (moment : ℕ) → moment_number (day_since_1970 (day_of_moment moment)) (second_of_day moment) ≡ moment
moment_number-parts moment = rw (day_number-day_since_1970 (day_of_moment moment)) (omega arith)
