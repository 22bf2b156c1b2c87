-- Of a rule without COUNT, the members that start in a window are those of a stretch that covers the window's digits.
use Rattle.std.proofs.Common.{◌≡◌, ℕ, ◌*◌, ◌<◌, ◌≤◌, List, [], ◌∷◌, ◌++◌, refl, ap, ◌∙◌, arith, Bool, true, false, inl, inr, ◌⊎◌, ℤ, pos, ◌+ℤ◌, ◌*ℤ◌, ◌≤ℤ◌, ◌<ℤ◌}
use Rattle.std.specs.Prelude.{All, filter, None}
use Rattle.std.specs.Int.{int_div_euclid}
use Rattle.std.proofs.lemmas.Int.{ints}
use Rattle.std.proofs.lemmas.Bool.{cases_Bool}
use Rattle.std.proofs.lemmas.List.Elements.{All-head, All-tail, filter-append}
use Rattle.cal_moment.specs.Calendar.{seconds_since_1970}
use Rattle.cal_moment.specs.declared.stamp.Stamp.{Stamp}
use Rattle.cal_moment.specs.declared.stamp.Stamp.TheVariants.{Date, Floating, Zoned, Utc}
use Rattle.cal_model.specs.declared.rule.Rule.{Rule}
use Rattle.cal_model.specs.declared.zone.ZoneTable.{ZoneTable}
use Rattle.cal_model.specs.Words.Lists.{numbers_between}
use Rattle.cal_model.specs.Words.Integers.{same_int}
use Rattle.cal_model.specs.Recurrence.NextPassing.{end_day}
use Rattle.cal_model.specs.Recurrence.Passing.{period_number}
use Rattle.cal_model.specs.Instances.Alignment.{reading_of, zone_of}
use Rattle.cal_model.specs.Recurrence.RecurrenceSet.{every_moment, first_moment, later_moments}
use Rattle.cal_model.specs.Instances.Rows.{window_seconds}
use Rattle.cal_model.proofs.Words.IntegerLemmas.{same_int-true}
use Rattle.cal_model.proofs.TimeZones.NearTimes.{local_at-instant_of}
use Rattle.cal_model.proofs.Ranges.NearRanges.{window-holds}
use Rattle.cal_model.proofs.Recurrence.SetStretches.{All-between, later_moments-stretch, later_moments-exist, later_moments-All}

-- digits that exist come back from their instant
pub local-instant : (zones : List ZoneTable) (s : Stamp) (l : ℤ) → (reading_of zones s).exists l ≡ true → (reading_of zones s).local ((reading_of zones s).instant l) ≡ l
local-instant zones (Date d) l h = refl
local-instant zones (Floating d) l h = refl
local-instant zones (Zoned d zone) l h = local_at-instant_of (zone_of zones zone) l h
local-instant zones (Utc u) l h = refl

not_in : (z window : ℤ) → (z <ℤ (window *ℤ window_seconds)) ⊎ (((window +ℤ pos 1) *ℤ window_seconds) ≤ℤ z) → same_int (int_div_euclid z window_seconds) window ≡ false
not_in z window h = elim (cases_Bool (same_int (int_div_euclid z window_seconds) window)) [
  | inl w ↦ (let e = same_int-true (int_div_euclid z window_seconds) window w in let lies = window-holds z in let here = rw e at lies in elim h [ inl below ↦ absurd (omega (arith, ints, here, below)) | inr above ↦ absurd (omega (arith, ints, here, above)) ])
  | inr w ↦ w
]

filter_none : (p : ℕ → Bool) (xs : List ℕ) → All (λ x. p x ≡ false) xs → filter p xs ≡ []
filter_none p [] h = refl
filter_none p (x ∷ xs) h = rw (All-head (λ x. p x ≡ false) x xs h) (filter_none p xs (All-tail (λ x. p x ≡ false) x xs h))

-- the start of a member lies in a window
abbrev pub starts_in : List ZoneTable → Stamp → ℤ → ℕ → Bool
starts_in zones s window m = same_int (int_div_euclid ((reading_of zones s).local ((reading_of zones s).instant (seconds_since_1970 m))) window_seconds) window

-- the digits of a moment lie before a window or after it
abbrev IsFar : ℤ → ℕ → Type 0
IsFar window m = (seconds_since_1970 m <ℤ (window *ℤ window_seconds)) ⊎ (((window +ℤ pos 1) *ℤ window_seconds) ≤ℤ seconds_since_1970 m)

outside : (zones : List ZoneTable) (s : Stamp) (window : ℤ) (rule : Rule) (start : ℕ) (moments : List ℕ) →
    All (IsFar window) moments →
    filter (starts_in zones s window) (later_moments rule start (reading_of zones s) moments) ≡ []
outside zones s window rule start moments h =
    filter_none (starts_in zones s window) (later_moments rule start (reading_of zones s) moments) (λ i d lt. each _ (far i d lt) (there i d lt))
  where
    far : All (IsFar window) (later_moments rule start (reading_of zones s) moments)
    far = later_moments-All (IsFar window) rule start (reading_of zones s) moments h

    there : All (λ m. (reading_of zones s).exists (seconds_since_1970 m) ≡ true) (later_moments rule start (reading_of zones s) moments)
    there = later_moments-exist moments rule start (reading_of zones s)

    each : (m : ℕ) → IsFar window m → (reading_of zones s).exists (seconds_since_1970 m) ≡ true → starts_in zones s window m ≡ false
    each m f e = ap (λ l. same_int (int_div_euclid l window_seconds) window) (local-instant zones s (seconds_since_1970 m) e) ∙ not_in (seconds_since_1970 m) window f

-- the law: nothing but a stretch at the window takes part, cut at the borders of periods
pub later_moments-window : (zones : List ZoneTable) (s : Stamp) (window : ℤ) (rule : Rule) (start a b n k : ℕ) → rule.count ≡ None → first_moment ≤ a → a ≤ b → b ≤ 86_400 * end_day →
    seconds_since_1970 a ≤ℤ (window *ℤ window_seconds) → ((window +ℤ pos 1) *ℤ window_seconds) ≤ℤ seconds_since_1970 b →
    ((m : ℕ) → m < a → period_number rule.freq rule.week_start m ≤ n) → ((m : ℕ) → a ≤ m → n < period_number rule.freq rule.week_start m) →
    ((m : ℕ) → m < b → period_number rule.freq rule.week_start m ≤ k) → ((m : ℕ) → b ≤ m → k < period_number rule.freq rule.week_start m) →
    filter (starts_in zones s window) (later_moments rule start (reading_of zones s) every_moment)
    ≡ filter (starts_in zones s window) (later_moments rule start (reading_of zones s) (numbers_between a b))
later_moments-window zones s window rule start a b n k no_count from up to low high before_a from_a before_b from_b =
    let before = later_moments rule start (reading_of zones s) (numbers_between first_moment a) in
    let here = later_moments rule start (reading_of zones s) (numbers_between a b) in
    let after = later_moments rule start (reading_of zones s) (numbers_between b (86_400 * end_day)) in
    let none_before : filter (starts_in zones s window) before ≡ [] = outside zones s window rule start (numbers_between first_moment a)
    (All-between (IsFar window) first_moment a (λ m l h. inl (omega (arith, ints, h, low)))) in
    let none_after : filter (starts_in zones s window) after ≡ [] = outside zones s window rule start (numbers_between b (86_400 * end_day))
    (All-between (IsFar window) b (86_400 * end_day) (λ m l h. inr (omega (arith, ints, l, high)))) in
    ap (filter (starts_in zones s window)) (later_moments-stretch rule start (reading_of zones s) a b n k no_count from up to before_a from_a before_b from_b)
    ∙ filter-append (starts_in zones s window) before (here ++ after)
    ∙ ap (λ xs. xs ++ filter (starts_in zones s window) (here ++ after)) none_before
    ∙ filter-append (starts_in zones s window) here after
    ∙ ap (λ xs. filter (starts_in zones s window) here ++ xs) none_after
    ∙ append_none (filter (starts_in zones s window) here)
  where
    append_none : (xs : List ℕ) → xs ++ [] ≡ xs
    append_none [] = refl
    append_none (x ∷ xs) = ap (λ ys. x ∷ ys) (append_none xs)
