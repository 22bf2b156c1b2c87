-- Examples of free seconds and of free times. A number is an hour of the day in place of a second.
use Rattle.std.specs.Prelude.{◌≡◌, refl, ℕ, true, false, [], ◌∷◌, take, pos}
use Rattle.cal_model.specs.declared.object.Class.{Class}
use Rattle.cal_model.specs.declared.object.Class.TheVariants.{Busy, Unavailable, Tentative}
use Rattle.cal_model.specs.declared.row.Range.{Range}
use Rattle.cal_model.specs.Busy.BusyTimes.{BusyTime}
use Rattle.slot_finder.specs.FreeTimes.{free_times, is_free}

abbrev hours : Class → ℕ → ℕ → BusyTime
hours class start end = record { class = class; start = pos start; end = pos end }

abbrev between : ℕ → ℕ → Range
between start end = record { start = record { 0 = pos start }; end = record { 0 = pos end } }

-- time of each class is held, from its start up to its end
held : (is_free ((hours Tentative 9 11 ∷ []) ∷ []) (pos 9) ≡ false) × (is_free ((hours Tentative 9 11 ∷ []) ∷ []) (pos 11) ≡ true)
    × (is_free ((hours Unavailable 9 11 ∷ []) ∷ []) (pos 10) ≡ false) × (is_free ((hours Busy 9 11 ∷ []) ∷ []) (pos 8) ≡ true)
held = (refl, refl, refl, refl)

-- one calendar that holds a second is enough
shared : (is_free ([] ∷ (hours Busy 9 11 ∷ []) ∷ []) (pos 9) ≡ false) × (is_free ([] ∷ [] ∷ []) (pos 9) ≡ true) × (is_free [] (pos 9) ≡ true)
shared = (refl, refl, refl)

-- 9 to 10 tentative and 10 to 12 busy, between 8 and 13: an hour is free before and behind, two are not
around : (free_times (is_free ((hours Tentative 9 10 ∷ hours Busy 10 12 ∷ []) ∷ [])) (between 8 13) 1 ≡ between 8 9 ∷ between 12 13 ∷ [])
    × (free_times (is_free ((hours Tentative 9 10 ∷ hours Busy 10 12 ∷ []) ∷ [])) (between 8 13) 2 ≡ [])
around = (refl, refl)

-- the first of them alone
first : take 1 (free_times (is_free ((hours Busy 9 12 ∷ []) ∷ [])) (between 8 13) 1) ≡ between 8 9 ∷ []
first = refl

-- times that touch a range at both ends leave it whole; times that reach into it cut it
ends : (free_times (is_free ((hours Busy 8 9 ∷ hours Busy 12 13 ∷ []) ∷ [])) (between 9 12) 3 ≡ between 9 12 ∷ [])
    × (free_times (is_free ((hours Busy 8 10 ∷ hours Busy 11 13 ∷ []) ∷ [])) (between 9 12) 1 ≡ between 10 11 ∷ [])
ends = (refl, refl)

-- two calendars that take turns leave nothing; where one is free and the other is not, it is not free
turns : (free_times (is_free ((hours Busy 8 9 ∷ hours Busy 10 11 ∷ []) ∷ (hours Busy 9 10 ∷ hours Tentative 11 12 ∷ []) ∷ [])) (between 8 12) 1 ≡ [])
    × (free_times (is_free ((hours Busy 8 10 ∷ []) ∷ (hours Busy 9 11 ∷ []) ∷ [])) (between 7 13) 2 ≡ between 11 13 ∷ [])
turns = (refl, refl)

-- no calendar leaves all free, and a range that ends before it starts has no time
bare : (free_times (is_free []) (between 8 13) 5 ≡ between 8 13 ∷ []) × (free_times (is_free []) (between 13 8) 1 ≡ [])
bare = (refl, refl)
