-- How far the octets of an ordinal go.
use Rattle.std.proofs.Common.{◌≡◌, ℕ, zero, suc, ◌+◌, ◌<◌, ◌≤◌, List, [], ◌∷◌, ◌++◌, length, get_or, take, drop, sym, subst, arith, inl, inr, add-one}
use Rattle.std.proofs.lemmas.List.{drop_all}
use Rattle.cal_moment.specs.BadPlace.{IsIn, IsBadAt}
use Rattle.cal_model.specs.Values.BadValues.{Reads}
use Rattle.cal_model.specs.Values.RuleTexts.{weekday_named, place_number}
use Rattle.ical_values.specs.DayForms.{Low, EndsLow, SpellsOrdinalDay}
use Rattle.ical_values.proofs.DayPlaces.{bad_ordinal, bad_weekday_behind}

pub low_none : (text : List ℕ) → Low (take 0 text)
low_none [] = tt
low_none (c ∷ text) = tt

low_suc : (place : ℕ) (text : List ℕ) → place < length text → Low (take place text) → get_or text place 0 ≤ 57 → Low (take (suc place) text)
low_suc place [] within low small = absurd (omega (arith, within))
low_suc zero (c ∷ []) within low small = (small, tt)
low_suc zero (c ∷ d ∷ text) within low small = (small, tt)
low_suc (suc place) (c ∷ text) within low small = (low.0, low_suc place text (omega (arith, within)) low.1 small)

pub low_more : (place : ℕ) (text : List ℕ) → place < length text → Low (take place text) → get_or text place 0 ≤ 57 → Low (take (place + 1) text)
low_more place text within low small = subst (λ (k : ℕ). Low (take k text)) (sym (add-one place)) (low_suc place text within low small)

pub ends_here : (place : ℕ) (text : List ℕ) → place < length text → 57 < get_or text place 0 → EndsLow (drop place text)
ends_here place [] within above = absurd (omega (arith, within))
ends_here zero (c ∷ text) within above = inr above
ends_here (suc place) (c ∷ text) within above = ends_here place text (omega (arith, within)) above

pub ends_last : (text : List ℕ) → EndsLow (drop (length text) text)
ends_last text = inl (drop_all (length text) text (omega arith))

-- the places of a text that is cut behind its low octets
module _ (text front behind : List ℕ) (split : text ≡ front ++ behind) (low : Low front) (ends : EndsLow behind) where
  pub ordinal_bad : (place : ℕ) → IsBadAt (Reads (place_number 53)) front place → IsBadAt SpellsOrdinalDay text place
  ordinal_bad place bad = subst (λ (t : List ℕ). IsBadAt SpellsOrdinalDay t place) (sym split) (bad_ordinal front behind place low ends bad)

  pub weekday_bad : (place : ℕ) → IsIn (Reads (place_number 53)) front → IsBadAt (Reads weekday_named) behind place → IsBadAt SpellsOrdinalDay text (length front + place)
  weekday_bad place ordinal bad = subst (λ (t : List ℕ). IsBadAt SpellsOrdinalDay t (length front + place)) (sym split) (bad_weekday_behind front behind place low ends ordinal bad)
