-- An ordinal and a weekday (RFC 5545, 3.3.10). No octet of an ordinal is above 57, the code of 9, and each of a weekday is.
use Rattle.std.specs.Prelude.{◌≡◌, ℕ, ◌<◌, ◌≤◌, List, [], ◌∷◌, ◌++◌, Some, ◌⊎◌}
use Rattle.cal_model.specs.declared.rule.DayPart.{DayPart}
use Rattle.cal_model.specs.Values.RuleTexts.{weekday_named, place_number}

abbrev pub Low : List ℕ → Type 0
Low [] = Unit {0}
Low (c ∷ text) = (c ≤ 57) × Low text

abbrev pub BeginsHigh : List ℕ → Type 0
BeginsHigh [] = ⊥
BeginsHigh (c ∷ text) = 57 < c

-- a text behind low octets, which none of them begins
abbrev pub EndsLow : List ℕ → Type 0
EndsLow behind = (behind ≡ []) ⊎ BeginsHigh behind

-- a text of both
pub record SpellsOrdinalDay (text : List ℕ) (day : DayPart) : Type 0 where
  pub front : List ℕ
  pub behind : List ℕ
  pub split : text ≡ front ++ behind
  pub ordinal : place_number 53 front ≡ Some day.ordinal
  pub weekday : weekday_named behind ≡ Some day.weekday
