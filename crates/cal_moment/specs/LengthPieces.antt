-- The pieces in which a length of time is read.
use Rattle.std.specs.Prelude.{◌≡◌, ℕ, Bool, false, ◌+◌, ◌*◌, ◌^◌, ◌<◌, ◌≤◌, List, [], ◌∷◌, ◌++◌, ◌⊎◌, length}
use Rattle.cal_moment.specs.declared.lengths.TimeUnit.{TimeUnit}
use Rattle.cal_moment.specs.Texts.{digits, sign_text}
use Rattle.cal_moment.specs.LengthTexts.{SpellsBody, SpellsCount, SpellsParts, SpellsTimes, unit_letter, unit_seconds}
use Rattle.cal_moment.specs.Stops.{BeginsWithNoDigit, BeginsWithNoSign}

-- a number with so many digits goes on, with those of a text, to one of at most nine, as far as there are
pub record GoesOnToCount (width value : ℕ) (text : List ℕ) (n : ℕ) (rest : List ℕ) : Type 0 where
  pub whole : ℕ
  pub from : width ≤ whole
  pub most : whole ≤ 9
  pub fits : n < 10 ^ whole
  pub same : digits width value ++ text ≡ digits whole n ++ rest
  pub ended : (whole ≡ 9) ⊎ BeginsWithNoDigit rest

-- the longest number at the front of a text
pub record IsLongestCount (text : List ℕ) (n : ℕ) (rest : List ℕ) : Type 0 where
  pub number : List ℕ
  pub spells : SpellsCount number n
  pub split : text ≡ number ++ rest
  pub ended : (length number ≡ 9) ⊎ BeginsWithNoDigit rest

-- what may follow a number of a time that is read to its end: the letter of one of these units, and parts of the later ones
abbrev pub SpellsBehind : List TimeUnit → ℕ → List ℕ → ℕ → Type 0
SpellsBehind [] n text seconds = ⊥
SpellsBehind (unit ∷ units) n text seconds =
    SpellsBehind units n text seconds ⊎ ((rest : List ℕ) × (others : ℕ) × SpellsParts units rest others × (text ≡ unit_letter unit ∷ rest) × (seconds ≡ n * unit_seconds unit + others))

-- one of the units has this letter
abbrev pub HasLetter : List TimeUnit → ℕ → Type 0
HasLetter [] octet = ⊥
HasLetter (unit ∷ units) octet = (octet ≡ unit_letter unit) ⊎ HasLetter units octet

-- no two of the units have one letter
abbrev pub AreApart : List TimeUnit → Type 0
AreApart [] = Unit {0}
AreApart (unit ∷ units) = ¬ HasLetter units (unit_letter unit) × AreApart units

-- what may follow the D of days: nothing, or T and times
abbrev pub SpellsBehindDays : List ℕ → ℕ → Type 0
SpellsBehindDays text seconds =
    ((text ≡ []) × (seconds ≡ 0)) ⊎ ((times : List ℕ) × SpellsTimes times seconds × (text ≡ 84 ∷ times))

-- the text can stand behind the P
abbrev pub IsBody : List ℕ → Type 0
IsBody text = (days seconds : ℕ) × SpellsBody text days seconds

-- the text is a sign and what is left, or begins with none, which is plus
abbrev pub CutsSign : List ℕ → Bool → List ℕ → Type 0
CutsSign text negative rest =
    (text ≡ sign_text negative ++ rest) ⊎ ((text ≡ rest) × (negative ≡ false) × BeginsWithNoSign rest)
