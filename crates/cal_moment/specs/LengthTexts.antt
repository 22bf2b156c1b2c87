-- The texts of lengths of time, and what each spells (RFC 5545, 3.3.6).
use Rattle.std.specs.Prelude.{◌≡◌, ◌≢◌, ℕ, ◌+◌, ◌*◌, ◌^◌, ◌<◌, ◌≤◌, Bool, false, List, [], ◌∷◌, ◌++◌, codes, ◌⊎◌}
use Rattle.cal_moment.specs.declared.stamp.Length.{Length}
use Rattle.cal_moment.specs.declared.lengths.TimeUnit.{TimeUnit}
use Rattle.cal_moment.specs.declared.lengths.TimeUnit.TheVariants.{Hour, Minute, Second}
use Rattle.cal_moment.specs.Texts.{digits, sign_text, signed}

-- a number of one to nine digits
pub record SpellsCount (text : List ℕ) (n : ℕ) : Type 0 where
  pub width : ℕ
  pub some : 1 ≤ width
  pub most : width ≤ 9
  pub fits : n < 10 ^ width
  pub spelled : text ≡ digits width n

-- the letter of a unit of time: H, M or S
abbrev pub unit_letter : TimeUnit → ℕ
unit_letter Hour = 72
unit_letter Minute = 77
unit_letter Second = 83

-- its seconds
abbrev pub unit_seconds : TimeUnit → ℕ
unit_seconds Hour = 3600
unit_seconds Minute = 60
unit_seconds Second = 1

-- the units of a time, in the order in which they are written
abbrev pub time_units : List TimeUnit
time_units = Hour ∷ Minute ∷ Second ∷ []

-- a number with the letter of its unit, and then another text
pub record SpellsPart (unit : TimeUnit) (Spells : List ℕ → ℕ → Type 0) (text : List ℕ) (seconds : ℕ) : Type 0 where
  pub number : List ℕ
  pub n : ℕ
  pub rest : List ℕ
  pub others : ℕ
  pub spells_number : SpellsCount number n
  pub spells_rest : Spells rest others
  pub spelled : text ≡ number ++ (unit_letter unit ∷ rest)
  pub total : seconds ≡ n * unit_seconds unit + others

-- numbers of these units in this order, of which any may be left out
abbrev pub SpellsParts : List TimeUnit → List ℕ → ℕ → Type 0
SpellsParts [] text seconds = (text ≡ []) × (seconds ≡ 0)
SpellsParts (unit ∷ units) text seconds =
    SpellsParts units text seconds ⊎ SpellsPart unit (SpellsParts units) text seconds

-- hours, minutes and seconds, at least one of them
abbrev pub SpellsTimes : List ℕ → ℕ → Type 0
SpellsTimes text seconds = (text ≢ []) × SpellsParts time_units text seconds

-- what stands behind the P
pub data SpellsBody (text : List ℕ) (days seconds : ℕ) : Type 0 where
  weeks : (number : List ℕ) (n : ℕ) → SpellsCount number n → text ≡ number ++ codes "W" → days ≡ 7 * n → seconds ≡ 0 → SpellsBody text days seconds
  days_alone : (number : List ℕ) → SpellsCount number days → text ≡ number ++ codes "D" → seconds ≡ 0 → SpellsBody text days seconds
  times_alone : (times : List ℕ) → SpellsTimes times seconds → text ≡ codes "T" ++ times → days ≡ 0 → SpellsBody text days seconds
  days_and_times : (number times : List ℕ) → SpellsCount number days → SpellsTimes times seconds → text ≡ number ++ (codes "DT" ++ times) → SpellsBody text days seconds

-- a sign, or none, which is plus
abbrev pub SpellsSign : List ℕ → Bool → Type 0
SpellsSign text negative = (text ≡ sign_text negative) ⊎ ((text ≡ []) × (negative ≡ false))

-- perhaps a sign, P, and weeks, days or times; the sign goes to the days and to the seconds
pub record SpellsLength (text : List ℕ) (value : Length) : Type 0 where
  pub sign : List ℕ
  pub negative : Bool
  pub body : List ℕ
  pub days : ℕ
  pub seconds : ℕ
  pub spells_sign : SpellsSign sign negative
  pub spells_body : SpellsBody body days seconds
  pub spelled : text ≡ sign ++ (codes "P" ++ body)
  pub days_number : value.days ≡ signed negative days
  pub seconds_number : value.seconds ≡ signed negative seconds
