-- The ordinals that BYDAY asks of each weekday, as the bits of words.
use Rattle.std.specs.Prelude.{◌≡◌, ℕ, ◌+◌, ◌-◌, ◌/◌, ◌<◌, Bool, true, false, ◌==◌, if◌then◌else◌, List, ℤ, pos, negsuc, slice_index}
use Rattle.std.specs.Int.{bit_at}
use Rattle.std.specs.List.{list_any}
use Rattle.cal_model.specs.declared.rule.DayPart.{DayPart}
use Rattle.rrule_step.specs.declared.ordinals.Ordinals.{Ordinals}

-- the word of a weekday has a bit
unfoldable pub marks : List ℕ → ℕ → ℕ → Bool
marks words weekday i = bit_at (slice_index words weekday) i == 1

-- an ordinal that counts from the front has this bit; 0 is each occurrence
abbrev pub is_front : ℕ → ℤ → Bool
is_front i (pos n) = n == i
is_front i (negsuc n) = false

-- one that counts from the end has this bit; 0 is the last
abbrev pub is_back : ℕ → ℤ → Bool
is_back i (pos n) = false
is_back i (negsuc n) = n == i

-- a value of BYDAY gives a weekday this bit from the front
abbrev pub at_front : ℕ → ℕ → DayPart → Bool
at_front weekday i part = if part.weekday == weekday then is_front i part.ordinal else false

-- and this one from the end
abbrev pub at_back : ℕ → ℕ → DayPart → Bool
at_back weekday i part = if part.weekday == weekday then is_back i part.ordinal else false

-- bits from the front and from the end mean the occurrence of their weekday at a place of so many days
abbrev pub asks_for : (ℕ → Bool) → (ℕ → Bool) → ℕ → ℕ → Bool
asks_for front back place size =
    if front 0 then true else (if front ((place + 6) / 7) then true else back ((size - place) / 7))

-- those of a weekday
abbrev pub asks_of : Ordinals → ℕ → ℕ → ℕ → Bool
asks_of ordinals weekday place size = asks_for (marks ordinals.front weekday) (marks ordinals.back weekday) place size

-- the words of the values of BYDAY
pub record AreOrdinals (parts : List DayPart) (ordinals : Ordinals) : Type 0 where
  pub front : (k i : ℕ) → k < 7 → i < 64 → marks ordinals.front k i ≡ list_any (at_front k i) parts
  pub back : (k i : ℕ) → k < 7 → i < 64 → marks ordinals.back k i ≡ list_any (at_back k i) parts
