-- The numbers in the parts of a rule, without their signs (RFC 5545, 3.3.8 and 3.3.10).
use Rattle.std.specs.Prelude.{ℕ, ◌&&◌, nat_le, if◌then◌else◌, List, Option, Some, None, option_and_then}
use Rattle.cal_model.specs.Values.ValueTexts.{count_of}

-- a number from a least to a greatest
abbrev pub if_within : ℕ → ℕ → ℕ → Option ℕ
if_within low high n = if nat_le low n && nat_le n high then Some n else None

-- one to nine digits that are such a number
abbrev pub count_within : ℕ → ℕ → List ℕ → Option ℕ
count_within low high text = option_and_then (if_within low high) (count_of text)
