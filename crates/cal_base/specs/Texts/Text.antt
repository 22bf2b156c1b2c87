-- Names without ASCII case (RFC 5545, 2).
use Rattle.std.specs.Prelude.{◌≡◌, ℕ, ◌-◌, ◌&&◌, if◌then◌else◌, List, map, nat_le}

-- an ASCII letter in upper case, and any other octet as it is
abbrev pub raised : ℕ → ℕ
raised octet = if nat_le 97 octet && nat_le octet 122 then octet - 32 else octet

-- a text with its ASCII letters in upper case
abbrev pub raised_all : List ℕ → List ℕ
raised_all text = map raised text

-- a text without lower-case ASCII letters: raising changes nothing
abbrev pub IsRaised : List ℕ → Type 0
IsRaised text = raised_all text ≡ text
