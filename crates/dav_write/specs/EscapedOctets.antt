-- The octets that text does not have as they are (XML 1.0, 2.4 and 2.11).
use Rattle.std.specs.Prelude.{ℕ, Bool, ◌==◌, ◌||◌}

abbrev pub is_escaped : ℕ → Bool
is_escaped octet = octet == 38 || octet == 60 || octet == 62 || octet == 13
