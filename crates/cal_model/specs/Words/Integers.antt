-- Small words on whole numbers that the definitions share: equality, the least and the greatest, and places that are counted from either end.
use Rattle.std.specs.Prelude.{ℕ, ◌+◌, Bool, false, ◌==◌, if◌then◌else◌, List, [], ◌∷◌, ℤ, pos, negsuc, int_lt}
use Rattle.std.specs.List.{list_any}

-- two whole numbers are equal
abbrev pub same_int : ℤ → ℤ → Bool
same_int (pos a) (pos b) = a == b
same_int (pos a) (negsuc b) = false
same_int (negsuc a) (pos b) = false
same_int (negsuc a) (negsuc b) = a == b

-- a written number names a place of so many: 1 is the first and -1 the last
abbrev pub names_place : ℕ → ℕ → ℤ → Bool
names_place place size (pos n) = n == place
names_place place size (negsuc n) = place + n == size

abbrev pub some_names_place : List ℤ → ℕ → ℕ → Bool
some_names_place numbers place size = list_any (names_place place size) numbers

-- the least of a number and a list
abbrev pub least_of : ℤ → List ℤ → ℤ
least_of z [] = z
least_of z (x ∷ xs) = least_of (if int_lt x z then x else z) xs

abbrev pub greatest_of : ℤ → List ℤ → ℤ
greatest_of z [] = z
greatest_of z (x ∷ xs) = greatest_of (if int_lt z x then x else z) xs
