-- What tests of moments say.
use Rattle.std.proofs.Common.{◌≡◌, true, false, arith}
use Rattle.std.specs.Prelude.{ℤ, ◌≤ℤ◌, ◌<ℤ◌, int_le, int_lt}
use Rattle.std.specs.Int.{int_min}
use Rattle.std.proofs.lemmas.Int.{ints}

pub le_of : (a b : ℤ) → int_le a b ≡ true → a ≤ℤ b
le_of a b is = grind (arith, ints)

pub above_of : (a b : ℤ) → int_le a b ≡ false → b <ℤ a
above_of a b is = grind (arith, ints)

pub le_is : (a b : ℤ) → a ≤ℤ b → int_le a b ≡ true
le_is a b low = grind (arith, ints)

pub lt_of : (a b : ℤ) → int_lt a b ≡ true → a <ℤ b
lt_of a b is = grind (arith, ints)

pub ge_of : (a b : ℤ) → int_lt a b ≡ false → b ≤ℤ a
ge_of a b is = grind (arith, ints)

pub lt_is : (a b : ℤ) → a <ℤ b → int_lt a b ≡ true
lt_is a b low = grind (arith, ints)

pub not_lt_is : (a b : ℤ) → b ≤ℤ a → int_lt a b ≡ false
not_lt_is a b low = grind (arith, ints)

-- the lesser of two moments
pub lesser_first : (a b m : ℤ) → m ≡ int_min a b → m ≤ℤ a
lesser_first a b m is = grind (arith, ints)

pub lesser_second : (a b m : ℤ) → m ≡ int_min a b → m ≤ℤ b
lesser_second a b m is = grind (arith, ints)

pub lesser_last : (a b m other : ℤ) → m ≡ int_min a b → other ≤ℤ a → other ≤ℤ b → other ≤ℤ m
lesser_last a b m other is first second = grind (arith, ints)
