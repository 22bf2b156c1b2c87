-- Small words on lists that the definitions share: emptiness, ends, lists of tests, and lists of numbers that are counted.
use Rattle.std.specs.Prelude.{ℕ, zero, suc, ◌+◌, ◌-◌, Bool, true, false, ◌==◌, if◌then◌else◌, List, [], ◌∷◌, length}
use Rattle.std.specs.List.{list_any}

-- an empty list: a part of a rule that isn't there
abbrev pub is_empty : {X : Type 0} → List X → Bool
is_empty xs = length xs == 0

-- a list has this number
abbrev pub has_number : List ℕ → ℕ → Bool
has_number xs n = list_any (λ x. x == n) xs

-- a value passes each of some tests, of which none is asked behind one that fails
abbrev pub passes_each : {X : Type 0} → List (X → Bool) → X → Bool
passes_each [] x = true
passes_each (test ∷ []) x = test x
passes_each (test ∷ next ∷ tests) x = if test x then passes_each (next ∷ tests) x else false

-- so many numbers in order, from the first one on
unfoldable pub counted_from : ℕ → ℕ → List ℕ
counted_from first zero = []
counted_from first (suc n) = first ∷ counted_from (first + 1) n

-- the numbers from the first up to the end, without the end
abbrev pub numbers_between : ℕ → ℕ → List ℕ
numbers_between first end = counted_from first (end - first)

-- the last of a list, or what stands for it
abbrev pub last_or_else : {X : Type 0} → X → List X → X
last_or_else none [] = none
last_or_else none (x ∷ xs) = last_or_else x xs

-- the first of a list, or what stands for it
abbrev pub first_or_else : {X : Type 0} → X → List X → X
first_or_else none [] = none
first_or_else none (x ∷ xs) = x
