-- What calls that lend texts give, as lists.
use Rattle.std.specs.Prelude.{ℕ, List, Option, option_map}
use Rattle.std.specs.Borrow.{Bor}

-- the two parts of a text that was cut
abbrev pub both_texts : Bor (List ℕ) × Bor (List ℕ) → List ℕ × List ℕ
both_texts parts = (parts.0.now, parts.1.now)

-- a text that may be absent
abbrev pub text_there : Option (Bor (List ℕ)) → Option (List ℕ)
text_there = option_map (λ (text : Bor (List ℕ)). text.now)
