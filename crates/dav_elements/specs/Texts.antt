-- What texts that are lent stand for.
use Rattle.std.specs.Prelude.{ℕ, List}
use Rattle.std.specs.Borrow.{Bor}

-- the octets of a text that is lent
abbrev pub text_there : Bor (List ℕ) → List ℕ
text_there text = text.now
