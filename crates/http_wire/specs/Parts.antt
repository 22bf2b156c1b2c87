-- What calls that lend texts give, as lists.
use Rattle.std.specs.Prelude.{ℕ, List}
use Rattle.std.specs.Borrow.{Bor}

abbrev pub text_there : Bor (List ℕ) → List ℕ
text_there text = text.now
