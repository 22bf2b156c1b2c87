-- The pieces of a text that is cut several times.
use Rattle.std.proofs.Common.{◌≡◌, ℕ, ◌<◌, List, ◌∷◌, length, ap, arith}
use Rattle.cal_base.specs.Lines.ContentLines.{pieces}
use Rattle.cal_model.proofs.Streams.HeadLaws.{length-pieces}

pub five_pieces : (octet : ℕ) (text second third fourth fifth a b c d : List ℕ) → pieces octet text ≡ a ∷ pieces octet second → pieces octet second ≡ b ∷ pieces octet third → pieces octet third ≡ c ∷ pieces octet fourth → pieces octet fourth ≡ d ∷ pieces octet fifth → 4 < length (pieces octet text)
five_pieces octet text second third fourth fifth a b c d one two three four = omega (arith, ap length one, ap length two, ap length three, ap length four, length-pieces octet fifth)
