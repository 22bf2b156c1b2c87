-- The grammar of heads as the library `httparse` states it, field by field after RFC 9112 (2.2, 3 and 5), and the law that the heads that are read are those of this grammar.
use Rattle.std.specs.Prelude.{◌≡◌, ℕ, List, [], Some, ◌↔◌}
use Rattle.httparse.specs.Grammar.{RequestHead, ReadsRequest}
use Rattle.cal_model.specs.Streams.Heads.{head_of}

-- the whole block is this head, and begins with no empty line
abbrev pub IsHead : List ℕ → RequestHead → Type 0
IsHead block head = ReadsRequest block head [] × (head.blank ≡ [])

abbrev pub HeadsAreTheGrammar : Type 0
HeadsAreTheGrammar = (block : List ℕ) (head : RequestHead) → (head_of block ≡ Some head) ↔ IsHead block head
