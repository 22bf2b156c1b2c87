-- What a shared value ends as, once the loan of it has ended.
use Rattle.std.specs.Prelude.{◌≡◌, Option, Result}
use Rattle.std.specs.Borrow.{LendsIf, LendsSoOk, Fml, RattleType, MutBor}
use Rattle.cal_base.specs.contracts.shared.Shared.{the_row}

-- the value that was last written through the loan, and without a loan it is as it was
abbrev pub lends_itself : (T : RattleType) → MutBor T.Denot → Option (MutBor T.Denot) → Fml
lends_itself T s r = LendsIf (the_row T) T s r (λ w. w) s.now

-- the same, where there is none only for want of memory
abbrev pub lends_itself_or_fails : (T : RattleType) → MutBor T.Denot → {E : Type 0} → Result (MutBor T.Denot) E → Fml
lends_itself_or_fails T s r = LendsSoOk (the_row T) T s r (λ n w. n ≡ w) (λ n. n ≡ s.now)
