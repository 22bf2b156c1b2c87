-- What a map ends as, once the loan of one of its values has ended.
use Rattle.std.specs.Prelude.{ℕ, List, Option}
use Rattle.std.specs.Borrow.{LendsIf, Fml, RattleType, MutBor}
use Rattle.cal_base.specs.Lists.NameMap.{Named, with_changed}
use Rattle.cal_base.specs.contracts.name_map.NameMap.{the_row}

-- the map has at the name the last value that was written through the loan, and without a loan it is as it was
abbrev pub lends_value : (V : RattleType) → MutBor (Named V.Denot) → List ℕ → Option (MutBor V.Denot) → Fml
lends_value V m name r = LendsIf (the_row V) V m r (with_changed m.now name) m.now
