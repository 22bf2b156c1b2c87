-- One more zone is at hand.
use Rattle.std.proofs.Common.{◌≡◌, List, [], ◌∷◌, ◌++◌, refl, ap}
use Rattle.cal_model.specs.declared.local_times.LocalTimes.{LocalTimes}
use Rattle.cal_model.specs.declared.zone.ZoneTable.{ZoneTable}
use Rattle.cal_model.specs.Conversions.ZonesAtHand.{tables_of}

pub tables_more : (zones : List LocalTimes) (times : LocalTimes) (rest : List ZoneTable) → tables_of (zones ++ times ∷ []) ++ rest ≡ tables_of zones ++ times.table.now ∷ rest
tables_more [] times rest = refl
tables_more (z ∷ zs) times rest = ap (λ ts. z.table.now ∷ ts) (tables_more zs times rest)
