use Rattle.std.proofs.Common.{◌≡◌, ◌+◌, length, map}
use Rattle.cal_base.specs.Lists.NameMap.{IsInOrder}
use Rattle.object_walk.specs.WalkedObjects.{HaveOriginsOf, named_octets}
use Rattle.cal_book.specs.Keeping.KeptHistories.{origins_in}
use Rattle.cal_book.specs.EndedObjects.{IsWithout, is_passed}
use Rattle.cal_book.proofs.ending.end_all.Given as goal

-- the objects that were passed are gone, and each of their pieces was a step
abbrev pub invariant-walk : goal.invariant-walk
invariant-walk g l = record {
  gone : IsWithout l.history.journal (is_passed (map named_octets l.origin-iterator) l.home l.calendar) l.initial.claims l.claims;
  counted : l.steps + length l.claims.pieces ≡ l.initial.steps + length l.initial.claims.pieces;
  in_order : IsInOrder (map named_octets l.origin-iterator);
  origins : HaveOriginsOf (origins_in l.history l.home l.calendar) l.origin-iterator;
}
