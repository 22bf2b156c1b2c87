use Rattle.std.proofs.Common.{◌≡◌}
use Rattle.cases_server.specs.Slots.{IsSlotIn}
use Rattle.cases_server.proofs.books.take_steps.Given as goal

-- the book is of the users, and the claim that is held of its journal
abbrev pub invariant-walking : goal.invariant-walking
invariant-walking g l = record {
  users : l.book.users ≡ l.fn.users;
  slot : IsSlotIn l.book.work.journal l.slot;
}
