use Rattle.std.proofs.Common.{◌≡◌, ◌≤◌, ◌-◌, map}
use Rattle.cal_journal.specs.Behind.{IsBehind}
use Rattle.cal_journal.specs.KeptEntries.{kept_entry}
use Rattle.cal_journal.proofs.replaying.apply_up_to.Given as goal

-- the store is behind the entries before the place
abbrev pub invariant-entries : goal.invariant-entries
invariant-entries g l = record {
  users : g.S.Applies.directory l.store ≡ g.S.Applies.directory l.fn.store;
  behind : IsBehind (g.S.Applies.directory l.fn.store) (map kept_entry l.entries) l.place (g.S.Applies.state l.store) (g.S.Applies.origins l.store);
  forward : l.initial.place ≤ l.place;
  most : l.place ≤ l.end;
}

abbrev pub decreases-entries : goal.decreases-entries
decreases-entries g l = l.end - l.place
