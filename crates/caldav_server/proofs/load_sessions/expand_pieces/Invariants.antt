use Rattle.std.proofs.Common.{◌≡◌}
use Rattle.turn_lock.specs.Journals.{entries_by}
use Rattle.caldav_server.proofs.load_sessions.expand_pieces.Given as goal

abbrev pub invariant-turns : goal.invariant-turns
invariant-turns g l = record {
  pass : l.pass ≡ record l.fn.pass { seen = l.pass.seen; looks = l.pass.looks };
  mine : entries_by (λ entry. entry.session) l.fn.pass.number l.pass.seen ≡ entries_by (λ entry. entry.session) l.fn.pass.number l.fn.pass.seen;
}
