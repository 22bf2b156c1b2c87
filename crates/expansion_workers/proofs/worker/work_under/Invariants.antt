use Rattle.std.proofs.Common.{◌≡◌, ◌+◌, ◌≤◌, ◌∷◌, length}
use Rattle.turn_lock.specs.Journals.{IsFollowedByOthers}
use Rattle.expansion_workers.specs.Work.{IsCounted}
use Rattle.expansion_workers.proofs.worker.work_under.Given as goal

abbrev pub invariant-turns : goal.invariant-turns
invariant-turns g l = record {
  pass : l.pass ≡ record l.fn.pass { seen = l.pass.seen; looks = l.pass.looks };
  others : IsFollowedByOthers g.B.Keeps.author (l.fn.pass.number ∷ l.fn.pass.gone) l.fn.pass.seen l.pass.seen;
  counted : IsCounted l.worked;
  most : l.worked.claimed ≤ l._turn;
  stale : l.worked.stale + length l.fn.pass.seen ≤ length l.pass.seen;
}
