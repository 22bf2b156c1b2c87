use Rattle.tests_recurrence.proofs.ZoneTables.{RisesBelow}
use Rattle.tests_recurrence.proofs.zones.restless.Given as goal

-- the onsets so far make a table, and lie before the next second
abbrev pub invariant-loop-k : goal.invariant-loop-k
invariant-loop-k l = RisesBelow l.onsets l.k
