use Rattle.rrule_sets.proofs.SpanLemmas.{sorted_spans}
use Rattle.rrule_sets.proofs.ends.spans_in_order.Goals as goal

pub returns-in-Ok-clause-rising : goal.returns-in-Ok-clause-rising
returns-in-Ok-clause-rising c = rw c.from_vec.ensures (sorted_spans c.sort.new.self.items c.in-Ok.ensures.sorted)

pub returns-in-Ok-clause-same : goal.returns-in-Ok-clause-same
returns-in-Ok-clause-same c = rw (c.from_vec.ensures, ← c.into_vec-items.ensures) c.in-Ok.ensures.permutation
