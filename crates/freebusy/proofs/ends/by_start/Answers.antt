use Rattle.std.proofs.Common.{rules}
use Rattle.std.proofs.lemmas.List.Sorted.{answers_always}
use Rattle.freebusy.specs.declared.ends.Span.{Span}
use Rattle.freebusy.proofs.ends.by_start.Goals as goal

pub returns-clause-rising : goal.returns-clause-rising
returns-clause-rising c = c.sort_unstable_by_key.ensures.sorted (λ (span : Span). span.start) (answers_always _ _ _ (λ f a r g h. search rules))
