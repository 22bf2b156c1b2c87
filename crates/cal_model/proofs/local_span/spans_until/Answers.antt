use Rattle.std.proofs.Common.{rules, of_calls, int_le}
use Rattle.std.proofs.lemmas.Fn.{always_returns_same}
use Rattle.cal_model.specs.declared.local_span.Span.{Span}
use Rattle.cal_model.proofs.Conversions.SpanLemmas.{spans_partitioned}
use Rattle.cal_model.proofs.local_span.spans_until.Goals as goal

pub returns-clause-before : goal.returns-clause-before
returns-clause-before c =
    let point = c.partition_point.ensures.partitioned (λ (o : Span). int_le o.from c.args.local) (always_returns_same _ _ _ (λ a r f k. search (rules, of_calls))) (spans_partitioned c.args.spans.now c.args.local c.requires) in
    point.0

pub returns-clause-after : goal.returns-clause-after
returns-clause-after c =
    let point = c.partition_point.ensures.partitioned (λ (o : Span). int_le o.from c.args.local) (always_returns_same _ _ _ (λ a r f k. search (rules, of_calls))) (spans_partitioned c.args.spans.now c.args.local c.requires) in
    point.1
