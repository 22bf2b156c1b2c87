use Rattle.std.proofs.Common.{◌∙◌}
use Rattle.cal_model.proofs.Conversions.SpanLemmas.{digits_rising, IsSpans-stretch}
use Rattle.cal_model.proofs.local_span.stretch_spans.Goals as goal

pub stretch_at-requires-clause-digits : goal.stretch_at-requires-clause-digits
stretch_at-requires-clause-digits c =
    let has = c.in_ok-borders.ensures in
    digits_rising c.in_ok-borders.borders c.as_slice.result.now has.digits (c.as_slice.ensures ∙ c.in_ok-sorted.ensures)

pub returns : goal.returns
returns c =
    IsSpans-stretch c.args.table.now c.args.k c.in_ok-borders.borders c.as_slice.result.now c.in_ok-spans.spans c.in_ok-borders.ensures (c.as_slice.ensures ∙ c.in_ok-sorted.ensures) c.in_ok-spans.ensures
