use Rattle.cal_model.proofs.Conversions.SpanLemmas.{borders_of}
use Rattle.cal_model.proofs.local_span.stretch_borders.Goals as goal

pub returns : goal.returns
returns c = borders_of c.args.table.now c.args.k c.in_ok-lowest.lowest c.in_ok-begun.begun c.in_ok-ended.ended c.in_ok-lowest.ensures c.in_ok-begun.ensures c.in_ok-ended.ensures
