use Rattle.std.proofs.Common.{rules, ◌∙◌, sym, arith, pos, to_z-of_z, FitsSigned, w64, ◌<◌}
use Rattle.cal_model.specs.declared.local_span.Found.TheVariants.{Nowhere}
use Rattle.cal_model.specs.declared.local_span.Span.{Span}
use Rattle.cal_model.proofs.Conversions.SpanLemmas.{value_among-at}
use Rattle.cal_model.proofs.local_span.value_at.Goals as goal

none : Span
none = record { from = pos 0; found = Nowhere }

pub returns : goal.returns
returns c =
    let some : 0 < c.spans_until-n.result = omega (arith, c.if-n-eq0.false) in
    let fits : FitsSigned w64 c.args.local = search rules in
    let before = rw (to_z-of_z fits) at c.spans_until-n.ensures.before in
    let after = rw (to_z-of_z fits) at c.spans_until-n.ensures.after in
    c.found_of.ensures none ∙ sym (value_among-at Nowhere c.args.spans.now c.args.local c.spans_until-n.result none some c.spans_until-n.ensures.bound before after)
