use Rattle.std.proofs.Common.{◌++◌, ◌∷◌, [], rules, get_or, List, sym, ◌∙◌, ap, pos, to_z-of_z, FitsSigned, w64, arith}
use Rattle.std.proofs.lemmas.List.{map_more}
use Rattle.cal_model.specs.declared.local_span.Span.{Span}
use Rattle.cal_model.specs.Conversions.LocalSpans.{span_at, found_in}
use Rattle.cal_model.proofs.local_span.stretch_at.Goals as goal

pub loop-p-preserved : goal.loop-p-preserved
loop-p-preserved c =
    let fits : FitsSigned w64 (get_or c.args.borders.now c.loop-p.p-index (pos 0)) = search rules in
    let made = rw (to_z-of_z fits) at c.found_in-found.ensures in
    let more = rw (to_z-of_z fits, made) at c.in_ok-push.ensures.ok in
    let span : Span = span_at (λ p. found_in c.args.table.now p c.args.k) (get_or c.args.borders.now c.loop-p.p-index (pos 0)) in
    let front = map_more (span_at (λ p. found_in c.args.table.now p c.args.k)) c.args.borders.now c.loop-p.p-index (pos 0) (omega arith) in
    more ∙ ap (λ (xs : List Span). xs ++ span ∷ []) c.loop-p.invariant ∙ sym front
