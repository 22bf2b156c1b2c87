use Rattle.std.proofs.Common.{◌≡◌, ◌++◌, w64, sym, ap, ap₂, ◌∙◌, append_assoc}
use Rattle.std.proofs.lemmas.Int.{to_z-of_z}
use Rattle.std.specs.Prelude.{codes}
use Rattle.cal_model.specs.Selections.RowLines.{kept_header, rewritten, value_text}
use Rattle.shown_lines.proofs.LineHeads.{head-kept}
use Rattle.shown_lines.proofs.rewritten.write_rewritten.Goals as goal

pub write_made-requires-clause-header : goal.write_made-requires-clause-header
write_made-requires-clause-header c =
    (kept_header c.args.kind c.args.line.now, c.in_ok-header.ensures, head-kept c.args.kind c.args.line.now c.requires.line)

pub returns : goal.returns
returns c =
    let line = rewritten c.args.kind c.args.seconds c.args.line.now in
    let kept = kept_header c.args.kind c.args.line.now in
    let text = value_text c.args.kind c.args.seconds in
    let value : c.as_slice.result.now ≡ text = c.as_slice.ensures ∙ c.in_ok-value.ensures.text ∙ ap (value_text c.args.kind) (to_z-of_z w64 c.args.seconds c.ranges.seconds) in
    c.write_made.ensures line (sym (append_assoc kept (codes ":") text) ∙ sym (ap₂ (λ front behind. front ++ behind) c.in_ok-header.ensures value)) (sym value)
