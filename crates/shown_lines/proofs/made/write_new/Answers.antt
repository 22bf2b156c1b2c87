use Rattle.std.proofs.Common.{◌≡◌, ◌++◌, w64, sym, subst, ap, ap₂, ◌∙◌}
use Rattle.std.proofs.lemmas.Int.{to_z-of_z}
use Rattle.cal_model.specs.Selections.RowLines.{is_date_kind, new_line, value_text}
use Rattle.shown_lines.proofs.NewLines.{HeadOf, new-head, new_front, new_line-raw, new_line-value}
use Rattle.shown_lines.proofs.made.write_new.Goals as goal

pub write_made-requires-clause-header : goal.write_made-requires-clause-header
write_made-requires-clause-header c = subst HeadOf (sym c.in_ok-header.ensures) (new-head c.args.name.now (is_date_kind c.args.kind) c.requires.name)

pub returns : goal.returns
returns c =
    let line = new_line c.args.name.now c.args.kind c.args.seconds in
    let value : c.as_slice.result.now ≡ value_text c.args.kind c.args.seconds = c.as_slice.ensures ∙ c.in_ok-value.ensures.text ∙ ap (value_text c.args.kind) (to_z-of_z w64 c.args.seconds c.ranges.seconds) in
    let header : c.in_ok-header.header ≡ new_front c.args.name.now (is_date_kind c.args.kind) = c.in_ok-header.ensures in
    c.write_made.ensures line (new_line-raw c.args.name.now c.args.kind c.args.seconds ∙ sym (ap₂ (λ front text. front ++ text) header value)) (new_line-value c.args.name.now c.args.kind c.args.seconds ∙ sym value)
