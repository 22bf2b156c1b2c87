use Rattle.std.proofs.Common.{sym, subst, ◌∙◌}
use Rattle.shown_lines.specs.Heads.{IsClean}
use Rattle.shown_lines.proofs.ItemTexts.{clean-items}
use Rattle.shown_lines.proofs.LineHeads.{head-read, clean-value}
use Rattle.shown_lines.proofs.items.write_items.Goals as goal

pub write_made-requires-clause-header : goal.write_made-requires-clause-header
write_made-requires-clause-header c =
    let head = head-read c.args.line.now c.requires.line in
    (head.0, c.in_ok-header.ensures ∙ c.header.ensures ∙ head.1, head.2)

pub write_made-requires-clause-value : goal.write_made-requires-clause-value
write_made-requires-clause-value c =
    let items = c.requires.items in
    subst IsClean (sym items.1) (clean-items c.args.line.now.value items.0 (clean-value c.args.line.now c.requires.line))
