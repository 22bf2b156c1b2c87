use Rattle.std.proofs.Common.{sym, ap, ◌∙◌}
use Rattle.std.specs.Prelude.{filter}
use Rattle.std.specs.List.{join_with_byte}
use Rattle.cal_base.specs.Texts.Octets.{comma}
use Rattle.cal_base.specs.Lines.ContentLines.{pieces}
use Rattle.cal_model.specs.Selections.LimitedSets.{text_meets}
use Rattle.expand_limit.proofs.JoinedItems.{joined-some}
use Rattle.expand_limit.proofs.busy.write_busy.Goals as goal

pub write_items-requires-clause-items : goal.write_items-requires-clause-items
write_items-requires-clause-items c =
    let meets = text_meets c.args.range in (
      meets,
      c.as_slice-in-Some.ensures ∙ joined-some _ c.in-Some.items (sym c.in_ok-items.ensures ∙ c.in-Some.is) ∙ ap (λ value. join_with_byte comma (filter meets (pieces comma value))) c.as_slice.ensures,
    )
