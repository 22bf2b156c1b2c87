use Rattle.std.proofs.Common.{sym, ap, ◌∙◌}
use Rattle.std.specs.Prelude.{filter}
use Rattle.cal_base.specs.Texts.Octets.{comma}
use Rattle.cal_base.specs.Lines.ContentLines.{pieces}
use Rattle.cal_model.specs.Selections.LimitedSets.{text_meets}
use Rattle.ical_values.specs.Parts.{later_pieces, text_there}
use Rattle.expand_limit.specs.BusyItems.{more_items}
use Rattle.expand_limit.proofs.JoinedItems.{more_items-joined, more_items-next}
use Rattle.expand_limit.proofs.busy.meeting_items.Goals as goal

pub items-init : goal.items-init
items-init c = more_items-joined (filter (text_meets c.args.range) (pieces comma c.args.value.now))

pub items-preserved : goal.items-preserved
items-preserved c =
    let meets = text_meets c.args.range in
    let item = c.first_piece.result.0.now in
    let later = later_pieces comma (text_there c.first_piece.result.1) in
    ap (λ items. more_items items (filter meets later)) c.in_ok-items.ensures
    ∙ more_items-next (meets item) c.items.items item (filter meets later)
    ∙ ap (λ those. more_items c.items.items (filter meets those)) (sym c.first_piece.ensures.pieces)
    ∙ ap (λ rest. more_items c.items.items (filter meets (later_pieces comma (text_there rest)))) (sym c.in-Some.is)
    ∙ c.items.invariant
