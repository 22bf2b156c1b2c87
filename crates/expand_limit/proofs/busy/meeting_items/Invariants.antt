use Rattle.std.proofs.Common.{◌≡◌}
use Rattle.std.specs.Prelude.{filter}
use Rattle.cal_base.specs.Texts.Octets.{comma}
use Rattle.cal_base.specs.Lines.ContentLines.{pieces}
use Rattle.cal_model.specs.Selections.LimitedSets.{text_meets}
use Rattle.ical_values.specs.Parts.{later_pieces, text_left, text_there}
use Rattle.expand_limit.specs.BusyItems.{joined_items, more_items}
use Rattle.expand_limit.proofs.busy.meeting_items.Given as goal

-- the items so far, and those of the rest behind them
abbrev pub invariant-items : goal.invariant-items
invariant-items l = more_items l.items (filter (text_meets l.range) (later_pieces comma (text_there l.rest))) ≡ joined_items (filter (text_meets l.range) (pieces comma l.value))

abbrev pub decreases-items : goal.decreases-items
decreases-items l = text_left (text_there l.rest)
