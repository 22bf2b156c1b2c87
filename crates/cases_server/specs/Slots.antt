-- What a worker holds of a book.
use Rattle.std.specs.Prelude.{List}
use Rattle.cal_model.specs.History.Journal.{Entry}
use Rattle.cal_book.specs.Publishing.{IsClaimIn}
use Rattle.cases_server.specs.declared.slot.Slot.{Slot}
use Rattle.cases_server.specs.declared.slot.Slot.TheVariants.{Empty, Claimed, Expanded}

-- the claim that is held is of one of the journal's objects
abbrev pub IsSlotIn : List Entry → Slot → Type 0
IsSlotIn journal Empty = Unit {0}
IsSlotIn journal (Claimed claim) = IsClaimIn journal claim
IsSlotIn journal (Expanded expanded) = IsClaimIn journal expanded.claim
