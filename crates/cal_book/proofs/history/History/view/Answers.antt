use Rattle.std.proofs.Common.{map}
use Rattle.cal_journal.specs.KeptEntries.{kept_entry}
use Rattle.collections.specs.Kept.{origins_of}
use Rattle.cal_book.proofs.Showing.ApartLaws.{live-apart}
use Rattle.cal_book.proofs.history.History.view.Goals as goal

pub new-requires : goal.new-requires
new-requires c = record { apart = live-apart (map kept_entry c.self.inside.journal.items) (origins_of c.self.inside.store) c.self.invariant.step.live }
