use Rattle.collections.proofs.CalendarLemmas.{without_index}
use Rattle.collections.proofs.calendar.CalendarStore.into_shown.Goals as goal

pub of-requires : goal.of-requires
of-requires c = without_index c.self.invariant
