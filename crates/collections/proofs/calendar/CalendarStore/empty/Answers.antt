use Rattle.std.proofs.Common.{refl}
use Rattle.collections.proofs.CalendarLemmas.{nothing_kept}
use Rattle.collections.proofs.calendar.CalendarStore.empty.Goals as goal

pub invariant_of-result : goal.invariant_of-result
invariant_of-result c = let a = c.new.ensures in let b = c.new-2.ensures in let d = c.new-3.ensures in let e = c.new-4.ensures in
    nothing_kept c.args.name _ c.new-3.result c.new-4.result refl b d e
