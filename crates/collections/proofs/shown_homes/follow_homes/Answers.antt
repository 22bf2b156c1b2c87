use Rattle.std.proofs.Common.{subst, sym}
use Rattle.collections.specs.Homes.{AreHomes}
use Rattle.collections.proofs.shown_homes.follow_homes.Goals as goal

pub follow-requires-clause-homes : goal.follow-requires-clause-homes
follow-requires-clause-homes c = subst AreHomes (sym c.in-Ok.ensures.value) c.requires.homes
