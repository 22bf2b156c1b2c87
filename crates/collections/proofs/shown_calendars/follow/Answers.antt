use Rattle.std.proofs.Common.{IfSome, subst, sym}
use Rattle.cal_model.specs.declared.change.Change.{Change}
use Rattle.collections.specs.Following.{home_in, AreOf, IsShortIn}
use Rattle.collections.specs.Settings.{last_zone, IsShort}
use Rattle.collections.proofs.shown_calendars.follow.Goals as goal

pub put-requires : goal.put-requires
put-requires c = record { calendars = subst (λ (change : Change). AreOf (home_in change) c.args.calendars.now) c.in-Put.is c.requires.calendars }

pub make-requires : goal.make-requires
make-requires c = record { short = subst (λ sets. IfSome (last_zone sets) IsShort) (sym c.as_slice-in-Make.ensures) (subst IsShortIn c.in-Make.is c.requires.short) }

pub set-requires : goal.set-requires
set-requires c = record { short = subst (λ sets. IfSome (last_zone sets) IsShort) (sym c.as_slice-in-Patch-2.ensures) (subst IsShortIn c.in-Patch.is c.requires.short) }
