use Rattle.std.proofs.Common.{◌≡◌, ◌+◌, sym, subst}
use Rattle.collections.specs.declared.home.KeptHome.{KeptHome}
use Rattle.collections.specs.Following.{home_in, home_after, AreOf}
use Rattle.collections.proofs.shown_home.ShownHome.follow.Goals as goal

pub follow_shown-requires-clause-calendars : goal.follow_shown-requires-clause-calendars
follow_shown-requires-clause-calendars c = subst (λ (home : KeptHome). AreOf (home_in c.args.change.now) home.calendars) (sym c.self.view_is) c.requires.home.placed

pub returns-clause-ok : goal.returns-clause-ok
returns-clause-ok c =
    subst (λ (home : KeptHome). ◌≡◌ {A = KeptHome} (record { accepted = c.self.inside.accepted + c.cost_of-cost.result; calendars = c.follow_shown.new.calendars }) (home_after c.args.change.now c.args.origin home)) c.self.view_is
    (λ i. record { accepted = c.self.inside.accepted + c.cost_of-cost.ensures i; calendars = c.in_ok-follow_shown.ensures.ok i })
