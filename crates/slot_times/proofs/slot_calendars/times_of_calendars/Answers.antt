use Rattle.std.proofs.lemmas.Result.{IfOk-weaker}
use Rattle.slot_times.proofs.SlotRuns.{times_known}
use Rattle.slot_times.proofs.slot_calendars.times_of_calendars.Goals as goal

pub returns-in-Ok : goal.returns-in-Ok
returns-in-Ok g c =
    IfOk-weaker c.free_times.result _ _
    (λ times is. times_known (g.V.View.state c.args.seen.now.view.now) c.args.range c.args.seconds c.args.most c.args.calendars.now c.in-Ok.runs times c.requires.served c.requires.there c.in-Ok.ensures.runs is)
    c.free_times.ensures
