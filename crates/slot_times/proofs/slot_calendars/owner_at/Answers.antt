use Rattle.std.proofs.Common.{◌∙◌}
use Rattle.slot_times.proofs.SlotSeen.{owner_is, seen_at}
use Rattle.slot_times.proofs.slot_calendars.owner_at.Goals as goal

pub returns : goal.returns
returns g c =
    let seen = c.args.seen.now in
    let directory = g.V.View.directory seen.view.now in
    let state = g.V.View.state seen.view.now in
    let shown = c.scene_at-scene in
    let scene = shown.ensures.scene in
    seen_at directory state seen.who c.args.path.now shown.result.user _ scene.user shown.ensures.sound (c.owner_in.ensures ∙ owner_is shown.result _ scene)
