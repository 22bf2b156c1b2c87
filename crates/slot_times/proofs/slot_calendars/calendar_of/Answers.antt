use Rattle.std.proofs.Common.{◌∙◌, sym, ap}
use Rattle.cal_model.specs.Paths.TargetPaths.{target_path}
use Rattle.slot_times.proofs.SlotSeen.{of_no_path, of_text}
use Rattle.slot_times.proofs.slot_calendars.calendar_of.Goals as goal

pub returns-in-Ok-Some : goal.returns-in-Ok-Some
returns-in-Ok-Some g c =
    let seen = c.args.seen.now in
    of_text (g.V.View.directory seen.view.now) (g.V.View.state seen.view.now) seen.who c.args.text.now c.in-Ok-Some.path c.place_of.result
    (sym c.in-Ok-Some.field-0-is ∙ c.in-Ok-Some.ensures ∙ ap target_path c.as_bytes.ensures.value) c.place_of.ensures

pub returns-in-Ok-None : goal.returns-in-Ok-None
returns-in-Ok-None g c =
    let seen = c.args.seen.now in
    of_no_path (g.V.View.directory seen.view.now) (g.V.View.state seen.view.now) seen.who c.args.text.now
    (sym c.in-Ok-None.field-0-is ∙ c.in-Ok-None.ensures ∙ ap target_path c.as_bytes.ensures.value)
