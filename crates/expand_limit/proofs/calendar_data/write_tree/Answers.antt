use Rattle.std.proofs.Common.{◌++◌, ap, ◌∙◌}
use Rattle.ical_objects.proofs.Printed.{OnOk-then}
use Rattle.expand_limit.proofs.ShownTrees.{whole-shown}
use Rattle.expand_limit.proofs.calendar_data.write_tree.Goals as goal

pub returns-in-Whole : goal.returns-in-Whole
returns-in-Whole c = OnOk-then c.write_whole.result (λ f levels picks fits keeps.
    f levels picks fits keeps ∙ ap (λ text. c.args.out.now ++ text) (whole-shown c.args.object.now c.args.rows.now c.args.select.now c.args.zone.now picks c.in-Whole.is)) c.write_whole.ensures
