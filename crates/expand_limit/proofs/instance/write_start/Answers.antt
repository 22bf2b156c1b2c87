use Rattle.std.proofs.Common.{◌++◌, ap, ◌∙◌, append_assoc}
use Rattle.std.specs.Prelude.{flat_map}
use Rattle.cal_model.specs.Selections.RowLines.{rewritten}
use Rattle.ical_objects.proofs.Printed.{OnOk-then}
use Rattle.expand_limit.specs.InstanceLines.{lines_after_start_by}
use Rattle.expand_limit.specs.ShownTexts.{line_text}
use Rattle.expand_limit.proofs.MadeLines.{whole-moment}
use Rattle.expand_limit.proofs.instance.write_start.Goals as goal

pub returns : goal.returns
returns c = OnOk-then c.write_behind_start.result (λ f levels picks busy kept.
    let text = line_text picks busy in
    f levels picks busy kept ∙ ap (λ those. those ++ flat_map text (lines_after_start_by c.args.instance)) (c.in_ok-write_changed.ensures levels picks busy kept ∙ ap (λ start. c.args.out.now ++ text (rewritten c.args.instance.row.now.kind start c.args.line.now)) (whole-moment c.args.instance.row.now.start c.requires.row.start))
    ∙ append_assoc c.args.out.now (text (rewritten c.args.instance.row.now.kind c.args.instance.row.now.start c.args.line.now)) (flat_map text (lines_after_start_by c.args.instance))) c.write_behind_start.ensures
