use Rattle.std.proofs.Common.{ap, ap₂, ◌∙◌}
use Rattle.std.specs.Prelude.{option_map}
use Rattle.cal_base.specs.Lines.ComponentTrees.{or_else}
use Rattle.cal_object.specs.DatesOutside as spec
use Rattle.cal_object.proofs.NestedLines.{nested}
use Rattle.cal_object.proofs.DateWalk.{stamp_outside-from_front}
use Rattle.cal_object.proofs.outside.date_outside.Goals as goal

pub returns : goal.returns
returns c = λ none names.
    ap (option_map (spec.stamp_beside names)) (c.either.ensures ∙ ap₂ or_else c.in_ok-early.ensures.early c.in_ok-early.ensures.late)
    ∙ stamp_outside-from_front names c.args.lines.now (nested c.args.lines.now none)
