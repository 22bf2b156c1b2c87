use Rattle.std.proofs.Common.{◌+◌, ◌≤◌, ◌++◌, length, sym, ap, ◌∙◌, arith}
use Rattle.cal_model.specs.Objects.ComponentLines.{name_of, lines_of, children_of}
use Rattle.cal_model.specs.Selections.LimitedSets.{left_out}
use Rattle.ical_objects.proofs.Printed.{OnOk-then}
use Rattle.expand_limit.specs.SeenRows.{left_nodes}
use Rattle.expand_limit.specs.ShownTexts.{body_text}
use Rattle.expand_limit.proofs.SeenParts.{left_nodes-same}
use Rattle.expand_limit.proofs.ShownParts.{body-text}
use Rattle.expand_limit.proofs.left.write_limited.Goals as goal

pub returns : goal.returns
returns c = OnOk-then c.write_without.result (λ f levels picks fits keeps.
    let limit = c.args.limit.now in
    let tree = limit.object.now.tree in
    let busy = c.args.busy in
    let nodes = children_of tree in
    let gone = c.in_ok-gone.gone in
    let left = left_out limit.object.now c.args.rows.now limit.zone.now limit.range in
    let within : 0 + length nodes ≤ length nodes = omega arith in
    let stay = left_nodes-same gone.items left (length nodes) 0 nodes c.in_ok-gone.ensures within in
    f levels picks fits keeps
    ∙ ap (λ those. c.args.out.now ++ body_text picks busy (name_of tree) (lines_of tree) (left_nodes those 0 nodes)) c.as_slice.ensures.value
    ∙ ap (λ those. c.args.out.now ++ body_text picks busy (name_of tree) (lines_of tree) those) stay
    ∙ ap (λ text. c.args.out.now ++ text) (sym (body-text picks busy (name_of tree) (lines_of tree) _))) c.write_without.ensures
