use Rattle.std.proofs.Common.{◌≡◌, ap, length, arith}
use Rattle.cal_base.specs.Lines.ContentLines.{placed_lines}
use Rattle.cal_model.specs.Objects.LineValues.{lines_in}
use Rattle.cal_object.proofs.FewLines.{lines_few}
use Rattle.cal_object.proofs.FaultLaws.{lines_read}
use Rattle.cal_object.proofs.outline.read_outline.Goals as goal

pub outline_of_lines-requires-clause-few : goal.outline_of_lines-requires-clause-few
outline_of_lines-requires-clause-few c =
    let few = lines_few c.args.octets.now in
    let same : length c.in-Ok.lines ≡ length (lines_in (placed_lines c.args.octets.now)) = ap length (lines_read c.args.octets.now c.in-Ok.lines c.in-Ok.ensures.lines) in
    let room = c.requires in
    omega (arith, few, same, room)
