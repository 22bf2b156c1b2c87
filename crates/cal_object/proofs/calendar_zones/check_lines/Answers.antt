use Rattle.std.proofs.Common.{◌∙◌, sym}
use Rattle.cal_base.specs.Lines.ContentLines.{placed_lines}
use Rattle.cal_object.proofs.FaultLaws.{own_told, lines_good}
use Rattle.cal_object.proofs.calendar_zones.check_lines.Goals as goal

pub returns-in-Some-clause-fault : goal.returns-in-Some-clause-fault
returns-in-Some-clause-fault c =
    rw c.at_line-in-Some.ensures
    (own_told (placed_lines c.args.octets.now) c.args.calendar.now c.in-Some.number (sym c.is_named.ensures ∙ c.if-not-is_named.false) (sym c.in-Some.is ∙ c.requires.scan.own))

pub returns-in-None-clause-good : goal.returns-in-None-clause-good
returns-in-None-clause-good c =
    lines_good (placed_lines c.args.octets.now) c.args.calendar.now (sym c.is_named.ensures ∙ c.if-not-is_named.false) (sym c.in-None.is ∙ c.requires.scan.own)
