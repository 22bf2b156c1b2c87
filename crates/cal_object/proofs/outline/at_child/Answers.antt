use Rattle.std.proofs.Common.{◌≡◌, ◌∙◌, sym, ap, Some, None}
use Rattle.std.specs.Prelude.{slice_get}
use Rattle.std.specs.Option.{option_copied}
use Rattle.cal_base.specs.Lines.ContentLines.{placed_lines}
use Rattle.cal_model.specs.Objects.LineValues.{lines_in}
use Rattle.cal_object.specs.declared.fault.ReadFault.TheVariants.{NotCalendar}
use Rattle.cal_object.specs.Scan.{child_numbers}
use Rattle.cal_object.proofs.PlaceLaws.{child_place, no_child_place}
use Rattle.cal_object.proofs.outline.at_child.Goals as goal

pub returns-in-Some : goal.returns-in-Some
returns-in-Some c =
    let placed = placed_lines c.args.octets.now in
    let there : Some c.in-Some.line.now ≡ slice_get (child_numbers (lines_in placed)) c.args.number =
    sym (ap option_copied c.in-Some.is) ∙ c.get.ensures ∙ ap (λ numbers. slice_get numbers c.args.number) c.requires.children in
    c.at_line.ensures ∙ ap NotCalendar (child_place placed c.args.number c.in-Some.line.now there)

pub returns-in-None : goal.returns-in-None
returns-in-None c =
    let placed = placed_lines c.args.octets.now in
    let none : None ≡ slice_get (child_numbers (lines_in placed)) c.args.number =
    sym (ap option_copied c.in-None.is) ∙ c.get.ensures ∙ ap (λ numbers. slice_get numbers c.args.number) c.requires.children in
    ap NotCalendar (no_child_place placed c.args.number none)
