use Rattle.std.proofs.Common.{ap, ◌∙◌}
use Rattle.std.specs.List.{list_any}
use Rattle.std.specs.Str.{chars}
use Rattle.cal_base.specs.Lines.ContentLines.{is_refused_character}
use Rattle.ical_lines.proofs.PhysicalLines.{refused-utf8, refused-other}
use Rattle.ical_lines.proofs.physical.is_refused.Goals as goal

pub returns-in-Ok : goal.returns-in-Ok
returns-in-Ok c =
    let valid = c.in-Ok.ensures.cases in
    c.has_refused.ensures ∙ ap (λ text. list_any is_refused_character (chars text)) valid.0 ∙ refused-utf8 c.args.text.now _ valid.1

pub returns-in-Err : goal.returns-in-Err
returns-in-Err c = refused-other c.args.text.now _ c.in-Err.ensures.cases.0
