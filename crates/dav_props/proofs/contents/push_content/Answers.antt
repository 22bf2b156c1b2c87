use Rattle.std.proofs.Common.{◌++◌, sym, ap, ◌∙◌}
use Rattle.dav_write.proofs.Appending.{on_ok_then}
use Rattle.dav_props.specs.declared.rows.Row.{Row}
use Rattle.dav_props.specs.Contents.{shown_content}
use Rattle.dav_props.specs.Rows.{asked_name}
use Rattle.dav_props.proofs.contents.push_content.Goals as goal

pub returns-in-ContentType-clause-text : goal.returns-in-ContentType-clause-text
returns-in-ContentType-clause-text g c =
    on_ok_then c.extend_from_slice-in-ContentType.result
    (λ written. written ∙ ap (λ (row : Row). c.args.out.now ++ shown_content (g.V.View.directory c.args.seen.now.view.now) c.args.seen.now.who row (asked_name c.args.asked.now) c.args.subject.now) (sym c.in-ContentType.is))
    c.extend_from_slice-in-ContentType.ensures.ok

pub returns-in-Reports-clause-text : goal.returns-in-Reports-clause-text
returns-in-Reports-clause-text g c =
    on_ok_then c.extend_from_slice-in-Reports.result
    (λ written. written ∙ ap (λ (row : Row). c.args.out.now ++ shown_content (g.V.View.directory c.args.seen.now.view.now) c.args.seen.now.who row (asked_name c.args.asked.now) c.args.subject.now) (sym c.in-Reports.is))
    c.extend_from_slice-in-Reports.ensures.ok
